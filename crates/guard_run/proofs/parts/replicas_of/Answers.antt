use Rattle.guard_run.specs.Replicas.{IsFresh}
use Rattle.guard_run.proofs.ZipLaws.{zip_more}
use Rattle.guard_run.proofs.parts.replicas_of.Goals as goal

pub loop-index-preserved : goal.loop-index-preserved
loop-index-preserved c =
    zip_more (IsFresh c.args.image.now c.args.job.now.ram_kib) c.args.job.now.kinds c.loop-index.replicas.items c.push.new.self.items c.loop-index.index c.get.result c.in_ok-replica.replica c.loop-index.invariant c.get.ensures.found c.in_ok-replica.ensures
    c.in_ok-push.ensures.items
