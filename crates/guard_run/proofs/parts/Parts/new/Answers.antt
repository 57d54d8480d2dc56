use Rattle.std.proofs.Common.{◌≡◌, ◌<◌, length, subst, sym, arith}
use Rattle.std.specs.Prelude.{vec_len}
use Rattle.std.specs.List.{All}
use Rattle.guard_run.specs.Jobs.{course_of, job_of}
use Rattle.guard_run.specs.Openings.{AreReplicas}
use Rattle.guard_run.specs.Replicas.{IsFresh}
use Rattle.guard_run.proofs.CourseLaws.{places_within}
use Rattle.guard_run.proofs.OpeningLaws.{are_replicas, course_is}
use Rattle.guard_run.proofs.ZipLaws.{zip_length}
use Rattle.guard_run.proofs.parts.Parts.new.Goals as goal

pub new-requires-2-clause-some : goal.new-requires-2-clause-some
new-requires-2-clause-some c =
    omega (arith, c.requires.some, c.in_ok-replicas.replicas.ok.0, zip_length (IsFresh c.args.image.now c.args.job.now.ram_kib) c.args.job.now.kinds c.in_ok-replicas.replicas.items c.in_ok-replicas.ensures.fresh)

pub new-requires-2-clause-few : goal.new-requires-2-clause-few
new-requires-2-clause-few c =
    omega (arith, c.replicas_of.ensures.few, c.in_ok-replicas.replicas.ok.0, zip_length (IsFresh c.args.image.now c.args.job.now.ram_kib) c.args.job.now.kinds c.in_ok-replicas.replicas.items c.in_ok-replicas.ensures.fresh)

pub new-requires-2-clause-there : goal.new-requires-2-clause-there
new-requires-2-clause-there c =
    let same : length c.args.job.now.kinds ≡ vec_len c.in_ok-replicas.replicas =
    omega (arith, c.in_ok-replicas.replicas.ok.0, zip_length (IsFresh c.args.image.now c.args.job.now.ram_kib) c.args.job.now.kinds c.in_ok-replicas.replicas.items c.in_ok-replicas.ensures.fresh) in
    subst (λ n. All (λ place. place < n) c.in_ok-required.required.items) same (places_within c.args.job.now.kinds c.args.job.now.required c.in_ok-required.required.items c.in_ok-required.ensures)

pub returns : goal.returns
returns c =
    let job = job_of c.args.job.now c.args.image.now c.args.script c.args.disk.items in
    let replicas = c.in_ok-replicas.replicas.items in
    let places = c.in_ok-required.required.items in
    record {
      places = places;
      replicas = subst (λ l. AreReplicas job places l) (sym c.in_ok-new.ensures.followers) (are_replicas job places replicas c.requires c.in_ok-required.ensures c.in_ok-replicas.ensures.fresh);
      opened = c.in_ok-new.ensures.opened (course_of job places) (course_is job places replicas c.in_ok-machine.machine c.requires c.replicas_of.ensures.few c.in_ok-required.ensures c.in_ok-replicas.ensures.fresh c.in_ok-machine.ensures);
    }
