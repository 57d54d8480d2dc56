use Rattle.std.proofs.Common.{◌∙◌, reverse}
use Rattle.board_model.specs.Guest.{started}
use Rattle.analysis_set.specs.Analysis.{kib_of, made_of}
use Rattle.guard_run.specs.Verdicts.{shown_of}
use Rattle.guard_run.proofs.ReplicaLaws.{found_by, says_on}
use Rattle.guard_run.proofs.replica.ReplicaFollower.verdict.Goals as goal

pub returns : goal.returns
returns c = λ items was.
    let replica = c.args.self.now in
    let h = shown_of replica.image replica.ram_kib items in
    says_on replica.image replica.ram_kib replica.kind items c.verdict_of.result c.first.result c.reach.result c.verdict_of.ensures
    (c.first.ensures.seen h was.seen ∙ found_by replica.kind replica.image replica.ram_kib (made_of replica.analysis) (kib_of replica.analysis) h was.made was.size)
    (c.reach.ensures.executed (started replica.image replica.ram_kib) (reverse items) was.replays)
