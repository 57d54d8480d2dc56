use Rattle.std.proofs.Common.{subst, sym}
use Rattle.guard_run.specs.Jobs.{course_of}
use Rattle.guard_run.specs.Openings.{AreReplicas}
use Rattle.guard_run.proofs.ClosingLaws.{closes_cut, closes_whole}
use Rattle.guard_run.proofs.parts.Parts.finish.Goals as goal

pub returns-clause-whole : goal.returns-clause-whole
returns-clause-whole c = λ job ended.
    closes_whole job ended.places (record { over = c.finish.result }) (subst (AreReplicas job ended.places) (sym c.finish.ensures.followers) ended.replicas) (c.finish.ensures.whole (course_of job ended.places) ended.ended)

pub returns-clause-cut : goal.returns-clause-cut
returns-clause-cut c = λ job count put stopped.
    closes_cut job stopped.places (record { over = c.finish.result }) (subst (AreReplicas job stopped.places) (sym c.finish.ensures.followers) stopped.replicas) count put (c.finish.ensures.cut (course_of job stopped.places) count put stopped.stopped)
