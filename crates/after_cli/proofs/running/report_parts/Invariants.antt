use Rattle.std.proofs.Common.{take}
use Rattle.std.specs.List.{flat_map}
use Rattle.after_edge.specs.Sink.{Writes}
use Rattle.analysis_model.specs.Report.{part_text}
use Rattle.guard_run.specs.Closings.{IsWholeRun}
use Rattle.job_model.specs.Job.{Job, events, guest}
use Rattle.after_cli.proofs.running.report_parts.Given as goal

-- the parts of the analyses before this one are written
abbrev pub invariant-loop-replica : goal.invariant-loop-replica
invariant-loop-replica g l = (job : Job) → IsWholeRun job l.closing → Writes g.O.Sink.told l.initial.out l.out (flat_map (part_text (guest job) (events job)) (take l.replica job.kinds))
