use Rattle.std.proofs.Common.{◌≡◌, false, take}
use Rattle.std.specs.Prelude.{is_some}
use Rattle.std.specs.List.{list_any}
use Rattle.analysis_model.specs.Complaints.{findings}
use Rattle.analysis_model.specs.Findings.{first_step}
use Rattle.guard_run.specs.Closings.{IsWholeRun}
use Rattle.job_model.specs.Job.{Job, events, guest}
use Rattle.after_cli.proofs.running.has_finding.Given as goal

-- the analyses before this one have no finding
abbrev pub invariant-loop-replica : goal.invariant-loop-replica
invariant-loop-replica l = (job : Job) → IsWholeRun job l.closing → list_any (λ kind. is_some (first_step (findings kind (guest job) (events job)))) (take l.replica job.kinds) ≡ false
