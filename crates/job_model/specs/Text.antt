-- The text that a job writes, and the status that it ends with.
use Rattle.std.specs.Prelude.{ℕ, Bool, List, ◌++◌, length, is_some, if◌then◌else◌}
use Rattle.std.specs.List.{flat_map, list_any}
use Rattle.run_events.specs.declared.event.Event.{Event}
use Rattle.run_events.specs.declared.finding.Kind.{Kind}
use Rattle.run_events.specs.declared.record.EndCause.{EndCause}
use Rattle.run_events.specs.declared.record.EndCause.TheVariants.{Power, Limit}
use Rattle.any_machine.specs.Log.{log, output}
use Rattle.analysis_model.specs.Complaints.{Guest, findings}
use Rattle.analysis_model.specs.Findings.{first_step}
use Rattle.analysis_model.specs.declared.facts.RunFacts.{RunFacts}
use Rattle.analysis_model.specs.Report.{head_text, part_text}
use Rattle.job_model.specs.Job.{Job, finished, events, guest, released, released_bytes}

-- what the head of a job's report tells; of the log it tells the number of records
abbrev pub facts : Job → RunFacts
facts job = record {
  steps = (finished job).steps;
  end = (finished job).cause;
  issued = length (output (events job));
  released = length (released job);
  items = length (log (finished job));
}

-- the report of a job: its head, and the part of each chosen analysis
abbrev pub report : Job → List ℕ
report job = head_text (facts job) ++ flat_map (part_text (guest job) (events job)) job.kinds

-- the bytes of the released output, then the report
abbrev pub text : Job → List ℕ
text job = released_bytes job ++ report job

-- some analysis has a finding
abbrev pub has_finding : Guest → List Event → List Kind → Bool
has_finding guest events kinds =
    list_any (λ kind. is_some (first_step (findings kind guest events))) kinds

-- the status of an end
abbrev pub status_of : EndCause → Bool → ℕ
status_of (Power status) found = if found then 1 else 0
status_of Limit found = if found then 1 else 8

-- the status of a job
abbrev pub status : Job → ℕ
status job = status_of (finished job).cause (has_finding (guest job) (events job) job.kinds)
