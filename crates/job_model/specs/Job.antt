-- A job, its finished run, and what of its output is released.
use Rattle.std.specs.Prelude.{ℕ, List, [], ◌∷◌, min, unwrap_or}
use Rattle.run_events.specs.declared.event.Event.{Event}
use Rattle.run_events.specs.declared.finding.Kind.{Kind}
use Rattle.machine_model.specs.Image.{Image}
use Rattle.machine_model.specs.Script.{Script}
use Rattle.any_machine.specs.Log.{before_step, output, SentByte, bytes_in}
use Rattle.any_machine.specs.Run.{Finished, events_of}
use Rattle.board_model.specs.Guest.{run}
use Rattle.analysis_model.specs.Complaints.{Guest, findings}
use Rattle.analysis_model.specs.Findings.{first_step}
use Rattle.analysis_model.specs.Made.{guest_of}

-- What is run: the guest, what its outside does, and the bytes of its disk; the RAM size in KiB, the limit in steps, and
-- how many places the log has; the chosen analyses in the order of the report, and those of them that are required. In
-- best-effort mode none is.
pub record Job : Type 0 where
  pub image : Image
  pub script : Script
  pub disk : List ℕ
  pub ram_kib : ℕ
  pub limit : ℕ
  pub cap : ℕ
  pub kinds : List Kind
  pub required : List Kind

-- the one machine of a job, run to its end, and all that it shows
abbrev pub finished : Job → Finished
finished job = run job.image job.script job.disk job.ram_kib job.limit

abbrev pub events : Job → List Event
events job = events_of (finished job).turns

-- what its findings depend on beside the events
abbrev pub guest : Job → Guest
guest job = guest_of job.image job.ram_kib

-- the step of an analysis' first finding over a run of so many steps, and that number where it has none
abbrev pub first_refused : Guest → List Event → ℕ → Kind → ℕ
first_refused guest events steps kind = unwrap_or (first_step (findings kind guest events)) steps

-- the least of the first steps that these analyses refuse, and the number of steps where there is none
abbrev pub least_refused : Guest → List Event → ℕ → List Kind → ℕ
least_refused guest events steps [] = steps
least_refused guest events steps (kind ∷ kinds) =
    min (first_refused guest events steps kind) (least_refused guest events steps kinds)

-- the first step of a job that a required analysis refuses, and the number of steps where none does
abbrev pub stop : Job → ℕ
stop job = least_refused (guest job) (events job) (finished job).steps job.required

-- the part of a job's output that goes out
abbrev pub released : Job → List SentByte
released job = before_step (stop job) (output (events job))

abbrev pub released_bytes : Job → List ℕ
released_bytes job = bytes_in (released job)
