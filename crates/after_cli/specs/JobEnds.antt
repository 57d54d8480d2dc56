-- What each end of a job's run means.
use Rattle.std.specs.Prelude.{◌≡◌, ◌⊎◌, ℕ, List, ◌++◌, length, take, Result, Ok, Err}
use Rattle.list_laws.specs.Prefix.{IsPrefix}
use Rattle.after_edge.specs.Sink.{Telling, Adds, Writes, WritesPart}
use Rattle.job_model.specs.Job.{Job, released_bytes}
use Rattle.job_model.specs.Text.{report, text, status}
use Rattle.guard_run.specs.declared.closing.Closing.{Closing}
use Rattle.guard_run.specs.Closings.{IsCutRun, IsWholeRun}
use Rattle.guard_run.specs.declared.parts.Parts.{Parts}
use Rattle.guard_run.specs.Openings.{IsEnded, IsOpened, IsStopped, StopsBy, TakesTurns, released_in}
use Rattle.run_settings.specs.declared.letter.Letter.{Letter}
use Rattle.after_cli.specs.declared.running.JobEnd.{JobEnd}
use Rattle.after_cli.specs.declared.running.JobEnd.TheVariants.{Done, OutputFailed}

-- some job, which has so many analyses, is that of a closing whose run went to its end
pub record IsOver (count : ℕ) (closing : Closing) : Type 0 where
  pub of : Job
  pub whole : IsWholeRun of closing
  pub all : count ≡ length of.kinds

-- The parts of the job's run were opened, and turns of this pattern led from there to its end.
pub record EndsByTurns {S : Type 0} (sink : Telling S) (old new : S) (job : Job)
    (turns : List Letter) : Type 0 where
  pub opened : Parts
  pub over : Parts
  pub before : IsOpened job opened
  pub taken : TakesTurns sink turns opened over old new
  pub ended : IsEnded job over

-- Or they led to a turn in which a put failed: so many records were in the log then, and so many bytes went out.
pub record StopsByTurns {S : Type 0} (sink : Telling S) (old new : S) (job : Job)
    (turns : List Letter) (count put : ℕ) : Type 0 where
  pub opened : Parts
  pub over : Parts
  pub before : IsOpened job opened
  pub taken : StopsBy sink turns opened over old new
  pub stopped : IsStopped job count put over

-- A put of the guest's output failed, in a turn of the pattern. The closing's log has the first so many records of the
-- job's, and the first so many bytes were written of those that are let out of these records.
pub record IsCutInOutput {S : Type 0} (sink : Telling S) (old new : S) (job : Job)
    (turns : List Letter) (closing : Closing) : Type 0 where
  pub count : ℕ
  pub put : ℕ
  pub went : StopsByTurns sink old new job turns count put
  pub added : Adds sink.holds old new (take put (released_in job count))
  pub closing_is : IsCutRun job count put closing

-- A put of the report failed. The run was whole, by turns of the pattern, and all released output was written, and then a
-- prefix of the report.
pub record IsCutInReport {S : Type 0} (sink : Telling S) (old new : S) (job : Job)
    (turns : List Letter) (closing : Closing) : Type 0 where
  pub between : S
  pub went : EndsByTurns sink old between job turns
  pub part : List ℕ
  pub is_prefix : IsPrefix part (report job)
  pub told : Adds sink.holds between new part
  pub added : Adds sink.holds old new (released_bytes job ++ part)
  pub closing_is : IsWholeRun job closing

-- The whole text of the job was written, the output by turns of the pattern and then the report, and the status is the
-- job's. The closing holds the job's whole log, which each replica has taken, each record once and in order.
pub record IsDoneJob {S : Type 0} (sink : Telling S) (old new : S) (job : Job)
    (turns : List Letter) (number : ℕ) (closing : Closing) : Type 0 where
  pub between : S
  pub went : EndsByTurns sink old between job turns
  pub told : Writes sink between new (report job)
  pub written : Writes sink old new (text job)
  pub status_is : number ≡ status job
  pub closing_is : IsWholeRun job closing

-- A put failed, for which the sink's count rose, and some prefix of the text was written.
pub record HasFailedOutput {S : Type 0} (sink : Telling S) (old new : S) (job : Job)
    (turns : List Letter) (closing : Closing) : Type 0 where
  pub written : WritesPart sink old new (text job)
  pub cut :
      IsCutInOutput sink old new job turns closing ⊎ IsCutInReport sink old new job turns closing

-- how a job ends that was opened
abbrev pub JobEndsBy : {S : Type 0} → Telling S → (old new : S) → Job → List Letter → JobEnd
    → Type 0
JobEndsBy sink old new job turns (Done number closing) =
    IsDoneJob sink old new job turns number closing
JobEndsBy sink old new job turns (OutputFailed closing) =
    HasFailedOutput sink old new job turns closing

-- no memory comes before anything is written, and has no cause
abbrev pub JobEnds : {S E : Type 0} → Telling S → (old new : S) → Job → List Letter
    → Result JobEnd E → Type 0
JobEnds sink old new job turns (Ok end) = JobEndsBy sink old new job turns end
JobEnds sink old new job turns (Err none) = new ≡ old
