-- What a call of the program comes to, and when.
use Rattle.std.specs.Prelude.{◌≡◌, ◌⊎◌, ℕ, List, Option, Some, None, Err}
use Rattle.after_edge.specs.Files.{Contents}
use Rattle.after_edge.specs.Sink.{Telling, Writes, WritesPart}
use Rattle.command_words.specs.Jobs.{RunJob, job_in}
use Rattle.job_model.specs.Job.{Job}
use Rattle.guard_run.specs.declared.closing.Closing.{Closing}
use Rattle.refusals.specs.declared.refusal.Refusal.{Refusal}
use Rattle.refusals.specs.declared.refusal.Refusal.TheVariants as refusal
use Rattle.refusals.specs.Lines.{output_failed_line, refusal_line}
use Rattle.refusals.specs.Status.{status_of}
use Rattle.run_inputs.specs.Faults.{HasCause}
use Rattle.run_inputs.specs.Given.{inputs_in}
use Rattle.after_cli.specs.declared.top.Outcome.{Outcome}
use Rattle.after_cli.specs.Asked.{AsksForMore, IsAsked, IsRunOf, names_of}
use Rattle.after_cli.specs.JobEnds.{HasFailedOutput, IsDoneJob}

-- A call of the program: its words; what the files tell, and how often they had failed before and after it; the output and
-- the error sink before and after it.
pub record Call (O E : Type 0) : Type 1 where
  pub words : List (List ℕ)
  pub content : Option Contents
  pub faults : ℕ
  pub faults_after : ℕ
  pub out : Telling O
  pub old : O
  pub new : O
  pub err : Telling E
  pub err_old : E
  pub err_new : E

-- the line was added, or the sink's count rose and some prefix of the line was added
abbrev pub TellsLine : {E : Type 0} → Telling E → E → E → List ℕ → Type 0
TellsLine sink old new told = Writes sink old new told ⊎ WritesPart sink old new told

-- Why a call does nothing, and the files' count, which is as before unless a call of them failed: the words are no job; they
-- ask for what is not built; the files of a run are not taken; or there was no memory to open the run of some job.
abbrev pub HasReason : Option Contents → List (List ℕ) → (before now : ℕ) → Refusal → Type 0
HasReason content words before now (refusal.Words fault) =
    (now ≡ before) × (job_in words ≡ Err fault)
HasReason content words before now refusal.NotBuilt = (now ≡ before) × AsksForMore words
HasReason content words before now (refusal.Inputs fault) =
    (run : RunJob) × IsAsked words run
    × HasCause (inputs_in run.ram_kib) content (names_of run) before now fault
HasReason content words before now refusal.NoMemory =
    (now ≡ before) × (job : Job) × IsRunOf content words job

-- A run was done: the bytes added to the output are the text of its job, no more and no less, by turns of the pattern that
-- the words name; the status is the job's, nothing was told of errors, and the files' count is as before.
pub record IsDone {O E : Type 0} (call : Call O E) (outcome : Outcome) : Type 0 where
  pub job : Job
  pub run : IsRunOf call.content call.words job
  pub still : call.faults_after ≡ call.faults
  pub closing : Closing
  pub opened : outcome.closing ≡ Some closing
  pub done : IsDoneJob call.out call.old call.new job run.run.turns outcome.status closing
  pub quiet : call.err_new ≡ call.err_old

-- A put of the output failed: its count rose, some prefix of the job's text was added, and the files' count is as before.
pub record IsCutOff {O E : Type 0} (call : Call O E) (outcome : Outcome) : Type 0 where
  pub job : Job
  pub run : IsRunOf call.content call.words job
  pub still : call.faults_after ≡ call.faults
  pub status : outcome.status ≡ 6
  pub closing : Closing
  pub opened : outcome.closing ≡ Some closing
  pub failed : HasFailedOutput call.out call.old call.new job run.run.turns closing
  pub told : TellsLine call.err call.err_old call.err_new output_failed_line

-- Nothing was done, for this reason: nothing was added to the output, and no run was opened.
pub record IsRefused {O E : Type 0} (call : Call O E) (outcome : Outcome) : Type 0 where
  pub why : Refusal
  pub reason : HasReason call.content call.words call.faults call.faults_after why
  pub status : outcome.status ≡ status_of why
  pub unopened : outcome.closing ≡ None
  pub same : call.new ≡ call.old
  pub told : TellsLine call.err call.err_old call.err_new (refusal_line why)

abbrev pub Ends : {O E : Type 0} → Call O E → Outcome → Type 0
Ends call outcome = IsDone call outcome ⊎ IsCutOff call outcome ⊎ IsRefused call outcome
