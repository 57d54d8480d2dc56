-- What each answer of the call's inside means.
use Rattle.std.specs.Prelude.{◌≡◌, ◌≢◌, ℕ, List, Option, Some, None, Result, Ok, Err}
use Rattle.after_edge.specs.Files.{Contents}
use Rattle.after_edge.specs.declared.sink.Failed.{Failed}
use Rattle.after_edge.specs.Sink.{Telling}
use Rattle.job_model.specs.Job.{Job}
use Rattle.guard_run.specs.declared.closing.Closing.{Closing}
use Rattle.refusals.specs.declared.refusal.Refusal.{Refusal}
use Rattle.refusals.specs.Lines.{output_failed_line, refusal_line}
use Rattle.refusals.specs.Status.{status_of}
use Rattle.after_cli.specs.declared.running.JobEnd.{JobEnd}
use Rattle.after_cli.specs.declared.running.JobEnd.TheVariants.{Done, OutputFailed}
use Rattle.after_cli.specs.Asked.{IsRunOf}
use Rattle.after_cli.specs.declared.top.Outcome.{Outcome}
use Rattle.after_cli.specs.Ends.{HasReason, TellsLine}
use Rattle.after_cli.specs.JobEnds.{HasFailedOutput, IsDoneJob}

module _ {O : Type 0} (content : Option Contents) (words : List (List ℕ)) (before now : ℕ)
    (out : Telling O) (old new : O) where
  -- a run of some job was done, or its output failed
  pub record HasDone (number : ℕ) (closing : Closing) : Type 0 where
    pub job : Job
    pub run : IsRunOf content words job
    pub still : now ≡ before
    pub done : IsDoneJob out old new job run.run.turns number closing

  pub record HasLostOutput (closing : Closing) : Type 0 where
    pub job : Job
    pub run : IsRunOf content words job
    pub still : now ≡ before
    pub failed : HasFailedOutput out old new job run.run.turns closing

  -- what an answer says of the words, the files and the output
  abbrev pub Means : Result JobEnd Refusal → Type 0
  Means (Ok (Done number closing)) = HasDone number closing
  Means (Ok (OutputFailed closing)) = HasLostOutput closing
  Means (Err refusal) = HasReason content words before now refusal × (new ≡ old)

-- how a call with an answer ends: its status and closing, and what is told of errors
abbrev pub Concludes : {E : Type 0} → Result JobEnd Refusal → Telling E → (old new : E) → Outcome
    → Type 0
Concludes (Ok (Done number closing)) err old new outcome =
    (outcome ≡ record { status = number; closing = Some closing }) × (new ≡ old)
Concludes (Ok (OutputFailed closing)) err old new outcome =
    (outcome ≡ record { status = 6; closing = Some closing })
    × TellsLine err old new output_failed_line
Concludes (Err refusal) err old new outcome =
    (outcome ≡ record { status = status_of refusal; closing = None })
    × TellsLine err old new (refusal_line refusal)

-- the same of a text that stands for itself
abbrev pub ShowsText : {E : Type 0} → Result (Unit {0}) Failed → Telling E → (old new : E) → Outcome
    → Type 0
ShowsText (Ok shown) err old new outcome =
    (outcome ≡ record { status = 0; closing = None }) × (new ≡ old)
ShowsText (Err failed) err old new outcome =
    (outcome ≡ record { status = 6; closing = None }) × TellsLine err old new output_failed_line

-- the end of a call whose output was flushed: as it was, or the end of an output that failed, which is told once
abbrev pub EndsFlushed : {E : Type 0} → Outcome → Result (Unit {0}) Failed → Telling E → (old new : E) → Outcome
    → Type 0
EndsFlushed ended (Ok flushed) err old new outcome = (outcome ≡ ended) × (new ≡ old)
EndsFlushed ended (Err failed) err old new outcome =
    (ended.status ≡ 6 → (outcome ≡ ended) × (new ≡ old))
    × (ended.status ≢ 6 → (outcome ≡ record { status = 6; closing = ended.closing })
    × TellsLine err old new output_failed_line)
