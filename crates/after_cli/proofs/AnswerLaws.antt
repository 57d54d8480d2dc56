-- What an answer means, the call comes to.
use Rattle.std.proofs.Common.{◌≡◌, inl, inr, ℕ, List, Option, Result, Ok, Err, refl, ap, sym, subst}
use Rattle.after_edge.specs.Files.{Contents}
use Rattle.after_edge.specs.Sink.{Telling}
use Rattle.command_words.specs.Jobs.{RunJob}
use Rattle.command_words.specs.Jobs as words
use Rattle.refusals.specs.declared.refusal.Refusal.{Refusal}
use Rattle.refusals.specs.declared.refusal.Refusal.TheVariants.{NoMemory}
use Rattle.run_inputs.specs.Files.{Comes}
use Rattle.run_inputs.specs.Given.{Given, inputs_in}
use Rattle.after_cli.specs.declared.running.JobEnd.{JobEnd}
use Rattle.after_cli.specs.declared.running.JobEnd.TheVariants.{Done, OutputFailed}
use Rattle.after_cli.specs.declared.top.Outcome.{Outcome}
use Rattle.after_cli.specs.Asked.{IsAsked, IsRunOf, job_for, names_of}
use Rattle.after_cli.specs.Ends.{Call, Ends}
use Rattle.after_cli.specs.JobEnds.{IsDoneJob, JobEndsBy}
use Rattle.after_cli.specs.Means.{Concludes, Means}

-- what stands of a run whose files were taken
module _ {O : Type 0} (content : Option Contents) (ws : List (List ℕ)) (before now : ℕ) (out : Telling O) (old new : O) (run : RunJob) (given : Given) (asked : IsAsked ws run) (comes : Comes (inputs_in run.ram_kib) content (names_of run) (Ok given)) (still : now ≡ before) where
  abbrev of_run : IsRunOf content ws (job_for run given)
  of_run = record { run = run; asked = asked; given = given; comes = comes; is = refl }

  -- it was opened
  pub means_end : (end : JobEnd) → JobEndsBy out old new (job_for run given) run.turns end → Means content ws before now out old new (Ok end)
  means_end (Done number closing) done = record { job = job_for run given; run = of_run; still = still; done = done }
  means_end (OutputFailed closing) failed = record { job = job_for run given; run = of_run; still = still; failed = failed }

  -- there was no memory to open it
  pub means_no_memory : new ≡ old → Means content ws before now out old new (Err NoMemory)
  means_no_memory same = ((still, job_for run given, of_run), same)

pub ends_of : {O E : Type 0} (call : Call O E) (answer : Result JobEnd Refusal) (outcome : Outcome) → Means call.content call.words call.faults call.faults_after call.out call.old call.new answer
    → Concludes answer call.err call.err_old call.err_new outcome → Ends call outcome
ends_of call (Ok (Done number closing)) outcome means ends =
    let status : outcome.status ≡ number = ap (λ (o : Outcome). o.status) ends.0 in
    inl (record {
      job = means.job;
      run = means.run;
      still = means.still;
      closing = closing;
      opened = ap (λ (o : Outcome). o.closing) ends.0;
      done = subst (λ (n : ℕ). IsDoneJob call.out call.old call.new means.job means.run.run.turns n closing) (sym status) means.done;
      quiet = ends.1;
    })
ends_of call (Ok (OutputFailed closing)) outcome means ends =
    inr (inl (record {
      job = means.job;
      run = means.run;
      still = means.still;
      status = ap (λ (o : Outcome). o.status) ends.0;
      closing = closing;
      opened = ap (λ (o : Outcome). o.closing) ends.0;
      failed = means.failed;
      told = ends.1;
    }))
ends_of call (Err refusal) outcome means ends =
    inr (inr (record {
      why = refusal;
      reason = means.0;
      status = ap (λ (o : Outcome). o.status) ends.0;
      unopened = ap (λ (o : Outcome). o.closing) ends.0;
      same = means.1;
      told = ends.1;
    }))
