-- Where the files tell what they are, and neither they nor the output fail, a call comes to one thing, or to no memory.
use Rattle.std.proofs.Common.{◌≡◌, ℕ, false, ltb, List, Some, Result, Ok, Err, inl, inr, sym, ap, subst, ◌∙◌, arith}
use Rattle.std.proofs.lemmas.Bool.{lt-ltb, le-ltb}
use Rattle.std.specs.Prelude.{IsSome}
use Rattle.after_edge.specs.Fault.{Rose}
use Rattle.after_edge.specs.Files.{Contents}
use Rattle.after_edge.specs.Sink.{Telling, Writes}
use Rattle.command_words.specs.declared.fault.WordsFault.{WordsFault}
use Rattle.command_words.specs.Jobs.{RunJob, Run, Record, Analyze, Show, Load, job_in}
use Rattle.command_words.specs.Jobs as words
use Rattle.job_model.specs.Job.{Job}
use Rattle.job_model.specs.Text.{text, status}
use Rattle.refusals.specs.declared.refusal.Refusal.{Refusal}
use Rattle.refusals.specs.declared.refusal.Refusal.TheVariants as refusal
use Rattle.refusals.specs.Status.{input_status, status_of}
use Rattle.run_inputs.specs.Faults.{HasCause}
use Rattle.run_inputs.specs.Files.{Comes}
use Rattle.run_inputs.specs.Given.{Given, inputs_in}
use Rattle.run_inputs.specs.Given as given
use Rattle.run_inputs.proofs.JudgeLaws.{given_there}
use Rattle.after_cli.specs.declared.top.Outcome.{Outcome}
use Rattle.after_cli.specs.Asked.{IsAsked, IsMore, job_for, names_of}
use Rattle.after_cli.specs.Ends.{Call, Ends, HasReason, IsDone}
use Rattle.after_cli.specs.Exact.{IsRight, IsRightBy, found_in}
use Rattle.after_cli.proofs.FileLaws.{Refuses, For, NoMemory, one_answer, one_fault}

module _ {O : Type 0} (out : Telling O) (old new : O) (outcome : Outcome) (told : Contents) where
  -- of a run that is asked for
  right_asked : (ws : List (List ℕ)) (run : RunJob) → IsAsked ws run → IsRightBy out old new outcome told run (inputs_in run.ram_kib (found_in told (names_of run))) → IsRight out old new outcome told (job_in ws)
  right_asked ws run asked by =
      let plain : ltb 0 run.threads ≡ false = le-ltb 0 run.threads (omega (arith, asked.plain)) in
      subst (IsRight out old new outcome told) (sym asked.asked) (rw plain by)

  -- of what is not built
  right_more : (job : Result words.Job WordsFault) → IsMore job → outcome.status ≡ 10 → IsRight out old new outcome told job
  right_more (Ok (Run run)) more is = rw (lt-ltb 0 run.threads more) is
  right_more (Ok (Record job)) more is = is
  right_more (Ok (Analyze job)) more is = is
  right_more (Ok (Show job)) more is = is
  right_more (Ok (Load job)) more is = is
  right_more (Err fault) more is = absurd more

  right_no_memory : (run : RunJob) (answer : Result Given given.Refusal) → outcome.status ≡ 9 → IsSome (told run.image) → IsRightBy out old new outcome told run answer
  right_no_memory run (Ok inputs) is there = inl (is, there)
  right_no_memory run (Err e) is there = inl (is, there)

  -- of files that are not taken
  right_fault : (run : RunJob) (number : ℕ) → outcome.status ≡ number → Refuses told (names_of run) (inputs_in run.ram_kib) number → IsRightBy out old new outcome told run (inputs_in run.ram_kib (found_in told (names_of run)))
  right_fault run number status (For e is named) = subst (IsRightBy out old new outcome told run) (sym is) (inr (status ∙ named))
  right_fault run number status (NoMemory there is) = right_no_memory run (inputs_in run.ram_kib (found_in told (names_of run))) (status ∙ is) there

-- a reason, by its case
right_reason : {O E : Type 0} (call : Call O E) (outcome : Outcome) (told : Contents) (why : Refusal) → call.content ≡ Some told → (Rose call.faults call.faults_after → ⊥) → outcome.status ≡ status_of why
    → HasReason call.content call.words call.faults call.faults_after why → IsRight call.out call.old call.new outcome told (job_in call.words)
right_reason call outcome told (refusal.Words fault) tells stays status (still, is) = subst (IsRight call.out call.old call.new outcome told) (sym is) status
right_reason call outcome told refusal.NotBuilt tells stays status (still, more) = right_more call.out call.old call.new outcome told (job_in call.words) more status
right_reason call outcome told (refusal.Inputs fault) tells stays status (run, asked, cause) =
    let cause_told = subst (λ c. HasCause (inputs_in run.ram_kib) c (names_of run) call.faults call.faults_after fault) tells cause in
    right_asked call.out call.old call.new outcome told call.words run asked
    (right_fault call.out call.old call.new outcome told run (input_status fault) status (one_fault told (names_of run) (inputs_in run.ram_kib) call.faults call.faults_after fault stays cause_told))
right_reason call outcome told refusal.NoMemory tells stays status (still, job, is) =
    let run = is.run in
    let there = given_there run.ram_kib call.content (names_of run) is.given is.comes in
    right_asked call.out call.old call.new outcome told call.words run is.asked (right_no_memory call.out call.old call.new outcome told run (inputs_in run.ram_kib (found_in told (names_of run))) status (there told tells))

-- a run that was done
right_done : {O E : Type 0} (call : Call O E) (outcome : Outcome) (told : Contents) → call.content ≡ Some told → IsDone call outcome → IsRight call.out call.old call.new outcome told (job_in call.words)
right_done call outcome told tells done =
    let run = done.run.run in
    let inputs = done.run.given in
    let comes = subst (λ c. Comes (inputs_in run.ram_kib) c (names_of run) (Ok inputs)) tells done.run.comes in
    let gives = one_answer told (names_of run) (inputs_in run.ram_kib) (Ok inputs) comes in
    let written : Writes call.out call.old call.new (text (job_for run inputs)) = subst (λ (job : Job). Writes call.out call.old call.new (text job)) done.run.is done.done.written in
    let number : outcome.status ≡ status (job_for run inputs) = done.done.status_is ∙ ap (λ (job : Job). status job) done.run.is in
    right_asked call.out call.old call.new outcome told call.words run done.run.asked
    (subst (IsRightBy call.out call.old call.new outcome told run) (sym gives) (inr (written, number)))

pub exact_of : {O E : Type 0} (call : Call O E) (outcome : Outcome) (told : Contents) → call.content ≡ Some told → (Rose call.faults call.faults_after → ⊥) → (Rose (call.out.faults call.old) (call.out.faults call.new) → ⊥)
    → Ends call outcome → IsRight call.out call.old call.new outcome told (job_in call.words)
exact_of call outcome told tells files_stay out_stays (inl done) = right_done call outcome told tells done
exact_of call outcome told tells files_stay out_stays (inr (inl cut)) = absurd (out_stays cut.failed.written.rose)
exact_of call outcome told tells files_stay out_stays (inr (inr refused)) = right_reason call outcome told refused.why tells files_stay refused.status refused.reason
