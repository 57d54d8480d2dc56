-- What the findings over a prefix of a job's log say of the first step that an analysis refuses over the whole run.
use Rattle.std.proofs.Common.{◌≡◌, ℕ, ◌≤◌, List, ◌++◌, Option, None, Some, refl, sym, ap, ◌∙◌, subst, arith}
use Rattle.std.specs.Prelude.{unwrap_or, IfSome}
use Rattle.list_laws.specs.Prefix.{IsPrefix}
use Rattle.list_laws.proofs.AllLaws.{all_through}
use Rattle.run_events.specs.declared.finding.Kind.{Kind}
use Rattle.run_events.specs.declared.record.Record.{Record}
use Rattle.any_machine.specs.Log.{log}
use Rattle.any_machine.specs.Replay.{executed, shown}
use Rattle.any_machine.proofs.Determinism.{prefix_within}
use Rattle.hart_model.specs.Machine.{hart}
use Rattle.hart_model.specs.State.{State}
use Rattle.hart_model.proofs.CountLaws.{hart_counts}
use Rattle.machine_model.specs.Board.{AreMarked}
use Rattle.analysis_model.specs.Complaints.{findings}
use Rattle.analysis_model.specs.Findings.{first_step}
use Rattle.analysis_model.proofs.FindingLaws.{findings-extend, findings-stand, first_stands, first_stays, first_comes}
use Rattle.analysis_model.proofs.LookLaws.{EachEvent}
use Rattle.job_model.specs.Job.{Job, events, finished, first_refused, guest}
use Rattle.job_model.proofs.LaterShown.{ShowsOn, shown_within, shows_on}
use Rattle.job_model.proofs.RunLaws.{first_state, job_replayed, job_runs, job_shown}

-- What a prefix that comes so far tells of a limit: a first finding stands at it, and no further than it comes; where there
-- is none, the limit is no nearer.
pub record Foretells (first : Option ℕ) (come limit : ℕ) : Type 0 where
  pub found : (step : ℕ) → first ≡ Some step → (step ≡ limit) × (step ≤ come)
  pub none : first ≡ None → come ≤ limit

-- what is true of the step of some first finding, or of the number of steps where there is none
limit_by : (P : ℕ → Type 0) (first : Option ℕ) (steps : ℕ) → IfSome first P → P steps → P (unwrap_or first steps)
limit_by P (Some step) steps is past = is
limit_by P None steps is past = past

found_within : (P : ℕ → Type 0) (first : Option ℕ) (step : ℕ) → first ≡ Some step → IfSome first P → P step
found_within P first step is there = subst (λ o. IfSome o P) is there

module _ (job : Job) (marked : AreMarked job.script.entries) (prefix : List Record) (is : IsPrefix prefix (log (finished job))) where
  -- the events of the run are those that the prefix shows, and later ones
  pub run_on : ShowsOn hart (λ (s : State). s.step) hart_counts (first_state job) refl prefix is.rest
  run_on = shows_on hart (λ (s : State). s.step) hart_counts (first_state job) refl is.rest prefix

  joined : events job ≡ shown hart (first_state job) prefix ++ run_on.later
  joined = sym (job_shown job marked) ∙ ap (shown hart (first_state job)) (sym is.joined) ∙ run_on.joined

  later : EachEvent (λ step. executed hart (first_state job) prefix ≤ step) run_on.later
  later = all_through (λ event there. there.0) run_on.later run_on.stand

  -- it executes no more steps than the run has
  pub executed_within : executed hart (first_state job) prefix ≤ (finished job).steps
  executed_within = omega (arith, (job_replayed job marked prefix is).executes, prefix_within hart (first_state job) (finished job) prefix (job_runs job marked) is)

  pub foretells : (kind : Kind) → Foretells (first_step (findings kind (guest job) (shown hart (first_state job) prefix))) (executed hart (first_state job) prefix) (first_refused (guest job) (events job) (finished job).steps kind)
  foretells kind =
      let come = executed hart (first_state job) prefix in
      let old = findings kind (guest job) (shown hart (first_state job) prefix) in
      let extends = findings-extend (λ step. come ≤ step) kind (guest job) (shown hart (first_state job) prefix) run_on.later later in
      let all = findings kind (guest job) (shown hart (first_state job) prefix ++ run_on.later) in
      let same : first_step (findings kind (guest job) (events job)) ≡ first_step all = ap (λ l. first_step (findings kind (guest job) l)) joined in
      let within = first_stands (λ step. step ≤ come) old (findings-stand (λ step. step ≤ come) kind (guest job) (shown hart (first_state job) prefix) (shown_within hart (λ (s : State). s.step) hart_counts (first_state job) refl prefix)) in
      record {
        found = λ step there.
            (sym (ap (λ o. unwrap_or o (finished job).steps) (same ∙ first_stays (λ step. come ≤ step) old all step extends there)), found_within (λ step. step ≤ come) (first_step old) step there within);
        none = λ nothing.
            limit_by (λ step. come ≤ step) (first_step (findings kind (guest job) (events job))) (finished job).steps
            (subst (λ o. IfSome o (λ step. come ≤ step)) (sym same) (first_comes (λ step. come ≤ step) old all extends nothing)) executed_within;
      }
