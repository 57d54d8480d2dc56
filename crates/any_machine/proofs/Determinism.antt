-- Determinism: each prefix of a run's own log fits, and what is shown of it are the run's first events.
use Rattle.std.proofs.Common.{◌≡◌, ◌≤◌, List, reverse, None, sym, ap, ◌∙◌, arith}
use Rattle.list_laws.specs.Prefix.{IsPrefix}
use Rattle.list_laws.proofs.PrefixLaws.{whole_IsPrefix}
use Rattle.run_events.specs.declared.record.Record.{Record}
use Rattle.run_events.specs.declared.record.Record.TheVariants.{End}
use Rattle.run_events.specs.Record.{reach, dmas_at}
use Rattle.run_events.proofs.RecordLaws.{reach_push}
use Rattle.any_machine.specs.Machine.{Machine}
use Rattle.any_machine.specs.Run.{Finished, Runs, events_of, first_events}
use Rattle.any_machine.specs.Log.{turns_log, log}
use Rattle.any_machine.specs.Replay.{Outcome, shown_by, first_fault, executed, shown}
use Rattle.any_machine.proofs.Order.{dmas_at-words}
use Rattle.any_machine.proofs.Prefixes.{IsRunPrefix, log_prefixes}
use Rattle.any_machine.proofs.Shown.{prefix_shown, all_first}

-- a log comes as far as its run
pub reach_log : (run : Finished) → reach (log run) ≡ run.steps
reach_log run = reach_push (turns_log 0 0 run.turns) (End run.steps run.cause)

module _ {S : Type 0} (m : Machine S) (start : S) (run : Finished) (prefix : List Record) (runs : Runs m start run) (is : IsPrefix prefix (log run)) where
  pub prefix_IsRunPrefix : IsRunPrefix m start run.turns run.cause (reverse prefix)
  prefix_IsRunPrefix = log_prefixes m start run prefix runs is

  pub prefix_fits : first_fault m start prefix ≡ None
  prefix_fits = ap (λ (o : Outcome). o.fault) prefix_IsRunPrefix.fits

  pub prefix_executed : executed m start prefix ≡ reach prefix
  prefix_executed = ap (λ (o : Outcome). o.done) prefix_IsRunPrefix.fits

  pub prefix_within : reach prefix ≤ run.steps
  prefix_within = omega (arith, prefix_IsRunPrefix.within, runs.counted)

  -- its reach, and as many words of the step that follows as it has
  pub shown_first : shown m start prefix ≡ first_events (reach prefix) (dmas_at (reach prefix) (reverse prefix)) run.turns
  shown_first =
      ap (shown_by m start) prefix_IsRunPrefix.fits ∙ prefix_shown m start run.turns run.cause (reverse prefix) runs.is_run prefix_IsRunPrefix
      ∙ ap (λ w. first_events (reach prefix) w run.turns) (sym (dmas_at-words (reach prefix) (reverse prefix)))

-- the whole log shows all
pub shown_whole : {S : Type 0} (m : Machine S) (start : S) (run : Finished) → Runs m start run → shown m start (log run) ≡ events_of run.turns
shown_whole m start run runs =
    shown_first m start run (log run) runs (whole_IsPrefix (log run)) ∙ all_first run.turns (reach (log run)) (dmas_at (reach (log run)) (reverse (log run))) (reach_log run ∙ runs.counted)
