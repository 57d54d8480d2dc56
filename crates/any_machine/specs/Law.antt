-- Determinism, as it is said of a machine: a run's own log fits it.
use Rattle.std.specs.Prelude.{◌≡◌, ℕ, List, ◌++◌, None, reverse, take}
use Rattle.list_laws.specs.Prefix.{IsPrefix}
use Rattle.run_events.specs.declared.record.Record.{Record}
use Rattle.run_events.specs.Record.{reach, dmas_at}
use Rattle.any_machine.specs.Machine.{Machine}
use Rattle.any_machine.specs.Run.{Finished, Runs, events_of, first_events, events_before, words_before}
use Rattle.any_machine.specs.Log.{log}
use Rattle.any_machine.specs.Replay.{first_fault, executed, shown}

-- a prefix of a log: it fits, it executes its reach, and it shows the events of these steps and those words of the step
-- that follows whose records it has
pub record IsReplayed {S : Type 0} (m : Machine S) (start : S) (run : Finished) (prefix : List Record) : Type 0 where
  pub fits : first_fault m start prefix ≡ None
  pub executes : executed m start prefix ≡ reach prefix
  pub shows : shown m start prefix ≡ first_events (reach prefix) (dmas_at (reach prefix) (reverse prefix)) run.turns

-- of each run, whatever gave its inputs
abbrev pub PrefixesFit : {S : Type 0} → Machine S → Type 0
PrefixesFit {S = S} m = (start : S) (run : Finished) (prefix : List Record) → Runs m start run → IsPrefix prefix (log run) → IsReplayed m start run prefix

-- the whole log shows all events
abbrev pub WholeShowsAll : {S : Type 0} → Machine S → Type 0
WholeShowsAll {S = S} m = (start : S) (run : Finished) → Runs m start run → shown m start (log run) ≡ events_of run.turns

-- and by the steps that the events tell: those below the reach, and so many words before the step that follows
abbrev pub PrefixesShowSteps : {S : Type 0} → Machine S → (S → ℕ) → Type 0
PrefixesShowSteps {S = S} m done =
    (start : S) (run : Finished) (prefix : List Record) → done start ≡ 0 → Runs m start run → IsPrefix prefix (log run)
    → shown m start prefix ≡ events_before (reach prefix) (events_of run.turns) ++ take (dmas_at (reach prefix) (reverse prefix)) (words_before (reach prefix) (events_of run.turns))
