-- What is shown of a prefix of a run's log, found in the list of the run's events by their steps.
use Rattle.std.proofs.Common.{◌≡◌, ℕ, suc, ◌≤◌, List, [], ◌∷◌, ◌++◌, length, take, reverse, refl, ap, ◌∙◌, arith}
use Rattle.std.specs.Prelude.{slice_get}
use Rattle.list_laws.specs.Prefix.{IsPrefix}
use Rattle.list_laws.proofs.PrefixLaws.{IsPrefix-length}
use Rattle.run_events.specs.declared.event.Event.{Event}
use Rattle.run_events.specs.declared.record.Record.{Record}
use Rattle.run_events.specs.declared.supply.DmaWord.{DmaWord}
use Rattle.run_events.specs.Record.{reach, dmas_at}
use Rattle.any_machine.specs.Machine.{Machine, CountsSteps, writes_of}
use Rattle.any_machine.specs.Run.{Finished, Runs, events_of, writes_in, events_before, words_before}
use Rattle.any_machine.specs.Log.{log}
use Rattle.any_machine.specs.Tape.{words_at}
use Rattle.any_machine.specs.Replay.{state_at, shown}
use Rattle.any_machine.proofs.RunTape.{run_tape, writes_are}
use Rattle.any_machine.proofs.Order.{dmas_at-words}
use Rattle.any_machine.proofs.Determinism.{prefix_IsRunPrefix, shown_first}
use Rattle.any_machine.proofs.NumberLaws.{run_stands, up_to_are}

writes_length : {S : Type 0} (m : Machine S) (s : S) (words : List DmaWord) → length (writes_of m s words) ≡ length words
writes_length m s [] = refl
writes_length m s (word ∷ words) = ap suc (writes_length m (m.touch s word).1 words)

module _ {S : Type 0} (m : Machine S) (done : S → ℕ) (counts : CountsSteps m done) (start : S) (run : Finished) (prefix : List Record) (first : done start ≡ 0) (runs : Runs m start run) (is : IsPrefix prefix (log run)) where
  -- it has no more words of the step at its reach than that step has
  few_words : dmas_at (reach prefix) (reverse prefix) ≤ length (writes_in (slice_get run.turns (reach prefix)))
  few_words =
      let n = reach prefix in
      let begun = (prefix_IsRunPrefix m start run prefix runs is).begun in
      omega (
        arith,
        dmas_at-words n (reverse prefix),
        IsPrefix-length (words_at (reverse prefix) n) (run_tape run.turns n).words begun,
        writes_length m (state_at m start (run_tape run.turns) n) (run_tape run.turns n).words,
        ap (λ (l : List Event). length l) (writes_are m start start run.turns run.cause runs.is_run n (slice_get run.turns n) refl),
      )

  pub shown_by_steps : shown m start prefix ≡ events_before (reach prefix) (events_of run.turns) ++ take (dmas_at (reach prefix) (reverse prefix)) (words_before (reach prefix) (events_of run.turns))
  shown_by_steps = shown_first m start run prefix runs is ∙ up_to_are (reach prefix) (dmas_at (reach prefix) (reverse prefix)) run.turns (run_stands m done counts start run first runs) few_words
