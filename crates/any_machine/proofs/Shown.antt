-- What is shown of a prefix of a run's log are the run's first events.
use Rattle.std.proofs.Common.{◌≡◌, ℕ, zero, suc, List, [], ◌∷◌, ◌++◌, length, take, refl, ap, ◌∙◌, append_assoc}
use Rattle.std.specs.Prelude.{slice_get}
use Rattle.list_laws.specs.Prefix.{IsPrefix}
use Rattle.list_laws.proofs.PrefixLaws.{empty_IsPrefix, take_IsPrefix, IsPrefix-more, IsPrefix-after}
use Rattle.run_events.specs.declared.record.EndCause.{EndCause}
use Rattle.run_events.specs.declared.record.Record.{Record}
use Rattle.run_events.specs.declared.supply.DmaWord.{DmaWord}
use Rattle.run_events.specs.Record.{reach_back}
use Rattle.any_machine.specs.Machine.{Machine, Turn, writes_of}
use Rattle.any_machine.specs.Run.{IsRun, events_in, events_of, writes_in, first_events}
use Rattle.any_machine.specs.Tape.{tape_of, words_at}
use Rattle.any_machine.specs.Replay.{state_at, shown_on}
use Rattle.any_machine.proofs.TapeLaws.{state_at-same, turns_below-same}
use Rattle.any_machine.proofs.RunTape.{run_tape, turns_are, writes_are}
use Rattle.any_machine.proofs.Prefixes.{IsRunPrefix}

module _ {S : Type 0} (m : Machine S) where
  -- the events of the first words of some
  writes_of-first : (s : S) (words rest : List DmaWord) → writes_of m s words ≡ take (length words) (writes_of m s (words ++ rest))
  writes_of-first s [] rest = refl
  writes_of-first s (word ∷ words) rest = ap (λ l. (m.touch s word).0 ∷ l) (writes_of-first (m.touch s word).1 words rest)

  pub writes_of-prefix : (s : S) (words all : List DmaWord) → IsPrefix words all → writes_of m s words ≡ take (length words) (writes_of m s all)
  writes_of-prefix s words all is = writes_of-first s words is.rest ∙ ap (λ l. take (length words) (writes_of m s l)) is.joined

  -- a prefix that comes to step n and has w words of it
  pub prefix_shown : (start : S) (turns : List Turn) (cause : EndCause) (before : List Record) → IsRun m start start turns cause → IsRunPrefix m start turns cause before
      → shown_on m start (tape_of before) (reach_back before) ≡ first_events (reach_back before) (length (words_at before (reach_back before))) turns
  prefix_shown start turns cause before runs is =
      let n = reach_back before in
      let words = words_at before n in
      let state = state_at-same m start n (tape_of before) (run_tape turns) is.below in
      ap (λ l. events_of l ++ writes_of m (state_at m start (tape_of before) n) words) (turns_below-same m start n (tape_of before) (run_tape turns) is.below ∙ turns_are m start start turns cause runs n is.within)
      ∙ ap (λ s. events_of (take n turns) ++ writes_of m s words) state
      ∙ ap (λ l. events_of (take n turns) ++ l) (writes_of-prefix (state_at m start (run_tape turns) n) words (run_tape turns n).words is.begun)
      ∙ ap (λ l. events_of (take n turns) ++ take (length words) l) (writes_are m start start turns cause runs n (slice_get turns n) refl)

-- the first events of a run are a prefix of all its events
pub first_are_prefix : (turns : List Turn) (n w : ℕ) → IsPrefix (first_events n w turns) (events_of turns)
first_are_prefix [] zero zero = empty_IsPrefix []
first_are_prefix [] zero (suc w) = empty_IsPrefix []
first_are_prefix [] (suc n) zero = empty_IsPrefix []
first_are_prefix [] (suc n) (suc w) = empty_IsPrefix []
first_are_prefix (turn ∷ turns) zero w =
    IsPrefix-more (events_of turns) (IsPrefix-more (turn.event ∷ []) (take_IsPrefix w turn.writes))
first_are_prefix (turn ∷ turns) (suc n) w =
    let there = IsPrefix-after (events_in turn) (first_are_prefix turns n w) in
    record { rest = there.rest; joined = ap (λ l. l ++ there.rest) (append_assoc (events_in turn) (events_of (take n turns)) (take w (writes_in (slice_get turns n)))) ∙ there.joined }

-- all steps
pub all_first : (turns : List Turn) (n w : ℕ) → n ≡ length turns → first_events n w turns ≡ events_of turns
all_first [] n w is = ap (λ k. first_events k w []) is ∙ none w
  where
    none : (w : ℕ) → first_events 0 w [] ≡ []
    none zero = refl
    none (suc w) = refl
all_first (turn ∷ turns) n w is =
    ap (λ k. first_events k w (turn ∷ turns)) is ∙ append_assoc (events_in turn) (events_of (take (length turns) turns)) (take w (writes_in (slice_get turns (length turns))))
    ∙ ap (λ l. events_in turn ++ l) (all_first turns (length turns) w refl)
