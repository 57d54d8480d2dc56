-- The events of a run stand at its steps, so its first events are found in the list of its events by their steps.
use Rattle.std.proofs.Common.{◌≡◌, ◌⊎◌, inl, inr, ℕ, zero, suc, ◌+◌, ◌<◌, ◌≤◌, Bool, true, false, List, [], ◌∷◌, ◌++◌, length, take, Option, Some, None, refl, sym, ap, subst, ◌∙◌, arith, append-nil}
use Rattle.std.specs.Prelude.{◌&&◌, ◌==◌, nat_lt, slice_get}
use Rattle.std.specs.List.{filter, AllByRecursion}
use Rattle.std.proofs.lemmas.Bool.Decides.{nat_tests}
use Rattle.std.proofs.lemmas.List.{take-append-le}
use Rattle.std.proofs.lemmas.List.Elements.{filter-append}
use Rattle.list_laws.proofs.AllLaws.{all_append, all_through, filter-kept, filter-dropped}
use Rattle.run_events.specs.declared.event.Event.{Event}
use Rattle.run_events.specs.declared.record.EndCause.{EndCause}
use Rattle.run_events.specs.declared.supply.DmaWord.{DmaWord}
use Rattle.run_events.specs.Event.{step_of, byte_stored}
use Rattle.any_machine.specs.Machine.{Machine, Input, Turn, CountsSteps, power_status, touched, writes_of, after, turn_of}
use Rattle.any_machine.specs.Run.{Finished, IsRun, EndsOrGoes, Runs, events_in, events_of, writes_in, first_events, is_word, events_before, words_before}

-- an event of a word before step n, which stores nothing
pub record IsWordAt (n : ℕ) (event : Event) : Type 0 where
  pub stands : step_of event ≡ n
  pub word : is_word event ≡ true
  pub silent : (place : ℕ) → byte_stored place event ≡ None

-- the events of a turn stand at step n
pub record TurnStands (n : ℕ) (turn : Turn) : Type 0 where
  pub words : AllByRecursion (IsWordAt n) turn.writes
  pub step : step_of turn.event ≡ n

-- turn after turn, from step n on
abbrev pub TurnsStand : ℕ → List Turn → Type 0
TurnsStand n [] = Unit {0}
TurnsStand n (turn ∷ turns) = TurnStands n turn × TurnsStand (suc n) turns

module _ {S : Type 0} (m : Machine S) (done : S → ℕ) (counts : CountsSteps m done) where
  writes_stand : (s : S) (words : List DmaWord) → AllByRecursion (IsWordAt (done s)) (writes_of m s words)
  writes_stand s [] = tt
  writes_stand s (word ∷ words) = (
    subst (IsWordAt (done s)) (sym (counts.word_told s word)) (record { stands = refl; word = refl; silent = λ place. refl }),
    subst (λ n. AllByRecursion (IsWordAt n) (writes_of m (m.touch s word).1 words)) (counts.touched_not s word) (writes_stand (m.touch s word).1 words),
  )

  pub done_touched : (s : S) (words : List DmaWord) → done (touched m s words) ≡ done s
  done_touched s [] = refl
  done_touched s (word ∷ words) = done_touched (m.touch s word).1 words ∙ counts.touched_not s word

  pub done_after : (s : S) (input : Input) → done (after m s input) ≡ suc (done s)
  done_after s input = counts.stepped (touched m s input.words) input.lines input.supplied ∙ ap suc (done_touched s input.words)

  turn_stands : (s : S) (input : Input) → TurnStands (done s) (turn_of m s input)
  turn_stands s input = record {
    words = writes_stand s input.words;
    step = counts.step_told (touched m s input.words) input.lines input.supplied ∙ done_touched s input.words;
  }

  run_turns_stand : (start s : S) (turns : List Turn) (cause : EndCause) → IsRun m start s turns cause → TurnsStand (done s) turns
  run_turns_stand start s [] cause runs = tt
  run_turns_stand start s (turn ∷ turns) cause runs = (
    subst (TurnStands (done s)) (sym runs.0.does) (turn_stands s turn.input),
    by (power_status turn.event) (λ rest. subst (λ n. TurnsStand n turns) (done_after s turn.input) (run_turns_stand start (after m s turn.input) turns cause rest)) runs.1,
  )
    where
      by : (o : Option ℕ) → (IsRun m start (after m s turn.input) turns cause → TurnsStand (suc (done s)) turns) → EndsOrGoes o turns cause (IsRun m start (after m s turn.input) turns cause) → TurnsStand (suc (done s)) turns
      by (Some status) again ends = subst (TurnsStand (suc (done s))) (sym ends.0) tt
      by None again ends = again ends

  -- the events of a run stand at its steps
  pub run_stands : (start : S) (run : Finished) → done start ≡ 0 → Runs m start run → TurnsStand 0 run.turns
  run_stands start run first runs = subst (λ n. TurnsStand n run.turns) first (run_turns_stand start start run.turns run.cause runs.is_run)

-- all events of a turn, and of turns from a step on
turn_events : (n : ℕ) (turn : Turn) → TurnStands n turn → AllByRecursion (λ event. step_of event ≡ n) (events_in turn)
turn_events n turn stands = all_append (λ event. step_of event ≡ n) turn.writes (turn.event ∷ []) (all_through (λ event is. is.stands) turn.writes stands.words) (stands.step, tt)

later_events : (low n : ℕ) (turns : List Turn) → low ≤ n → TurnsStand n turns → AllByRecursion (λ event. low ≤ step_of event) (events_of turns)
later_events low n [] le stand = tt
later_events low n (turn ∷ turns) le stand =
    all_append (λ event. low ≤ step_of event) (events_in turn) (events_of turns) (all_through (λ event is. omega (arith, is, le)) (events_in turn) (turn_events n turn stand.0))
    (later_events low (suc n) turns (omega (arith, le)) stand.1)

is_below : (a n : ℕ) → a < n → nat_lt a n ≡ true
is_below a n lt = grind (arith, nat_tests, lt)

not_below : (a n : ℕ) → n ≤ a → nat_lt a n ≡ false
not_below a n le = grind (arith, nat_tests, le)

at_number : (word : Bool) (a n : ℕ) → word ≡ true → a ≡ n → (word && a == n) ≡ true
at_number word a n is same = grind (arith, nat_tests, is, same)

not_at : (word : Bool) (a n : ℕ) → (a < n) ⊎ (n < a) → (word && a == n) ≡ false
not_at word a n (inl lower) = grind (arith, nat_tests, lower)
not_at word a n (inr higher) = grind (arith, nat_tests, higher)

-- from step k on: the events below step k + n are those of the first n turns
pub before_are : (k n : ℕ) (turns : List Turn) → TurnsStand k turns → events_before (k + n) (events_of turns) ≡ events_of (take n turns)
before_are k zero turns stand =
    filter-dropped (λ event. nat_lt (step_of event) (k + 0)) (events_of turns)
    (all_through (λ event le. not_below (step_of event) (k + 0) (omega (arith, le))) (events_of turns) (later_events k k turns (omega arith) stand))
before_are k (suc n) [] stand = refl
before_are k (suc n) (turn ∷ turns) stand =
    filter-append (λ event. nat_lt (step_of event) (k + suc n)) (events_in turn) (events_of turns)
    ∙ ap (λ l. l ++ events_before (k + suc n) (events_of turns))
    (filter-kept (λ event. nat_lt (step_of event) (k + suc n)) (events_in turn) (all_through (λ event is. is_below (step_of event) (k + suc n) (omega (arith, is))) (events_in turn) (turn_events k turn stand.0)))
    ∙ ap (λ l. events_in turn ++ l) (let same : k + suc n ≡ suc k + n = omega arith in ap (λ j. events_before j (events_of turns)) same ∙ before_are (suc k) n turns stand.1)

-- and the words of step k + n are those of turn n, perhaps with a word that is its own event
words_here : (n : ℕ) (turn : Turn) (turns : List Turn) → TurnStands n turn → TurnsStand (suc n) turns → words_before n (events_of (turn ∷ turns)) ≡ turn.writes ++ words_before n (turn.event ∷ [])
words_here n turn turns here there =
    let test : Event → Bool = λ event. is_word event && step_of event == n in
    filter-append test (events_in turn) (events_of turns)
    ∙ ap (λ l. filter test (events_in turn) ++ l)
    (filter-dropped test (events_of turns) (all_through (λ event le. not_at (is_word event) (step_of event) n (inr (omega (arith, le)))) (events_of turns) (later_events (suc n) (suc n) turns (omega arith) there)))
    ∙ append-nil (filter test (events_in turn)) ∙ filter-append test turn.writes (turn.event ∷ [])
    ∙ ap (λ l. l ++ filter test (turn.event ∷ [])) (filter-kept test turn.writes (all_through (λ event is. at_number (is_word event) (step_of event) n is.word is.stands) turn.writes here.words))

pub words_are : (k n w : ℕ) (turns : List Turn) → TurnsStand k turns → w ≤ length (writes_in (slice_get turns n)) → take w (words_before (k + n) (events_of turns)) ≡ take w (writes_in (slice_get turns n))
words_are k n w [] stand few = refl
words_are k zero w (turn ∷ turns) stand few =
    let same : k + 0 ≡ k = omega arith in
    ap (λ j. take w (words_before j (events_of (turn ∷ turns)))) same ∙ ap (take w) (words_here k turn turns stand.0 stand.1) ∙ take-append-le w turn.writes (words_before k (turn.event ∷ [])) few
words_are k (suc n) w (turn ∷ turns) stand few =
    let same : k + suc n ≡ suc k + n = omega arith in
    let test : Event → Bool = λ event. is_word event && step_of event == k + suc n in
    ap (take w) (filter-append test (events_in turn) (events_of turns)
    ∙ ap (λ l. l ++ words_before (k + suc n) (events_of turns)) (filter-dropped test (events_in turn) (all_through (λ event is. not_at (is_word event) (step_of event) (k + suc n) (inl (omega (arith, is)))) (events_in turn) (turn_events k turn stand.0)))
    ∙ ap (λ j. words_before j (events_of turns)) same) ∙ words_are (suc k) n w turns stand.1 few

-- the first events of a run, by the steps that its events tell
pub up_to_are : (n w : ℕ) (turns : List Turn) → TurnsStand 0 turns → w ≤ length (writes_in (slice_get turns n)) → first_events n w turns ≡ events_before n (events_of turns) ++ take w (words_before n (events_of turns))
up_to_are n w turns stand few =
    let zero_on : 0 + n ≡ n = omega arith in
    ap (λ l. l ++ take w (writes_in (slice_get turns n))) (sym (before_are 0 n turns stand)) ∙ ap (λ l. events_before (0 + n) (events_of turns) ++ l) (sym (words_are 0 n w turns stand few))
    ∙ ap (λ j. events_before j (events_of turns) ++ take w (words_before j (events_of turns))) zero_on
