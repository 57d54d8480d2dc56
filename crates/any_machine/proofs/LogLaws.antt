-- What is said of logs and of lists that fit: they are in order, their records have spellings, and a prefix says what the
-- whole says of the steps below its reach.
use Rattle.std.proofs.Common.{◌≡◌, ℕ, suc, ◌+◌, ◌<◌, ◌≤◌, Bool, true, false, not, cond, List, [], ◌∷◌, ◌++◌, length, map, reverse, Option, Some, None, refl, sym, ap, subst, ◌∙◌, arith, append-nil}
use Rattle.std.specs.Prelude.{◌&&◌, ◌||◌, ◌==◌, nat_lt}
use Rattle.std.specs.List.{AllByRecursion}
use Rattle.std.proofs.lemmas.Bool.{and_parts}
use Rattle.std.proofs.lemmas.Bool.Decides.{nat_tests}
use Rattle.list_laws.proofs.AllLaws.{all_append}
use Rattle.list_laws.proofs.PrefixLaws.{whole_IsPrefix}
use Rattle.run_events.specs.declared.record.EndCause.{EndCause}
use Rattle.run_events.specs.declared.record.Record.{Record}
use Rattle.run_events.specs.declared.record.Record.TheVariants.{Lines, Reach, End}
use Rattle.run_events.specs.declared.supply.DmaWord.{DmaWord}
use Rattle.run_events.specs.declared.supply.Supplied.{Supplied}
use Rattle.run_events.specs.Record.{number, rank, is_dma, is_end, IsNumber, IsMark, IsRecord, is_admitted, is_ordered, is_ordered_back, reach_back}
use Rattle.run_events.proofs.RecordLaws.{admitted_rises}
use Rattle.any_machine.specs.Machine.{Machine, Input, Turn, IsInput, IsMarked, power_status, touched, after}
use Rattle.any_machine.specs.Run.{Finished, EndsOrGoes, IsRun, Runs}
use Rattle.any_machine.specs.Log.{word_record, lines_records, load_records, reach_records, turn_records, turns_log, log, tells_reach}
use Rattle.any_machine.specs.Tape.{tape_of, words_at}
use Rattle.any_machine.specs.Replay.{outcome, state_at, last_power}
use Rattle.any_machine.specs.Held.{Held}
use Rattle.any_machine.specs.Carries.{Carries}
use Rattle.any_machine.proofs.LookUpLaws.{tape_more}
use Rattle.any_machine.proofs.TapeLaws.{AgreeBelow, state_at-same, last_power-same}
use Rattle.any_machine.proofs.Determinism.{prefix_fits}
use Rattle.any_machine.proofs.Later.{ordered_is_idle, fits_parts, fits_of, fits_ordered}

-- each record of a run has a spelling
abbrev pub AreRecords : List Record → Type 0
AreRecords items = AllByRecursion IsRecord items

word_records : (n : ℕ) (words : List DmaWord) → IsNumber n → AllByRecursion (λ word. IsMark word.mark) words → AreRecords (map (word_record n) words)
word_records n [] is marked = tt
word_records n (word ∷ words) is marked = ((is, marked.0), word_records n words is marked.1)

line_records : (n lines : ℕ) (same : Bool) → IsNumber n → lines ≤ 3 → AreRecords (cond same [] (Lines n lines ∷ []))
line_records n lines true is fit = tt
line_records n lines false is fit = ((is, fit), tt)

value_records : (n : ℕ) (o : Option Supplied) → IsNumber n → IsMarked o → AreRecords (load_records n o)
value_records n None is marked = tt
value_records n (Some supplied) is marked = ((is, marked), tt)

mark_records : (n : ℕ) (here : Bool) → IsNumber (suc n) → AreRecords (cond here (Reach (suc n) ∷ []) [])
mark_records n true is = (is, tt)
mark_records n false is = tt

module _ {S : Type 0} (m : Machine S) (start : S) where
  turn_are : (n held : ℕ) (turn : Turn) → IsNumber (suc n) → IsInput m start turn.input → AreRecords (turn_records n held turn)
  turn_are n held turn last is =
      let at : IsNumber n = omega (arith, last) in
      all_append IsRecord (map (word_record n) turn.input.words) (lines_records n held turn.input.lines ++ (load_records n turn.input.supplied ++ reach_records n turn.event)) (word_records n turn.input.words at is.words_marked)
      (all_append IsRecord (lines_records n held turn.input.lines) (load_records n turn.input.supplied ++ reach_records n turn.event) (line_records n turn.input.lines (turn.input.lines == held) at is.lines_fit)
      (all_append IsRecord (load_records n turn.input.supplied) (reach_records n turn.event) (value_records n turn.input.supplied at is.supplied_marked)
      (mark_records n (tells_reach n turn.event) last)))

  turns_are_records : (s : S) (turns : List Turn) (cause : EndCause) (n held : ℕ) → IsRun m start s turns cause → IsNumber (n + length turns) → AreRecords (turns_log n held turns)
  turns_are_records s [] cause n held runs last = tt
  turns_are_records s (turn ∷ turns) cause n held runs last =
      all_append IsRecord (turn_records n held turn) (turns_log (suc n) turn.input.lines turns) (turn_are n held turn (omega (arith, last)) runs.0.may_take)
      (by (power_status turn.event) (λ rest. turns_are_records (after m s turn.input) turns cause (suc n) turn.input.lines rest (omega (arith, last))) runs.1)
    where
      by : (o : Option ℕ) → (IsRun m start (after m s turn.input) turns cause → AreRecords (turns_log (suc n) turn.input.lines turns)) → EndsOrGoes o turns cause (IsRun m start (after m s turn.input) turns cause) → AreRecords (turns_log (suc n) turn.input.lines turns)
      by (Some status) again ends = subst (λ l. AreRecords (turns_log (suc n) turn.input.lines l)) (sym ends.0) tt
      by None again ends = again ends

  pub log_records : (run : Finished) → Runs m start run → IsNumber run.steps → AreRecords (log run)
  log_records run runs last =
      all_append IsRecord (turns_log 0 0 run.turns) (End run.steps run.cause ∷ []) (turns_are_records start run.turns run.cause 0 0 runs.is_run (omega (arith, last, runs.counted))) (last, tt)

  -- a log is in order
  pub log_ordered : (run : Finished) → Runs m start run → is_ordered (log run) ≡ true
  log_ordered run runs = fits_ordered m start (reverse (log run)) (prefix_fits m start run (log run) runs (whole_IsPrefix (log run)))

-- The rest of a list in order, of which the last record is given first, says nothing of the steps below the reach.
reach_rises : (later before : List Record) → is_ordered_back (later ++ before) ≡ true → reach_back before ≤ reach_back (later ++ before)
reach_rises [] before ordered = omega arith
reach_rises (item ∷ later) before ordered =
    let parts = and_parts (is_admitted (later ++ before) item) (is_ordered_back (later ++ before)) ordered in
    omega (arith, reach_rises later before parts.1, admitted_rises (later ++ before) item parts.0)

pub prefix_tape : (later before : List Record) → is_ordered_back (later ++ before) ≡ true → AgreeBelow (reach_back before) (tape_of before) (tape_of (later ++ before))
prefix_tape [] before ordered = λ k lt. refl
prefix_tape (item ∷ later) before ordered =
    let parts = and_parts (is_admitted (later ++ before) item) (is_ordered_back (later ++ before)) ordered in
    λ k lt. prefix_tape later before parts.1 k lt
    ∙ sym (tape_more k item (later ++ before) (omega (arith, lt, reach_rises later before parts.1, admitted_rises (later ++ before) item parts.0)))

-- a mark stands first of its number
mark_first : (end' word : Bool) (a n r : ℕ) → (not end' && (nat_lt a n || (a == n && (nat_lt r 0 || (word && false))))) ≡ true → a < n
mark_first end' word a n r is = grind (arith, nat_tests, is)

module _ (before : List Record) (n : ℕ) (admitted : is_admitted before (Reach n) ≡ true) (ordered : is_ordered_back before ≡ true) where
  new_step : {X : Type 0} (empty : tape_of [] n ≡ tape_of before n → X) (past : reach_back before < n → X) → X
  new_step {X = X} empty past = by before refl
    where
      by : (l : List Record) → l ≡ before → X
      by [] is = empty (ap (λ l. tape_of l n) is)
      by (last ∷ rest) is =
          let is_admitted' : is_admitted (last ∷ rest) (Reach n) ≡ true = ap (λ l. is_admitted l (Reach n)) is ∙ admitted in
          past (subst (λ l. reach_back l < n) is (mark_first (is_end last) (is_dma last) (number last) n (rank last) is_admitted'))

  no_words : (tape_of before n).words ≡ []
  no_words = new_step (λ same. ap (λ (input : Input). input.words) (sym same)) (λ past. (ordered_is_idle before ordered).no_words n past)

  no_load : (tape_of before n).supplied ≡ None
  no_load = new_step (λ same. ap (λ (input : Input). input.supplied) (sym same)) (λ past. (ordered_is_idle before ordered).no_load n past)

-- the beginning of a list in order, and of one that fits, is so too
ordered_within : (later before : List Record) → is_ordered_back (later ++ before) ≡ true → is_ordered_back before ≡ true
ordered_within [] before ordered = ordered
ordered_within (item ∷ later) before ordered = ordered_within later before (and_parts (is_admitted (later ++ before) item) (is_ordered_back (later ++ before)) ordered).1

pub fits_within : {S : Type 0} (m : Machine S) (start : S) (later before : List Record) → (outcome m start (later ++ before)).fault ≡ None → (outcome m start before).fault ≡ None
fits_within m start [] before fits = fits
fits_within m start (item ∷ later) before fits = fits_within m start later before (fits_parts m start (later ++ before) item fits).fits

-- What is held at a mark of a list that fits: the state before its step, over the whole list and over each longer one,
-- and nothing of that step.
pub record IsCheckpoint {S : Type 0} (m : Machine S) (start : S) (items : List Record) (n : ℕ) (h : Held S) : Type 0 where
  pub step : h.step ≡ n
  pub state : h.state ≡ state_at m start (tape_of items) n
  pub power : h.power ≡ last_power m start (tape_of items) n
  pub load : h.load ≡ None

pub checkpoint_is : {S : Type 0} (m : Machine S) (start : S) (later before : List Record) (n : ℕ) (h : Held S) → (outcome m start (later ++ Reach n ∷ before)).fault ≡ None → Carries m start (outcome m start (Reach n ∷ before)) h
    → IsCheckpoint m start (later ++ Reach n ∷ before) n h
checkpoint_is m start later before n h fits carries =
    let items = Reach n ∷ before in
    let ordered = fits_ordered m start (later ++ items) fits in
    let here = ordered_within later items ordered in
    let parts = and_parts (is_admitted before (Reach n)) (is_ordered_back before) here in
    let whole' = fits_of m start items (fits_within m start later items fits) in
    let is = subst (λ o. Carries m start o h) whole' carries in
    let tapes = prefix_tape later items ordered in
    let at_step = is.done in
    record {
      step = at_step;
      state =
          is.at.state ∙ ap (λ k. touched m (state_at m start (tape_of items) k) (tape_of items k).words) at_step
          ∙ ap (λ words. touched m (state_at m start (tape_of items) n) words) (append-nil (words_at before n) ∙ no_words before n parts.0 parts.1)
          ∙ state_at-same m start n (tape_of items) (tape_of (later ++ items)) tapes;
      power = is.at.power ∙ ap (last_power m start (tape_of items)) at_step ∙ last_power-same m start n (tape_of items) (tape_of (later ++ items)) tapes;
      load = is.at.load ∙ ap (λ k. (tape_of items k).supplied) at_step ∙ no_load before n parts.0 parts.1;
    }
