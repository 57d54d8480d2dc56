-- Each prefix of a run's own log is taken whole: the records of the run are pushed one after another.
use Rattle.std.proofs.Common.{◌≡◌, ◌⊎◌, inl, inr, ℕ, zero, suc, ◌<◌, ◌≤◌, Bool, true, false, cond, List, [], ◌∷◌, ◌++◌, length, drop, map, reverse, Option, Some, None, refl, sym, ap, subst, ◌∙◌, arith, below_more, append_assoc, append-nil, length-append, length-drop}
use Rattle.std.specs.Prelude.{◌==◌, ◌&&◌, nat_le, slice_get}
use Rattle.std.proofs.lemmas.Bool.Decides.{nat_tests}
use Rattle.std.proofs.lemmas.List.{reverse-append}
use Rattle.std.proofs.lemmas.Option.{slice_get_within}
use Rattle.list_laws.specs.Prefix.{IsPrefix}
use Rattle.list_laws.proofs.AllLaws.{all-middle}
use Rattle.list_laws.proofs.PlaceLaws.{dropped-at, dropped-next, there_within}
use Rattle.list_laws.proofs.PrefixLaws.{empty_IsPrefix, whole_IsPrefix}
use Rattle.run_events.specs.declared.fault.Why.TheVariants.{BadDma, EndsElsewhere}
use Rattle.run_events.specs.declared.record.EndCause.{EndCause}
use Rattle.run_events.specs.declared.record.EndCause.TheVariants.{Power, Limit}
use Rattle.run_events.specs.declared.record.Record.{Record}
use Rattle.run_events.specs.declared.record.Record.TheVariants.{Load, Lines, Reach, End}
use Rattle.run_events.specs.declared.supply.DmaWord.{DmaWord}
use Rattle.run_events.specs.declared.supply.Supplied.{Supplied}
use Rattle.run_events.specs.Record.{dmas_at, reach_back}
use Rattle.any_machine.specs.Machine.{Machine, Input, Turn, power_status}
use Rattle.any_machine.specs.Run.{Finished, IsRun, Runs}
use Rattle.any_machine.specs.Log.{word_record, lines_records, load_records, reach_records, turns_log, log, tells_reach}
use Rattle.any_machine.specs.Tape.{tape_of, words_at}
use Rattle.any_machine.specs.Replay.{outcome, is_after_power, power_stop, step_stop, stop_at, first_stop, end_agrees, end_fault, last_power, power_at, fault_at}
use Rattle.any_machine.proofs.LookUpLaws.{joined_with, joined_nothing, tape_more}
use Rattle.any_machine.proofs.TapeLaws.{AgreeBelow, first_stop-none, first_stop-same, last_power-same}
use Rattle.any_machine.proofs.RunTape.{run_tape, EndsAt, IsAtTurn, turn_is}
use Rattle.any_machine.proofs.Order.{IsBefore, before_more, before_next, reach_is, admitted, admitted_word, dmas_at-words}
use Rattle.any_machine.proofs.OutcomeLaws.{whole, outcome-nil, whole_more, stop_none}

-- what holds of each prefix of a list, pushed on records that are given from the last one back
abbrev pub EachPrefix : (List Record → Type 0) → List Record → List Record → Type 0
EachPrefix P before [] = P before
EachPrefix P before (item ∷ items) = P before × EachPrefix P (item ∷ before) items

pub each_prefix-at : (P : List Record → Type 0) (before items prefix rest : List Record) → EachPrefix P before items → prefix ++ rest ≡ items → P (reverse prefix ++ before)
each_prefix-at P before [] [] rest each joined = each
each_prefix-at P before (item ∷ items) [] rest each joined = each.0
each_prefix-at P before [] (first ∷ prefix) rest each joined = cc
each_prefix-at P before (item ∷ items) (first ∷ prefix) rest each joined =
    let same : first ≡ item = ap (λ l. first_or l item) joined in
    let there = each_prefix-at P (item ∷ before) items prefix rest each.1 (ap (drop 1) joined) in
    subst P (ap (λ x. reverse prefix ++ x ∷ before) (sym same) ∙ sym (append_assoc (reverse prefix) (first ∷ []) before) ∙ ap (λ l. l ++ before) (sym (reverse-append (first ∷ []) prefix))) there
  where
    first_or : List Record → Record → Record
    first_or [] other = other
    first_or (x ∷ xs) other = x

-- the input of a step of which nothing is recorded yet
abbrev pub held_on : ℕ → Input
held_on lines = record { words = []; lines = lines; supplied = None }

same_number : (n : ℕ) → (n == n) ≡ true
same_number n = grind (arith, nat_tests)

not_number : (n k : ℕ) → n < k → (n == k) ≡ false
not_number n k lt = grind (arith, nat_tests, lt)

not_later : (n k : ℕ) → n ≤ k → nat_le n k ≡ true
not_later n k le = grind (arith, nat_tests, le)

-- what one record more makes of the look-ups at its own step and after it
word_at : (n k : ℕ) (b : Bool) (word : DmaWord) (before : List Record) → (n == k) ≡ b → tape_of (word_record n word ∷ before) k ≡ joined_with (tape_of before k) None None (cond b (word ∷ []) [])
word_at n k b word before is = ap (λ c. joined_with (tape_of before k) None None (cond c (word ∷ []) [])) is

lines_told : (n k lines : ℕ) (before : List Record) → n ≤ k → tape_of (Lines n lines ∷ before) k ≡ joined_with (tape_of before k) (Some lines) None []
lines_told n k lines before le = ap (λ c. joined_with (tape_of before k) (cond c (Some lines) None) None []) (not_later n k le)

load_at_step : (n k : ℕ) (b : Bool) (supplied : Supplied) (before : List Record) → (n == k) ≡ b
    → tape_of (Load n supplied.value supplied.mark ∷ before) k ≡ joined_with (tape_of before k) None (cond b (Some supplied) None) []
load_at_step n k b supplied before is = ap (λ c. joined_with (tape_of before k) None (cond c (Some supplied) None) []) is

module _ {S : Type 0} (m : Machine S) (start : S) (turns : List Turn) (cause : EndCause) where
  -- records of a run so far that are taken whole, agree with its inputs below their reach, and there have a prefix of its
  -- words
  pub record IsRunPrefix (before : List Record) : Type 0 where
    pub fits : outcome m start before ≡ whole before
    pub below : AgreeBelow (reach_back before) (tape_of before) (run_tape turns)
    pub begun : IsPrefix (words_at before (reach_back before)) (run_tape turns (reach_back before)).words
    pub within : reach_back before ≤ length turns

  -- the same in the middle of step n, of whose input this is recorded, with a rank that the last record is below
  pub record IsInside (n : ℕ) (now : Input) (r : ℕ) (before : List Record) : Type 0 where
    pub ordered : IsBefore before n r
    pub below : AgreeBelow n (tape_of before) (run_tape turns)
    pub here : tape_of before n ≡ now
    pub later : (k : ℕ) → n < k → tape_of before k ≡ held_on now.lines
    pub fits : outcome m start before ≡ whole before
    pub begun : IsPrefix now.words (run_tape turns n).words
    pub within : n ≤ length turns

  inside_more : (n r q : ℕ) (now : Input) (before : List Record) → IsInside n now r before → r ≤ q → IsInside n now q before
  inside_more n r q now before is le = record {
    ordered = before_more before n r q is.ordered le;
    below = is.below;
    here = is.here;
    later = is.later;
    fits = is.fits;
    begun = is.begun;
    within = is.within;
  }

  inside_prefix : (n r : ℕ) (now : Input) (before : List Record) → IsInside n now r before → IsRunPrefix before
  inside_prefix n r now before is = by (reach_is before n r is.ordered)
    where
      by : (reach_back before < n) ⊎ (reach_back before ≡ n) → IsRunPrefix before
      by (inl lower) = record {
        fits = is.fits;
        below = λ k lt. is.below k (omega (arith, lt, lower));
        begun = subst (λ (input : Input). IsPrefix (words_at before (reach_back before)) input.words) (is.below (reach_back before) lower) (whole_IsPrefix (words_at before (reach_back before)));
        within = omega (arith, lower, is.within);
      }
      by (inr same) = record {
        fits = is.fits;
        below = subst (λ k. AgreeBelow k (tape_of before) (run_tape turns)) (sym same) is.below;
        begun = subst (λ k. IsPrefix (words_at before k) (run_tape turns k).words) (sym same) (subst (λ (input : Input). IsPrefix input.words (run_tape turns n).words) (sym is.here) is.begun);
        within = omega (arith, same, is.within);
      }

  module _ (runs : IsRun m start start turns cause) where
    first_inside : IsInside 0 (held_on 0) 1 []
    first_inside = record {
      ordered = tt;
      below = λ k lt. absurd (omega (arith, lt));
      here = refl;
      later = λ k lt. refl;
      fits = outcome-nil m start;
      begun = empty_IsPrefix (run_tape turns 0).words;
      within = omega arith;
    }

    -- what a record has to say to the power store of a step, where it is one
    abbrev FollowsPower : ℕ → Record → Type 0
    FollowsPower k item = (status : ℕ) → suc k ≡ length turns → cause ≡ Power status → is_after_power (suc k) status item ≡ true

    power_stops_not : (o : Option ℕ) (k : ℕ) (item : Record) → EndsAt o k (length turns) cause → FollowsPower k item → power_stop k o item ≡ None
    power_stops_not None k item ends follows = refl
    power_stops_not (Some status) k item ends follows = ap (λ b. cond b None (Some (record { fault = fault_at k EndsElsewhere; done = suc k }))) (follows status ends.0 ends.1)

    stops_not : (k : ℕ) (item : Record) → k < length turns → FollowsPower k item → stop_at m start (run_tape turns) item k ≡ None
    stops_not k item lt follows =
        let there = there_within turns k lt in
        let is = turn_is m start start turns cause runs k there.0 there.1 in
        ap (λ o. step_stop k o (power_at m start (run_tape turns) k) item) is.supplied ∙ ap (λ (t : Turn). power_stop k (power_status t.event) item) is.does
        ∙ power_stops_not (power_status there.0.event) k item is.ends follows

    first_none : (n : ℕ) (item : Record) (before : List Record) → AgreeBelow n (tape_of before) (run_tape turns) → n ≤ length turns → ((k : ℕ) → k < n → FollowsPower k item) → first_stop m start (tape_of before) item n ≡ None
    first_none n item before below within follows =
        first_stop-same m start item n (tape_of before) (run_tape turns) below ∙ first_stop-none m start (run_tape turns) item n (λ k lt. stops_not k item (omega (arith, lt, within)) (follows k lt))

    -- inside a step no power store came yet
    inside_follows : (n k : ℕ) (item : Record) → n < length turns → k < n → FollowsPower k item
    inside_follows n k item within lt = λ status last. absurd (omega (arith, within, lt, last))

    -- The records of one step.
    module _ (n : ℕ) (turn : Turn) (at : slice_get turns n ≡ Some turn) where
      is_turn : IsAtTurn m start start turns cause n turn
      is_turn = turn_is m start start turns cause runs n turn at

      is_within : n < length turns
      is_within = slice_get_within turns n turn at

      first_inside_none : (item : Record) (before : List Record) → AgreeBelow n (tape_of before) (run_tape turns) → first_stop m start (tape_of before) item n ≡ None
      first_inside_none item before below = first_none n item before below (omega (arith, is_within)) (λ k lt. inside_follows n k item is_within lt)

      with_word : (now : Input) (word : DmaWord) (left : List DmaWord) (before : List Record) → IsInside n now 2 before → now.words ++ word ∷ left ≡ turn.input.words → IsInside n (record now { words = now.words ++ word ∷ [] }) 2 (word_record n word ∷ before)
      with_word now word left before is words =
          let few : dmas_at n before < 128 = omega (arith, dmas_at-words n before, ap (λ (input : Input). length input.words) is.here, length-append now.words (word ∷ left), ap length words, is_turn.may_take.few) in
          let held : m.holds start word.address ≡ true = all-middle (λ w. m.holds start w.address ≡ true) now.words word left turn.input.words is_turn.may_take.held words in
          record {
            ordered = (refl, inr (refl, omega arith));
            below = λ k lt. tape_more k (word_record n word) before lt ∙ is.below k lt;
            here = word_at n n true word before (same_number n) ∙ ap (λ input. joined_with input None None (word ∷ [])) is.here;
            later = λ k lt. word_at n k false word before (not_number n k lt) ∙ joined_nothing (tape_of before k) ∙ is.later k lt;
            fits =
                whole_more m start (word_record n word) before is.fits
                (stop_none m start (word_record n word) before (admitted_word before n word.address word.word word.mark is.ordered few) (first_inside_none (word_record n word) before is.below)
                (ap (λ b. cond b None (Some (fault_at n BadDma))) held));
            begun = record { rest = left; joined = append_assoc now.words (word ∷ []) left ∙ words ∙ ap (λ (input : Input). input.words) (sym is_turn.input) };
            within = is.within;
          }

      with_lines : (now : Input) (lines : ℕ) (before : List Record) → IsInside n now 2 before → IsInside n (record now { lines = lines }) 3 (Lines n lines ∷ before)
      with_lines now lines before is = record {
        ordered = (refl, inr (refl, omega arith));
        below = λ k lt. tape_more k (Lines n lines) before lt ∙ is.below k lt;
        here = lines_told n n lines before (omega arith) ∙ ap (λ input. joined_with input (Some lines) None []) is.here ∙ ap (λ l. record { words = l; lines = lines; supplied = now.supplied }) (append-nil now.words);
        later = λ k lt. lines_told n k lines before (omega (arith, lt)) ∙ ap (λ input. joined_with input (Some lines) None []) (is.later k lt);
        fits =
            whole_more m start (Lines n lines) before is.fits
            (stop_none m start (Lines n lines) before (admitted before (Lines n lines) is.ordered) (first_inside_none (Lines n lines) before is.below) refl);
        begun = is.begun;
        within = is.within;
      }

      with_load : (now : Input) (supplied : Supplied) (before : List Record) → IsInside n now 3 before → IsInside n (record now { supplied = Some supplied }) 4 (Load n supplied.value supplied.mark ∷ before)
      with_load now supplied before is = record {
        ordered = (refl, inr (refl, omega arith));
        below = λ k lt. tape_more k (Load n supplied.value supplied.mark) before lt ∙ is.below k lt;
        here = load_at_step n n true supplied before (same_number n) ∙ ap (λ input. joined_with input None (Some supplied) []) is.here ∙ ap (λ l. record { words = l; lines = now.lines; supplied = Some supplied }) (append-nil now.words);
        later = λ k lt. load_at_step n k false supplied before (not_number n k lt) ∙ joined_nothing (tape_of before k) ∙ is.later k lt;
        fits =
            whole_more m start (Load n supplied.value supplied.mark) before is.fits
            (stop_none m start (Load n supplied.value supplied.mark) before (admitted before (Load n supplied.value supplied.mark) is.ordered) (first_inside_none (Load n supplied.value supplied.mark) before is.below) refl);
        begun = is.begun;
        within = is.within;
      }

      -- the whole input is recorded, and the next step begins
      next_inside : (r : ℕ) (before : List Record) → IsInside n turn.input r before → IsInside (suc n) (held_on turn.input.lines) 0 before
      next_inside r before is = record {
        ordered = before_next before n r 0 is.ordered;
        below = λ k lt. below_more (λ j. tape_of before j ≡ run_tape turns j) n is.below (is.here ∙ sym is_turn.input) k (omega (arith, lt));
        here = is.later (suc n) (omega arith);
        later = λ k lt. is.later k (omega (arith, lt));
        fits = is.fits;
        begun = empty_IsPrefix (run_tape turns (suc n)).words;
        within = is_within;
      }

      reach_follows : (k : ℕ) → k < suc n → FollowsPower k (Reach (suc n))
      reach_follows k lt = λ status last ends. let same : n ≡ k = omega (arith, lt, last, is_within) in subst (λ j. (suc n == suc j) ≡ true) same (same_number (suc n))

      with_reach : (now : Input) (before : List Record) → IsInside (suc n) now 0 before → IsInside (suc n) now 1 (Reach (suc n) ∷ before)
      with_reach now before is = record {
        ordered = (refl, inr (refl, omega arith));
        below = λ k lt. tape_more k (Reach (suc n)) before lt ∙ is.below k lt;
        here = joined_nothing (tape_of before (suc n)) ∙ is.here;
        later = λ k lt. joined_nothing (tape_of before k) ∙ is.later k lt;
        fits =
            whole_more m start (Reach (suc n)) before is.fits
            (stop_none m start (Reach (suc n)) before (admitted before (Reach (suc n)) is.ordered) (first_none (suc n) (Reach (suc n)) before is.below is.within reach_follows) refl);
        begun = is.begun;
        within = is.within;
      }

      -- one kind of record after the other, before what follows
      words_go : (words : List DmaWord) (now : Input) (before tail : List Record) → IsInside n now 2 before → now.words ++ words ≡ turn.input.words
          → ((before' : List Record) → IsInside n (record now { words = turn.input.words }) 2 before' → EachPrefix IsRunPrefix before' tail) → EachPrefix IsRunPrefix before (map (word_record n) words ++ tail)
      words_go [] now before tail is words again =
          again before (subst (λ l. IsInside n (record now { words = l }) 2 before) (sym (append-nil now.words) ∙ words) is)
      words_go (word ∷ left) now before tail is words again = (
        inside_prefix n 2 now before is,
        words_go left (record now { words = now.words ++ word ∷ [] }) (word_record n word ∷ before) tail (with_word now word left before is words) (append_assoc now.words (word ∷ []) left ∙ words) again,
      )

      lines_go : (now : Input) (lines : ℕ) (before tail : List Record) → IsInside n now 2 before → ((before' : List Record) → IsInside n (record now { lines = lines }) 3 before' → EachPrefix IsRunPrefix before' tail)
          → EachPrefix IsRunPrefix before (lines_records n now.lines lines ++ tail)
      lines_go now lines before tail is again = by (lines == now.lines) refl
        where
          by : (b : Bool) → (lines == now.lines) ≡ b → EachPrefix IsRunPrefix before (cond b [] (Lines n lines ∷ []) ++ tail)
          by true same =
              let held : now.lines ≡ lines = grind (arith, nat_tests, same) in
              again before (subst (λ l. IsInside n (record now { lines = l }) 3 before) held (inside_more n 2 3 now before is (omega arith)))
          by false differ = (inside_prefix n 2 now before is, again (Lines n lines ∷ before) (with_lines now lines before is))

      load_go : (now : Input) (o : Option Supplied) (before tail : List Record) → IsInside n now 3 before → now.supplied ≡ None
          → ((before' : List Record) → IsInside n (record now { supplied = o }) 4 before' → EachPrefix IsRunPrefix before' tail) → EachPrefix IsRunPrefix before (load_records n o ++ tail)
      load_go now None before tail is none again = again before (subst (λ o. IsInside n (record now { supplied = o }) 4 before) none (inside_more n 3 4 now before is (omega arith)))
      load_go now (Some supplied) before tail is none again = (inside_prefix n 3 now before is, again (Load n supplied.value supplied.mark ∷ before) (with_load now supplied before is))

      reach_go : (before tail : List Record) → IsInside n turn.input 4 before → ((before' : List Record) → IsInside (suc n) (held_on turn.input.lines) 1 before' → EachPrefix IsRunPrefix before' tail)
          → EachPrefix IsRunPrefix before (reach_records n turn.event ++ tail)
      reach_go before tail is again = by (tells_reach n turn.event)
        where
          by : (b : Bool) → EachPrefix IsRunPrefix before (cond b (Reach (suc n) ∷ []) [] ++ tail)
          by true =
              let next = next_inside 4 before is in
              (inside_prefix (suc n) 0 (held_on turn.input.lines) before next, again (Reach (suc n) ∷ before) (with_reach (held_on turn.input.lines) before next))
          by false = again before (inside_more (suc n) 0 1 (held_on turn.input.lines) before (next_inside 4 before is) (omega arith))

      -- all records of the step
      turn_go : (held : ℕ) (before tail : List Record) → IsInside n (held_on held) 1 before → ((before' : List Record) → IsInside (suc n) (held_on turn.input.lines) 1 before' → EachPrefix IsRunPrefix before' tail)
          → EachPrefix IsRunPrefix before (map (word_record n) turn.input.words ++ (lines_records n held turn.input.lines ++ (load_records n turn.input.supplied ++ (reach_records n turn.event ++ tail))))
      turn_go held before tail is again =
          words_go turn.input.words (held_on held) before (lines_records n held turn.input.lines ++ (load_records n turn.input.supplied ++ (reach_records n turn.event ++ tail))) (inside_more n 1 2 (held_on held) before is (omega arith)) refl
          (λ b1 is1. lines_go (record (held_on held) { words = turn.input.words }) turn.input.lines b1 (load_records n turn.input.supplied ++ (reach_records n turn.event ++ tail)) is1
          (λ b2 is2. load_go (record { words = turn.input.words; lines = turn.input.lines; supplied = None }) turn.input.supplied b2 (reach_records n turn.event ++ tail) is2 refl (λ b3 is3. reach_go b3 tail is3 again)))

    -- The end.
    end_follows : (k : ℕ) → FollowsPower k (End (length turns) cause)
    end_follows k = λ status last ends. subst (λ c. is_after_power (suc k) status (End (length turns) c) ≡ true) (sym ends) (subst (λ n. ((n == suc k) && (status == status)) ≡ true) last (both (suc k) status))
      where
        both : (n status : ℕ) → ((n == n) && (status == status)) ≡ true
        both n status = ap (λ b. b && (status == status)) (same_number n) ∙ same_number status

    -- it agrees with the last step
    end_right : (n : ℕ) → n ≡ length turns → end_agrees cause (last_power m start (run_tape turns) n) ≡ true
    end_right zero none = ap (λ c. end_agrees c None) (at_limit turns runs none)
      where
        at_limit : (l : List Turn) → IsRun m start start l cause → 0 ≡ length l → cause ≡ Limit
        at_limit [] runs' none' = runs'
        at_limit (turn ∷ rest) runs' none' = absurd (omega (arith, none'))
    end_right (suc k) last =
        let there = there_within turns k (omega (arith, last)) in
        let is = turn_is m start start turns cause runs k there.0 there.1 in
        ap (λ (t : Turn). end_agrees cause (power_status t.event)) is.does ∙ by (power_status there.0.event) is.ends
      where
        by : (o : Option ℕ) → EndsAt o k (length turns) cause → end_agrees cause o ≡ true
        by (Some status) ends = ap (λ c. end_agrees c (Some status)) ends.1 ∙ same_number status
        by None ends = ap (λ c. end_agrees c None) (ends last)

    end_prefix : (held : ℕ) (before : List Record) → IsInside (length turns) (held_on held) 1 before → IsRunPrefix (End (length turns) cause ∷ before)
    end_prefix held before is =
        let n = length turns in
        record {
          fits =
              whole_more m start (End n cause) before is.fits
              (stop_none m start (End n cause) before (admitted before (End n cause) (before_more before n 1 4 is.ordered (omega arith)))
              (first_none n (End n cause) before is.below (omega arith) (λ k lt. end_follows k))
              (ap (λ (input : Input). end_fault n cause input.supplied (last_power m start (tape_of before) n)) is.here
              ∙ ap (λ o. cond (end_agrees cause o) None (Some (fault_at n EndsElsewhere))) (last_power-same m start n (tape_of before) (run_tape turns) is.below)
              ∙ ap (λ b. cond b None (Some (fault_at n EndsElsewhere))) (end_right n refl)));
          below = λ k lt. tape_more k (End n cause) before lt ∙ is.below k lt;
          begun = subst (λ (input : Input). IsPrefix input.words (run_tape turns n).words) (sym (joined_nothing (tape_of before n) ∙ is.here)) is.begun;
          within = omega arith;
        }

    nested : (a b c d e f : List Record) → ((a ++ (b ++ (c ++ d))) ++ e) ++ f ≡ a ++ (b ++ (c ++ (d ++ (e ++ f))))
    nested a b c d e f = simp append_assoc refl

    -- the log from a step on
    log_go : (rest : List Turn) (n held : ℕ) (before : List Record) → drop n turns ≡ rest → IsInside n (held_on held) 1 before → EachPrefix IsRunPrefix before (turns_log n held rest ++ End (length turns) cause ∷ [])
    log_go [] n held before left is =
        let last : n ≡ length turns = omega (arith, is.within, length-drop n turns, ap length left) in
        (inside_prefix n 1 (held_on held) before is, end_prefix held before (subst (λ k. IsInside k (held_on held) 1 before) last is))
    log_go (turn ∷ rest) n held before left is =
        let end' = End (length turns) cause ∷ [] in
        subst (EachPrefix IsRunPrefix before)
        (sym (nested (map (word_record n) turn.input.words) (lines_records n held turn.input.lines) (load_records n turn.input.supplied) (reach_records n turn.event) (turns_log (suc n) turn.input.lines rest) end'))
        (turn_go n turn (dropped-at n turns turn rest left) held before (turns_log (suc n) turn.input.lines rest ++ end') is (λ before' is'. log_go rest (suc n) turn.input.lines before' (dropped-next n turns turn rest left) is'))

-- each prefix of the log of a run
pub log_prefixes : {S : Type 0} (m : Machine S) (start : S) (run : Finished) (prefix : List Record) → Runs m start run → IsPrefix prefix (log run) → IsRunPrefix m start run.turns run.cause (reverse prefix)
log_prefixes m start run prefix runs is =
    let each = log_go m start run.turns run.cause runs.is_run run.turns 0 0 [] refl (first_inside m start run.turns run.cause runs.is_run) in
    let whole' = subst (λ n. EachPrefix (IsRunPrefix m start run.turns run.cause) [] (turns_log 0 0 run.turns ++ End n run.cause ∷ [])) (sym runs.counted) each in
    subst (IsRunPrefix m start run.turns run.cause) (append-nil (reverse prefix)) (each_prefix-at (IsRunPrefix m start run.turns run.cause) [] (log run) prefix is.rest whole' is.joined)
