-- What a list that fits says of its records, and of the steps after its last one.
use Rattle.std.proofs.Common.{◌≡◌, ℕ, ◌<◌, ◌≤◌, Bool, true, false, cond, ◌&&◌, List, [], ◌∷◌, ◌++◌, Option, None, Some, refl, sym, ap, ◌∙◌, arith, unwrap_or}
use Rattle.std.specs.Option.{option_or}
use Rattle.std.proofs.lemmas.Bool.{and_parts}
use Rattle.std.proofs.lemmas.Bool.Decides.{nat_tests}
use Rattle.run_events.specs.declared.fault.Diverged.{Diverged}
use Rattle.run_events.specs.declared.fault.Why.TheVariants.{StepFalls}
use Rattle.run_events.specs.declared.record.Record.{Record}
use Rattle.run_events.specs.declared.record.Record.TheVariants.{Load, Lines, Dma, Reach, End}
use Rattle.run_events.specs.Record.{number, is_admitted, is_ordered_back, reach_back}
use Rattle.run_events.proofs.RecordLaws.{admitted_rises}
use Rattle.any_machine.specs.Machine.{Machine, Input}
use Rattle.any_machine.specs.Tape.{bits_told, load_told, words_told, lines_at, load_at, words_at, tape_of}
use Rattle.any_machine.specs.Replay.{Outcome, Stop, stopped, fault_at, stop_of, taken_or_stopped, unless_faulted, outcome}
use Rattle.any_machine.proofs.OutcomeLaws.{whole, outcome-nil, outcome-cons, whole_more}

-- after step n a tape says nothing new: no words, the same lines, no value of a device register
pub record IsIdleAfter (tape : ℕ → Input) (n : ℕ) : Type 0 where
  pub no_words : (k : ℕ) → n < k → (tape k).words ≡ []
  pub same_lines : (k : ℕ) → n ≤ k → (tape k).lines ≡ (tape n).lines
  pub no_load : (k : ℕ) → n < k → (tape k).supplied ≡ None

pub idle_later : (tape : ℕ → Input) (n n' : ℕ) → n ≤ n' → IsIdleAfter tape n → IsIdleAfter tape n'
idle_later tape n n' le idle = record {
  no_words = λ k lt. idle.no_words k (omega (arith, le, lt));
  same_lines = λ k low. idle.same_lines k (omega (arith, le, low)) ∙ sym (idle.same_lines n' le);
  no_load = λ k lt. idle.no_load k (omega (arith, le, lt));
}

-- what a record tells of the steps after its number, and of the lines from its number on
words_past : (k : ℕ) (item : Record) → number item < k → words_told k item ≡ []
words_past k (Dma step address word mark) past = grind (arith, nat_tests, past)
words_past k (Load step value mark) past = refl
words_past k (Lines step bits) past = refl
words_past k (Reach step) past = refl
words_past k (End step cause) past = refl

load_past : (k : ℕ) (item : Record) → number item < k → load_told k item ≡ None
load_past k (Load step value mark) past = grind (arith, nat_tests, past)
load_past k (Dma step address word mark) past = refl
load_past k (Lines step bits) past = refl
load_past k (Reach step) past = refl
load_past k (End step cause) past = refl

bits_past : (k n : ℕ) (item : Record) → number item ≤ n → n ≤ k → bits_told k item ≡ bits_told n item
bits_past k n (Lines step bits) past le = grind (arith, nat_tests, past, le)
bits_past k n (Load step value mark) past le = refl
bits_past k n (Dma step address word mark) past le = refl
bits_past k n (Reach step) past le = refl
bits_past k n (End step cause) past le = refl

-- a list in order
record IsWithin (before : List Record) (last : Record) : Type 0 where
  rises : reach_back before ≤ number last
  ordered : is_ordered_back before ≡ true

within : (before : List Record) (last : Record) → is_ordered_back (last ∷ before) ≡ true → IsWithin before last
within before last ordered =
    let parts = and_parts (is_admitted before last) (is_ordered_back before) ordered in
    record { rises = admitted_rises before last parts.0; ordered = parts.1 }

words_at-past : (k : ℕ) (items : List Record) → is_ordered_back items ≡ true → reach_back items < k → words_at items k ≡ []
words_at-past k [] ordered past = refl
words_at-past k (last ∷ before) ordered past =
    let in_order = within before last ordered in
    ap (λ l. l ++ words_told k last) (words_at-past k before in_order.ordered (omega (arith, in_order.rises, past))) ∙ words_past k last past

load_at-past : (k : ℕ) (items : List Record) → is_ordered_back items ≡ true → reach_back items < k → load_at items k ≡ None
load_at-past k [] ordered past = refl
load_at-past k (last ∷ before) ordered past =
    let in_order = within before last ordered in
    ap (λ o. option_or o (load_at before k)) (load_past k last past) ∙ load_at-past k before in_order.ordered (omega (arith, in_order.rises, past))

lines_at-past : (k n : ℕ) (items : List Record) → is_ordered_back items ≡ true → reach_back items ≤ n → n ≤ k → lines_at items k ≡ lines_at items n
lines_at-past k n [] ordered past le = refl
lines_at-past k n (last ∷ before) ordered past le =
    let in_order = within before last ordered in
    ap (λ o. unwrap_or o (lines_at before k)) (bits_past k n last past le) ∙ ap (unwrap_or (bits_told n last)) (lines_at-past k n before in_order.ordered (omega (arith, in_order.rises, past)) le)

pub ordered_is_idle : (items : List Record) → is_ordered_back items ≡ true → IsIdleAfter (tape_of items) (reach_back items)
ordered_is_idle items ordered = record {
  no_words = λ k past. words_at-past k items ordered past;
  same_lines = λ k le. lines_at-past k (reach_back items) items ordered (omega arith) le;
  no_load = λ k past. load_at-past k items ordered past;
}

module _ {S : Type 0} (m : Machine S) (start : S) where
  -- what is known where a list with one record more has no fault
  pub record FitsWith (before : List Record) (last : Record) : Type 0 where
    pub fits : (outcome m start before).fault ≡ None
    pub goes_on : stop_of m start (outcome m start before).taken last ≡ None

  parts_of : (before : List Record) (last : Record) (fault : Option Diverged) (stop : Option Stop) → (outcome m start before).fault ≡ fault → stop_of m start (outcome m start before).taken last ≡ stop
      → (unless_faulted (outcome m start before) fault (taken_or_stopped (outcome m start before).taken last stop)).fault ≡ None → FitsWith before last
  parts_of before last (Some fault) stop fault_is stop_is none =
      let no : Some fault ≡ None = sym fault_is ∙ none in
      absurd (cc)
  parts_of before last None (Some stop) fault_is stop_is none = absurd (cc)
  parts_of before last None None fault_is stop_is none = record { fits = fault_is; goes_on = stop_is }

  pub fits_parts : (before : List Record) (last : Record) → (outcome m start (last ∷ before)).fault ≡ None → FitsWith before last
  fits_parts before last none = parts_of before last _ _ refl refl (ap (λ (o : Outcome). o.fault) (sym (outcome-cons m start last before)) ∙ none)

  stop_after : (before : List Record) (last : Record) → outcome m start before ≡ whole before → stop_of m start (outcome m start before).taken last ≡ None → stop_of m start before last ≡ None
  stop_after before last is none = ap (λ (o : Outcome). stop_of m start o.taken last) (sym is) ∙ none

  -- a list without a fault is taken whole
  pub fits_of : (items : List Record) → (outcome m start items).fault ≡ None → outcome m start items ≡ whole items
  fits_of [] none = outcome-nil m start
  fits_of (last ∷ before) none =
      let parts = fits_parts before last none in
      let is = fits_of before parts.fits in
      whole_more m start last before is (stop_after before last is parts.goes_on)

  -- a record that falls in the order stops
  admitted_by : (before : List Record) (last : Record) (b : Bool) (o : Option Stop) → cond b o (Some (stopped (reach_back before) (fault_at (number last) StepFalls))) ≡ None → b ≡ true
  admitted_by before last true o none = refl
  admitted_by before last false o none = absurd (cc)

  pub fits_ordered : (items : List Record) → (outcome m start items).fault ≡ None → is_ordered_back items ≡ true
  fits_ordered [] none = refl
  fits_ordered (last ∷ before) none =
      let parts = fits_parts before last none in
      let stop = stop_after before last (fits_of before parts.fits) parts.goes_on in
      ap (λ b. b && is_ordered_back before) (admitted_by before last (is_admitted before last) _ stop) ∙ fits_ordered before parts.fits
