-- What becomes of a list with one record more.
use Rattle.std.proofs.Common.{◌≡◌, true, cond, List, [], ◌∷◌, None, Some, refl, ap, ◌∙◌}
use Rattle.std.specs.Option.{option_map, option_or}
use Rattle.run_events.specs.declared.fault.Why.TheVariants.{StepFalls}
use Rattle.run_events.specs.declared.record.Record.{Record}
use Rattle.run_events.specs.Record.{number, is_admitted, reach_back}
use Rattle.any_machine.specs.Machine.{Machine}
use Rattle.any_machine.specs.Tape.{tape_of}
use Rattle.any_machine.specs.Replay.{Outcome, stopped, fault_at, first_stop, own_stop, own_fault, last_power, stop_of, taken_or_stopped, judged, outcome}

-- a list that is taken whole
abbrev pub whole : List Record → Outcome
whole items = record { taken = items; done = reach_back items; fault = None }

module _ {S : Type 0} (m : Machine S) (start : S) where
  pub outcome-nil : outcome m start [] ≡ whole []
  unfolding outcome
  outcome-nil = refl

  pub outcome-cons : (item : Record) (before : List Record) → outcome m start (item ∷ before) ≡ judged m start (outcome m start before) item
  unfolding outcome
  outcome-cons item before = refl

  -- a record that nothing stops, after a list that is taken whole
  pub whole_more : (item : Record) (before : List Record) → outcome m start before ≡ whole before → stop_of m start before item ≡ None → outcome m start (item ∷ before) ≡ whole (item ∷ before)
  whole_more item before fits none = outcome-cons item before ∙ ap (λ o. judged m start o item) fits ∙ ap (taken_or_stopped before item) none

  -- what does not stop a record
  pub stop_none : (item : Record) (before : List Record) → is_admitted before item ≡ true → first_stop m start (tape_of before) item (number item) ≡ None
      → own_fault m start item (tape_of before (number item)).supplied (last_power m start (tape_of before) (number item)) ≡ None → stop_of m start before item ≡ None
  stop_none item before admitted first own =
      ap (λ b. cond b (option_or (first_stop m start (tape_of before) item (number item)) (own_stop m start (tape_of before) item (number item))) (Some (stopped (reach_back before) (fault_at (number item) StepFalls)))) admitted
      ∙ ap (λ o. option_or o (own_stop m start (tape_of before) item (number item))) first ∙ ap (option_map (stopped (number item))) own
