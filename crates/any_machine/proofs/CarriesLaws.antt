-- What a replay that is fed carries along stands for what becomes of the list that it was fed.
use Rattle.std.proofs.Common.{◌≡◌, ◌-◌, Bool, true, false, cond, List, [], ◌∷◌, ◌++◌, Option, None, Some, refl, sym, ap, ◌∙◌, subst, arith, append-nil, append_assoc}
use Rattle.std.specs.Option.{option_map, option_or}
use Rattle.run_events.specs.declared.event.Event.{Event}
use Rattle.run_events.specs.declared.fault.Diverged.{Diverged}
use Rattle.run_events.specs.declared.fault.Why.TheVariants.{StepFalls}
use Rattle.run_events.specs.declared.record.Record.{Record}
use Rattle.run_events.specs.Record.{number, is_admitted, reach_back}
use Rattle.run_events.proofs.RecordLaws.{admitted_rises}
use Rattle.any_machine.specs.Machine.{Machine}
use Rattle.any_machine.specs.Tape.{tape_of}
use Rattle.any_machine.specs.Replay.{Outcome, Stop, stopped, fault_at, stop_of, taken_or_stopped, unless_faulted, judged, outcome, shown_on, shown_by}
use Rattle.any_machine.specs.Held.{Held, held_first, held_with, word_shown, run_shown, kept_or_with, held_fault, held_at, held_take, take_shown}
use Rattle.any_machine.specs.Carries.{Carries}
use Rattle.any_machine.proofs.OutcomeLaws.{whole, outcome-nil, outcome-cons}
use Rattle.any_machine.proofs.TapeLaws.{state_at-zero}
use Rattle.any_machine.proofs.Later.{ordered_is_idle, fits_of, fits_ordered, IsIdleAfter}
use Rattle.any_machine.proofs.Stands.{Ran, run_is}
use Rattle.any_machine.proofs.Stops.{halted, stop_is, stop_falls}
use Rattle.any_machine.proofs.WithRecord.{takes_record}

-- the first of two is nothing, where both are
first_none : {X : Type 0} (o p : Option X) → option_or o p ≡ None → o ≡ None
first_none None p none = refl
first_none (Some x) p none = absurd (cc)

module _ {S : Type 0} (m : Machine S) (start : S) where
  -- a record is taken: its fault, what is held, and what is shown are those of the list with it
  pub record Takes (before : List Record) (item : Record) (h : Held S) (taken : Option Diverged × Held S) (events : List Event) : Type 0 where
    pub fault : taken.0 ≡ (outcome m start (item ∷ before)).fault
    pub carries : Carries m start (outcome m start (item ∷ before)) taken.1
    pub shown : shown_by m start (outcome m start (item ∷ before)) ≡ shown_by m start (outcome m start before) ++ events

  -- the same, where what becomes of both lists is given
  record Becomes (o o' : Outcome) (taken : Option Diverged × Held S) (events : List Event) : Type 0 where
    fault : taken.0 ≡ o'.fault
    carries : Carries m start o' taken.1
    shown : shown_by m start o' ≡ shown_by m start o ++ events

  becomes_takes : (before : List Record) (item : Record) (h : Held S) (o o' : Outcome) (taken : Option Diverged × Held S) (events : List Event) → outcome m start before ≡ o → outcome m start (item ∷ before) ≡ o'
      → Becomes o o' taken events → Takes before item h taken events
  becomes_takes before item h o o' taken events is is' b = record {
    fault = b.fault ∙ ap (λ (o : Outcome). o.fault) (sym is');
    carries = subst (λ o. Carries m start o taken.1) (sym is') b.carries;
    shown = ap (shown_by m start) is' ∙ b.shown ∙ ap (λ o. shown_by m start o ++ events) (sym is);
  }

  -- after the steps below the record's number, as far as they can be done
  by_fault : (before : List Record) (item : Record) (h h' : Held S) (events : List Event) (fault : Option Diverged) → h.step ≡ reach_back before → Ran m start (tape_of before) (number item) h h' events
      → (fault ≡ None → h'.step ≡ number item)
      → Becomes (whole before) (taken_or_stopped before item (option_map (stopped h'.step) fault)) (kept_or_with fault h' (held_with m item h')) (events ++ (kept_or_with fault [] (word_shown m item h')).1)
  by_fault before item h h' events (Some fault) reach ran done = record {
    fault = refl;
    carries = record { at = ran.at; done = refl };
    shown = ran.shown ∙ ap (λ k. shown_on m start (tape_of before) k ++ events) reach ∙ ap (λ l. shown_on m start (tape_of before) (reach_back before) ++ l) (sym (append-nil events));
  }
  by_fault before item h h' events None reach ran done =
      let ends = done refl in
      let taken = takes_record m start before item h' ran.at ends in
      record {
        fault = refl;
        carries = record { at = taken.at; done = sym taken.step ∙ ends };
        shown =
            ap (shown_on m start (tape_of (item ∷ before))) (sym ends) ∙ taken.shown ∙ ap (λ l. l ++ word_shown m item h') (ran.shown ∙ ap (λ k. shown_on m start (tape_of before) k ++ events) reach)
            ∙ append_assoc (shown_on m start (tape_of before) (reach_back before)) events (word_shown m item h');
      }

  by_stop : (before : List Record) (item : Record) (taken : Option Diverged × Held S) (events : List Event) (stop stop' : Option Stop) → stop ≡ stop' → Becomes (whole before) (taken_or_stopped before item stop') taken events
      → Becomes (whole before) (taken_or_stopped before item stop) taken events
  by_stop before item taken events stop stop' is = subst (λ s. Becomes (whole before) (taken_or_stopped before item s) taken events) (sym is)

  -- whether the order admits it
  by_order : (before : List Record) (item : Record) (h : Held S) → (outcome m start before).fault ≡ None → Carries m start (whole before) h → (b : Bool) → is_admitted before item ≡ b
      → Becomes (whole before) (taken_or_stopped before item (stop_of m start before item))
      (cond b (kept_or_with (held_fault m start item (held_at m start item h)) (held_at m start item h) (held_with m item (held_at m start item h))) (Some (fault_at (number item) StepFalls), h))
      (cond b (run_shown m (number item - h.step) h ++ (kept_or_with (held_fault m start item (held_at m start item h)) [] (word_shown m item (held_at m start item h))).1) [])
  by_order before item h fits carries true admitted =
      let rises = admitted_rises before item admitted in
      let idle : IsIdleAfter (tape_of before) h.step = subst (IsIdleAfter (tape_of before)) (sym carries.done) (ordered_is_idle before (fits_ordered m start before fits)) in
      let ran = run_is m start (tape_of before) (number item - h.step) (number item) h (omega (arith, rises, carries.done)) idle carries.at in
      by_stop before item _ _ _ _ (stop_is m start before item (held_at m start item h) admitted ran.at ran.no_more ran.early)
      (by_fault before item h (held_at m start item h) (run_shown m (number item - h.step) h) (held_fault m start item (held_at m start item h)) carries.done ran
      (λ none. (halted m start (tape_of before) item (held_at m start item h) ran.at ran.no_more ran.early).done (first_none _ _ none)))
  by_order before item h fits carries false falls =
      by_stop before item (Some (fault_at (number item) StepFalls), h) [] _ _ (stop_falls m start before item falls) (record { fault = refl; carries = record { at = carries.at; done = carries.done }; shown = sym (append-nil _) })

  -- a list that fits, and one record more
  pub take_is : (before : List Record) (item : Record) (h : Held S) → (outcome m start before).fault ≡ None → Carries m start (outcome m start before) h
      → Takes before item h (held_take m start before item h) (take_shown m start before item h)
  take_is before item h fits carries =
      let is = fits_of m start before fits in
      becomes_takes before item h (whole before) _ _ _ is (outcome-cons m start item before ∙ ap (λ o. judged m start o item) is)
      (by_order before item h fits (subst (λ o. Carries m start o h) is carries) (is_admitted before item) refl)

  -- after a fault all is as before
  pub still : (before : List Record) (item : Record) (fault : Diverged) → (outcome m start before).fault ≡ Some fault → outcome m start (item ∷ before) ≡ outcome m start before
  still before item fault is = outcome-cons m start item before ∙ ap (λ f. unless_faulted (outcome m start before) f (taken_or_stopped (outcome m start before).taken item (stop_of m start (outcome m start before).taken item))) is

  -- before the first record
  pub fed_nothing : Carries m start (outcome m start []) (held_first start)
  fed_nothing = subst (λ o. Carries m start o (held_first start)) (sym (outcome-nil m start)) (record {
    at = record { state = sym (state_at-zero m start (tape_of [])); lines = refl; load = refl; power = refl; supplied = λ k lt. absurd (omega (arith, lt)); quiet = λ k lt. absurd (omega (arith, lt)) };
    done = refl;
  })
