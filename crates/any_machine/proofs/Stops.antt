-- Where a replay halts before a record, and the fault of the record.
use Rattle.std.proofs.Common.{◌≡◌, ℕ, zero, suc, ◌-◌, ◌<◌, ◌≤◌, Bool, true, false, not, cond, ◌&&◌, nat_lt, List, Option, None, Some, refl, sym, ap, ◌∙◌, subst, arith}
use Rattle.std.specs.Prelude.{is_some, ◌==◌}
use Rattle.std.specs.Option.{option_map, option_or}
use Rattle.std.proofs.lemmas.Bool.{and_parts, eqb-true}
use Rattle.std.proofs.lemmas.Bool.Decides.{nat_tests}
use Rattle.run_events.specs.declared.fault.Diverged.{Diverged}
use Rattle.run_events.specs.declared.fault.Why.{Why}
use Rattle.run_events.specs.declared.fault.Why.TheVariants.{EndsElsewhere, StepFalls}
use Rattle.run_events.specs.declared.record.EndCause.TheVariants.{Power, Limit}
use Rattle.run_events.specs.declared.record.Record.{Record}
use Rattle.run_events.specs.declared.record.Record.TheVariants.{Load, Lines, Dma, Reach, End}
use Rattle.run_events.specs.Record.{number, is_admitted, reach_back}
use Rattle.any_machine.specs.Machine.{Machine, Input}
use Rattle.any_machine.specs.Tape.{tape_of}
use Rattle.any_machine.specs.Replay.{stopped, fault_at, is_after_power, step_stop, power_stop, power_at, last_power, load_fault_at, stop_at, first_stop, own_fault, own_stop, stop_of}
use Rattle.any_machine.specs.Held.{Held, wait_fault, may_step, halt_fault, held_fault, IsAt}
use Rattle.any_machine.proofs.TapeLaws.{IsClear, clear_stops_not, first_stop-none, first_stop-clear, first_stop-at}
use Rattle.any_machine.proofs.Stands.{quiet_below, wait_is, below_next}

-- the record that follows a power store
pub number_after : (item : Record) (steps status : ℕ) → is_after_power steps status item ≡ true → number item ≡ steps
number_after (Reach step) steps status is = eqb-true step steps is
number_after (End step (Power told)) steps status is = eqb-true step steps (and_parts (step == steps) (told == status) is).0
number_after (End step Limit) steps status is = cc
number_after (Load step value mark) steps status is = cc
number_after (Lines step bits) steps status is = cc
number_after (Dma step address word mark) steps status is = cc

module _ {S : Type 0} (m : Machine S) (start : S) (tape : ℕ → Input) where
  -- where so many steps are done, this stops a record, and without a fault they come to its number
  pub record IsHalted (item : Record) (steps : ℕ) (fault : Option Diverged) : Type 0 where
    pub stop : first_stop m start tape item (number item) ≡ option_map (stopped steps) fault
    pub done : fault ≡ None → steps ≡ number item

  -- after a power store
  after_store : (item : Record) (k status : ℕ) → ((j : ℕ) → j < k → IsClear m start tape j) → load_fault_at m start tape k ≡ None → power_at m start tape k ≡ Some status → suc k ≤ number item
      → (b : Bool) → is_after_power (suc k) status item ≡ b → IsHalted item (suc k) (cond b None (Some (fault_at (suc k - 1) EndsElsewhere)))
  after_store item k status clear has_value store le true follows = record {
    stop =
        let last : stop_at m start tape item k ≡ None = ap (λ o. step_stop k o (power_at m start tape k) item) has_value ∙ ap (λ o. power_stop k o item) store ∙ ap (λ b. cond b None (Some (stopped (suc k) (fault_at k EndsElsewhere)))) follows in
        let ends = number_after item (suc k) status follows in
        first_stop-none m start tape item (number item) (λ j lt. below_next m start tape (λ i. stop_at m start tape item i ≡ None) k (λ i low. clear_stops_not m start tape item i (clear i low)) last j (omega (arith, lt, ends)));
    done = λ none. sym (number_after item (suc k) status follows);
  }
  after_store item k status clear has_value store le false follows = record {
    stop =
        let last : stop_at m start tape item k ≡ Some (stopped (suc k) (fault_at k EndsElsewhere)) =
        ap (λ o. step_stop k o (power_at m start tape k) item) has_value ∙ ap (λ o. power_stop k o item) store ∙ ap (λ b. cond b None (Some (stopped (suc k) (fault_at k EndsElsewhere)))) follows
        in
        let back : k ≡ suc k - 1 = omega arith in
        first_stop-at m start tape item (stopped (suc k) (fault_at k EndsElsewhere)) (number item) k (λ j low. clear_stops_not m start tape item j (clear j low)) last (omega (arith, le)) ∙ ap (λ j. Some (stopped (suc k) (fault_at j EndsElsewhere))) back;
    done = λ none. absurd (cc);
  }

  -- after no power store, where no step or the one to come cannot be done
  at_wait : (item : Record) (steps : ℕ) (wait : Option Why) → ((j : ℕ) → j < steps → IsClear m start tape j) → wait ≡ load_fault_at m start tape steps → steps < number item → (wait ≡ None → ⊥) → IsHalted item steps (option_map (fault_at steps) wait)
  at_wait item steps None clear is lt waits = absurd (waits refl)
  at_wait item steps (Some why) clear is lt waits = record {
    stop = first_stop-at m start tape item (stopped steps (fault_at steps why)) (number item) steps (λ j low. clear_stops_not m start tape item j (clear j low)) (ap (λ o. step_stop steps o (power_at m start tape steps) item) (sym is)) lt;
    done = λ none. absurd (cc);
  }

  after_none : (item : Record) (steps : ℕ) (wait : Option Why) → ((j : ℕ) → j < steps → IsClear m start tape j) → wait ≡ load_fault_at m start tape steps → steps ≤ number item → (steps < number item → wait ≡ None → ⊥)
      → (b : Bool) → nat_lt steps (number item) ≡ b → IsHalted item steps (cond b (option_map (fault_at steps) wait) None)
  after_none item steps wait clear is le waits true test =
      let lt : steps < number item = grind (arith, nat_tests, test) in
      at_wait item steps wait clear is lt (waits lt)
  after_none item steps wait clear is le waits false test =
      let ends : steps ≡ number item = grind (arith, nat_tests, test, le) in
      record { stop = subst (λ n. first_stop m start tape item n ≡ None) ends (first_stop-clear m start tape item steps clear); done = λ none. ends }

  -- what is held where no further step can be done, or all below a record's number are
  halted_by : (item : Record) (h : Held S) → IsAt m start tape h → (steps : ℕ) → h.step ≡ steps → steps ≤ number item → (steps < number item → may_step m h ≡ false) → (power : Option ℕ) → h.power ≡ power
      → IsHalted item steps (halt_fault steps power (wait_fault m h) item)
  halted_by item h at zero steps le early (Some status) power =
      let store : Some status ≡ None = sym power ∙ at.power ∙ ap (last_power m start tape) steps in
      absurd (cc)
  halted_by item h at (suc k) steps le early (Some status) power =
      let store : power_at m start tape k ≡ Some status = sym (ap (last_power m start tape) steps) ∙ sym at.power ∙ power in
      after_store item k status (λ j low. record { supplied = at.supplied j (omega (arith, low, steps)); quiet = at.quiet j (omega (arith, low, steps)) }) (at.supplied k (omega (arith, steps))) store le (is_after_power (suc k) status item) refl
  halted_by item h at steps steps_is le early None power =
      after_none item steps (wait_fault m h)
      (λ j low. record { supplied = at.supplied j (omega (arith, low, steps_is)); quiet = quiet_below m start tape h.step h.power at.power power at.quiet j (omega (arith, low, steps_is)) })
      (wait_is m start tape h at ∙ ap (load_fault_at m start tape) steps_is) le (λ lt none. waits (early lt) none) (nat_lt steps (number item)) refl
    where
      waits : may_step m h ≡ false → wait_fault m h ≡ None → ⊥
      waits may none =
          let can : may_step m h ≡ true = ap (λ o. not (is_some o) && not (is_some (wait_fault m h))) power ∙ ap (λ o. not (is_some o)) none in
          let no : true ≡ false = sym can ∙ may in
          cc

  pub halted : (item : Record) (h : Held S) → IsAt m start tape h → h.step ≤ number item → (h.step < number item → may_step m h ≡ false) → IsHalted item h.step (halt_fault h.step h.power (wait_fault m h) item)
  halted item h at le early = halted_by item h at h.step refl le early h.power refl

  -- with what is wrong with the record by itself
  stop_by : (item : Record) (h : Held S) → IsAt m start tape h → (fault : Option Diverged) → IsHalted item h.step fault
      → option_or (first_stop m start tape item (number item)) (own_stop m start tape item (number item)) ≡ option_map (stopped h.step) (option_or fault (own_fault m start item h.load h.power))
  stop_by item h at (Some fault) is = ap (λ o. option_or o (own_stop m start tape item (number item))) is.stop
  stop_by item h at None is =
      let ends = is.done refl in
      ap (λ o. option_or o (own_stop m start tape item (number item))) is.stop ∙ ap (own_stop m start tape item) (sym ends)
      ∙ ap (λ load. option_map (stopped h.step) (own_fault m start item load (last_power m start tape h.step))) (sym at.load) ∙ ap (λ power. option_map (stopped h.step) (own_fault m start item h.load power)) (sym at.power)

module _ {S : Type 0} (m : Machine S) (start : S) where
  by_order : (before : List Record) (item : Record) (b : Bool) → is_admitted before item ≡ b
      → stop_of m start before item
      ≡ cond b (option_or (first_stop m start (tape_of before) item (number item)) (own_stop m start (tape_of before) item (number item))) (Some (stopped (reach_back before) (fault_at (number item) StepFalls)))
  by_order before item b is = ap (λ b. cond b (option_or (first_stop m start (tape_of before) item (number item)) (own_stop m start (tape_of before) item (number item))) (Some (stopped (reach_back before) (fault_at (number item) StepFalls)))) is

  -- the stop of a record that the order does not admit
  pub stop_falls : (before : List Record) (item : Record) → is_admitted before item ≡ false → stop_of m start before item ≡ Some (stopped (reach_back before) (fault_at (number item) StepFalls))
  stop_falls before item falls = by_order before item false falls

  -- and of one that it admits, by what is held
  pub stop_is : (before : List Record) (item : Record) (h : Held S) → is_admitted before item ≡ true → IsAt m start (tape_of before) h → h.step ≤ number item → (h.step < number item → may_step m h ≡ false)
      → stop_of m start before item ≡ option_map (stopped h.step) (held_fault m start item h)
  stop_is before item h admitted at le early =
      by_order before item true admitted ∙ stop_by m start (tape_of before) item h at (halt_fault h.step h.power (wait_fault m h) item) (halted m start (tape_of before) item h at le early)
