-- What is held, held against a tape: after one step more, after a run, and after a record.
use Rattle.std.proofs.Common.{◌≡◌, ℕ, zero, suc, ◌+◌, ◌<◌, ◌≤◌, Bool, true, false, not, cond, List, [], ◌∷◌, ◌++◌, Option, None, refl, sym, ap, ◌∙◌, arith, append-nil, append_assoc, below_more}
use Rattle.std.specs.Prelude.{is_some}
use Rattle.std.proofs.lemmas.Bool.{and_parts}
use Rattle.std.proofs.lemmas.Grind.{flat_map-append}
use Rattle.list_laws.proofs.OptionLaws.{none_from_is_some}
use Rattle.run_events.specs.declared.event.Event.{Event}
use Rattle.any_machine.specs.Machine.{Machine, Input, power_status, touched, writes_of}
use Rattle.any_machine.specs.Run.{events_in, events_of}
use Rattle.any_machine.specs.Replay.{state_at, turn_at, turns_below, power_at, last_power, load_fault, load_fault_at, shown_on}
use Rattle.any_machine.specs.Held.{Held, wait_fault, held_event, held_next, may_step, run_held, run_shown, IsAt}
use Rattle.any_machine.proofs.TapeLaws.{state_at-suc, turns_below-suc}
use Rattle.any_machine.proofs.Later.{IsIdleAfter, idle_later}

not_true : (b : Bool) → not b ≡ true → b ≡ false
not_true true is = cc
not_true false is = refl

module _ {S : Type 0} (m : Machine S) where
  -- what lets a step be done
  pub record MayStep (h : Held S) : Type 0 where
    pub no_power : h.power ≡ None
    pub has_value : wait_fault m h ≡ None

  pub may_parts : (h : Held S) → may_step m h ≡ true → MayStep h
  may_parts h may =
      let both = and_parts (not (is_some h.power)) (not (is_some (wait_fault m h))) may in
      record {
        no_power = none_from_is_some h.power (not_true (is_some h.power) both.0);
        has_value = none_from_is_some (wait_fault m h) (not_true (is_some (wait_fault m h)) both.1);
      }

module _ {S : Type 0} (m : Machine S) (start : S) (tape : ℕ → Input) where
  -- what holds of the steps below k and of k holds below the next
  pub below_next : (P : ℕ → Type 0) (k : ℕ) → ((j : ℕ) → j < k → P j) → P k → (j : ℕ) → j < suc k → P j
  below_next P k below here j lt = below_more P k below here j (omega (arith, lt))

  -- no step was a power store, where the last one was none
  pub quiet_below : (n : ℕ) (power : Option ℕ) → power ≡ last_power m start tape n → power ≡ None → ((k : ℕ) → suc k < n → power_at m start tape k ≡ None) → (k : ℕ) → k < n → power_at m start tape k ≡ None
  quiet_below zero power is none quiet k lt = absurd (omega (arith, lt))
  quiet_below (suc n) power is none quiet k lt = below_next (λ j. power_at m start tape j ≡ None) n (λ j low. quiet j (omega (arith, low))) (sym is ∙ none) k lt

  -- the step to come is that of the tape
  event_is : (h : Held S) → IsAt m start tape h → m.step h.state h.lines h.load ≡ m.step (touched m (state_at m start tape h.step) (tape h.step).words) (tape h.step).lines (tape h.step).supplied
  event_is h at = ap (λ s. m.step s h.lines h.load) at.state ∙ ap (λ lines. m.step (touched m (state_at m start tape h.step) (tape h.step).words) lines h.load) at.lines ∙ ap (m.step _ (tape h.step).lines) at.load

  pub wait_is : (h : Held S) → IsAt m start tape h → wait_fault m h ≡ load_fault_at m start tape h.step
  wait_is h at = ap (λ s. load_fault (m.needs s h.lines) h.load) at.state ∙ ap (λ lines. load_fault (m.needs (touched m (state_at m start tape h.step) (tape h.step).words) lines) h.load) at.lines ∙ ap (load_fault _) at.load

  -- one step more
  pub at_next : (h : Held S) → IsAt m start tape h → IsIdleAfter tape h.step → may_step m h ≡ true → IsAt m start tape (held_next m h)
  at_next h at idle may =
      let can = may_parts m h may in
      let same = event_is h at in
      record {
        state =
            ap (λ r. r.1) same ∙ sym (state_at-suc m start tape h.step) ∙ ap (λ words. touched m (state_at m start tape (suc h.step)) words) (sym (idle.no_words (suc h.step) (omega arith)));
        lines = at.lines ∙ sym (idle.same_lines (suc h.step) (omega arith));
        load = sym (idle.no_load (suc h.step) (omega arith));
        power = ap (λ r. power_status r.0) same;
        supplied = below_next (λ k. load_fault_at m start tape k ≡ None) h.step at.supplied (sym (wait_is h at) ∙ can.has_value);
        quiet = λ k lt. quiet_below h.step h.power at.power can.no_power at.quiet k (omega (arith, lt));
      }

  -- and what it shows
  pub shown_next : (h : Held S) → IsAt m start tape h → IsIdleAfter tape h.step → shown_on m start tape (suc h.step) ≡ shown_on m start tape h.step ++ held_event m h ∷ []
  shown_next h at idle =
      let k = h.step in
      let before = events_of (turns_below m start tape k) in
      let writes = writes_of m (state_at m start tape k) (tape k).words in
      ap (λ turns. events_of turns ++ writes_of m (state_at m start tape (suc k)) (tape (suc k)).words) (turns_below-suc m start tape k)
      ∙ ap (λ words. events_of (turns_below m start tape k ++ turn_at m start tape k ∷ []) ++ writes_of m (state_at m start tape (suc k)) words) (idle.no_words (suc k) (omega arith))
      ∙ append-nil _
      ∙ flat_map-append events_in (turns_below m start tape k) (turn_at m start tape k ∷ [])
      ∙ ap (λ l. before ++ l) (append-nil _)
      ∙ sym (append_assoc before writes ((turn_at m start tape k).event ∷ []))
      ∙ ap (λ r. (before ++ writes) ++ r.0 ∷ []) (sym (event_is h at))

  -- some steps from what was held, as far as a number
  pub record Ran (n : ℕ) (h h' : Held S) (events : List Event) : Type 0 where
    pub at : IsAt m start tape h'
    pub no_less : h.step ≤ h'.step
    pub no_more : h'.step ≤ n
    pub early : h'.step < n → may_step m h' ≡ false
    pub shown : shown_on m start tape h'.step ≡ shown_on m start tape h.step ++ events

  pub run_is : (left n : ℕ) (h : Held S) → h.step + left ≡ n → IsIdleAfter tape h.step → IsAt m start tape h → Ran n h (run_held m left h) (run_shown m left h)
  unfolding run_held run_shown
  run_is zero n h end' idle at = record { at = at; no_less = omega arith; no_more = omega (arith, end'); early = λ lt. absurd (omega (arith, end', lt)); shown = sym (append-nil _) }
  run_is (suc left) n h end' idle at =
      by (may_step m h) refl (λ may. run_is left n (held_next m h) (omega (arith, end')) (idle_later tape h.step (suc h.step) (omega arith) idle) (at_next h at idle may))
    where
      by : (b : Bool) → may_step m h ≡ b → (may_step m h ≡ true → Ran n (held_next m h) (run_held m left (held_next m h)) (run_shown m left (held_next m h)))
          → Ran n h (cond b (run_held m left (held_next m h)) h) (cond b (held_event m h ∷ run_shown m left (held_next m h)) [])
      by false may go_on = record { at = at; no_less = omega arith; no_more = omega (arith, end'); early = λ lt. may; shown = sym (append-nil _) }
      by true may go_on =
          let rest = go_on may in
          record {
            at = rest.at;
            no_less = omega (arith, rest.no_less);
            no_more = rest.no_more;
            early = rest.early;
            shown = rest.shown ∙ ap (λ l. l ++ run_shown m left (held_next m h)) (shown_next h at idle) ∙ append_assoc (shown_on m start tape h.step) (held_event m h ∷ []) (run_shown m left (held_next m h));
          }
