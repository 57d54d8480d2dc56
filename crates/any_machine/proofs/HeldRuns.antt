-- The run of what is held, step by step as a loop does it.
use Rattle.std.proofs.Common.{◌≡◌, ℕ, zero, suc, ◌+◌, ◌-◌, ◌<◌, ◌≤◌, Bool, true, false, cond, List, [], ◌∷◌, refl, sym, ap, ◌∙◌, arith}
use Rattle.run_events.specs.declared.event.Event.{Event}
use Rattle.any_machine.specs.Machine.{Machine}
use Rattle.any_machine.specs.Held.{Held, RunsTo, held_event, held_next, may_step, run_held, run_shown}

module _ {S : Type 0} (m : Machine S) where
  -- at most so many steps leave this, and show this
  record RunsLeft (left : ℕ) (h h' : Held S) (events : List Event) : Type 0 where
    held : run_held m left h ≡ h'
    shown : run_shown m left h ≡ events

  none_left : (h : Held S) → RunsLeft 0 h h []
  unfolding run_held run_shown
  none_left h = record { held = refl; shown = refl }

  stays_left : (left : ℕ) (h : Held S) → may_step m h ≡ false → RunsLeft left h h []
  unfolding run_held run_shown
  stays_left zero h may = record { held = refl; shown = refl }
  stays_left (suc left) h may = record { held = ap (λ b. cond b (run_held m left (held_next m h)) h) may; shown = ap (λ b. cond b (held_event m h ∷ run_shown m left (held_next m h)) []) may }

  one_left : (left : ℕ) (h : Held S) → may_step m h ≡ true → RunsLeft (suc left) h (run_held m left (held_next m h)) (held_event m h ∷ run_shown m left (held_next m h))
  unfolding run_held run_shown
  one_left left h may = record { held = ap (λ b. cond b (run_held m left (held_next m h)) h) may; shown = ap (λ b. cond b (held_event m h ∷ run_shown m left (held_next m h)) []) may }

  to : (n left : ℕ) (h h' : Held S) (events : List Event) → n - h.step ≡ left → RunsLeft left h h' events → RunsTo m n h h' events
  to n left h h' events is runs = record { held = ap (λ k. run_held m k h) is ∙ runs.held; shown = ap (λ k. run_shown m k h) is ∙ runs.shown }

  -- all steps are done
  pub runs_done : (n : ℕ) (h : Held S) → n ≤ h.step → RunsTo m n h h []
  runs_done n h le = to n 0 h h [] (omega (arith, le)) (none_left h)

  -- the step to come cannot be done
  pub runs_stay : (n : ℕ) (h : Held S) → may_step m h ≡ false → RunsTo m n h h []
  runs_stay n h may = to n (n - h.step) h h [] refl (stays_left (n - h.step) h may)

  -- it is done, and then the rest
  pub runs_on : (n : ℕ) (h h' : Held S) (events : List Event) → h.step < n → may_step m h ≡ true → RunsTo m n (held_next m h) h' events → RunsTo m n h h' (held_event m h ∷ events)
  runs_on n h h' events lt may rest =
      let left : n - h.step ≡ suc (n - suc h.step) = omega (arith, lt) in
      let first = one_left (n - suc h.step) h may in
      to n (suc (n - suc h.step)) h h' (held_event m h ∷ events) left (record { held = first.held ∙ rest.held; shown = first.shown ∙ ap (λ l. held_event m h ∷ l) rest.shown })

  -- so many steps, and then so many more
  pub held_joins : (before more : ℕ) (h : Held S) → run_held m (before + more) h ≡ run_held m more (run_held m before h)
  held_joins zero more h = ap (λ k. run_held m k h) (none_before more) ∙ ap (run_held m more) (sym (none_left h).held)
    where
      none_before : (n : ℕ) → 0 + n ≡ n
      none_before n = omega arith
  held_joins (suc before) more h = by (may_step m h) refl (held_joins before more (held_next m h))
    where
      one_before : suc before + more ≡ suc (before + more)
      one_before = omega arith

      by : (may : Bool) → may_step m h ≡ may → run_held m (before + more) (held_next m h) ≡ run_held m more (run_held m before (held_next m h)) → run_held m (suc before + more) h ≡ run_held m more (run_held m (suc before) h)
      by true may rest = ap (λ k. run_held m k h) one_before ∙ (one_left (before + more) h may).held ∙ rest ∙ ap (run_held m more) (sym (one_left before h may).held)
      by false may rest = (stays_left (suc before + more) h may).held ∙ sym (stays_left more h may).held ∙ ap (run_held m more) (sym (stays_left (suc before) h may).held)

  -- and with one more at their end
  pub held_more : (steps : ℕ) (h now : Held S) → run_held m steps h ≡ now → may_step m now ≡ true → run_held m (steps + 1) h ≡ held_next m now
  held_more steps h now is may = held_joins steps 1 h ∙ ap (run_held m 1) is ∙ (one_left 0 now may).held ∙ (none_left (held_next m now)).held
