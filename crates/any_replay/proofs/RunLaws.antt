-- The loop over the steps below a number.
use Rattle.std.proofs.Common.{◌≡◌, ℕ, ◌-◌, ◌≤◌, Bool, true, false, not, ◌&&◌, List, [], ◌++◌, refl, sym, ap, ◌∙◌, subst, append-nil}
use Rattle.std.specs.Prelude.{is_some}
use Rattle.run_events.specs.declared.event.Event.{Event}
use Rattle.any_machine.specs.Machine.{Machine}
use Rattle.any_machine.specs.Held.{Held, RunsTo, wait_fault, may_step, run_held, run_shown}
use Rattle.any_machine.proofs.HeldRuns.{runs_done, runs_stay}
use Rattle.any_machine.specs.Running.{RunSoFar}

-- what is left is nothing
pub record RunEnds {S : Type 0} (m : Machine S) (number : ℕ) (first now : Held S) (Seen SeenNow : List Event → Type 0) : Type 0 where
  pub held : now ≡ run_held m (number - first.step) first
  pub shown : (h : List Event) → Seen h → SeenNow (h ++ run_shown m (number - first.step) first)

module _ {S : Type 0} (m : Machine S) (number : ℕ) where
  loop_ends : (first now : Held S) (Seen SeenNow : List Event → Type 0) → RunSoFar m number first now Seen SeenNow → RunsTo m number now now [] → RunEnds m number first now Seen SeenNow
  loop_ends first now Seen SeenNow so_far runs =
      let whole = so_far.goes now [] runs in
      record { held = sym whole.held; shown = λ h was. subst (λ l. SeenNow (h ++ l)) (sym (append-nil so_far.events) ∙ sym whole.shown) (so_far.seen h was) }

  -- all steps are done
  pub loop_done : (first now : Held S) (Seen SeenNow : List Event → Type 0) → RunSoFar m number first now Seen SeenNow → number ≤ now.step → RunEnds m number first now Seen SeenNow
  loop_done first now Seen SeenNow so_far le = loop_ends first now Seen SeenNow so_far (runs_done m number now le)

  -- a power store ended the run
  pub loop_off : (first now : Held S) (Seen SeenNow : List Event → Type 0) → RunSoFar m number first now Seen SeenNow → is_some now.power ≡ true → RunEnds m number first now Seen SeenNow
  loop_off first now Seen SeenNow so_far off = loop_ends first now Seen SeenNow so_far (runs_stay m number now (ap (λ b. not b && not (is_some (wait_fault m now))) off))

  -- the step to come cannot be done
  pub loop_waits : (first now : Held S) (Seen SeenNow : List Event → Type 0) → RunSoFar m number first now Seen SeenNow → not (is_some (wait_fault m now)) ≡ false → RunEnds m number first now Seen SeenNow
  loop_waits first now Seen SeenNow so_far waits = loop_ends first now Seen SeenNow so_far (runs_stay m number now (waits_not (not (is_some now.power)) _ waits))
    where
      waits_not : (a b : Bool) → b ≡ false → (a && b) ≡ false
      waits_not true b is = is
      waits_not false b is = refl

  pub may_by : (now : Held S) → is_some now.power ≡ false → not (is_some (wait_fault m now)) ≡ true → may_step m now ≡ true
  may_by now on ready = ap (λ b. not b && not (is_some (wait_fault m now))) on ∙ ready
