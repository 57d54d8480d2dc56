-- A step that is cut in two is the step.
use Rattle.std.proofs.Common.{◌≡◌, ◌∙◌, ℕ, refl, sym}
use Rattle.std.specs.Prelude.{Some}
use Rattle.run_events.specs.declared.access.Told.{Told}
use Rattle.run_events.specs.declared.event.Event.{Event}
use Rattle.hart_model.specs.Effect.{Outcome, Does, Raises}
use Rattle.hart_model.specs.State.{State, told_by}
use Rattle.hart_model.specs.Step.{step_by}
use Rattle.rv_cpu.specs.Midway.{Midway, midway, closed}

-- the end of an instruction midway is its step
pub closed_midway : (s : State) (word : ℕ) (o : Outcome) → closed (told_by s.registers) word (midway s o) ≡ Some (step_by s word o)
unfolding step_by
closed_midway s word (Does e) = refl
closed_midway s word (Raises cause value) = refl

-- what the end of an instruction gives is its step
pub whole_end : (s : State) (word : ℕ) (o : Outcome) (told : Told) (m : Midway) (x : Event × State) → m ≡ midway s o → told ≡ told_by s.registers → closed told word m ≡ Some x → step_by s word o ≡ x
whole_end s word o told m x done before end =
    let whole : closed told word m ≡ closed (told_by s.registers) word (midway s o) = cc in
    let same : Some x ≡ Some (step_by s word o) = sym end ∙ whole ∙ closed_midway s word o in
    cc
