-- Each step of the hart counts one.
use Rattle.std.proofs.Common.{◌≡◌, ℕ, suc, Option, refl, arith}
use Rattle.any_machine.specs.Machine.{CountsSteps}
use Rattle.run_events.specs.Event.{step_of}
use Rattle.run_events.specs.declared.event.Event.{Event}
use Rattle.run_events.specs.declared.supply.Supplied.{Supplied}
use Rattle.hart_model.proofs.StepCases.{each_step}
use Rattle.hart_model.specs.Effect.{Outcome, Does, Raises}
use Rattle.hart_model.specs.Machine.{hart}
use Rattle.hart_model.specs.State.{State}
use Rattle.hart_model.specs.Step.{cpu, step_by}

-- whatever a step does, it counts one, and its event tells its number
pub record Counts (s : State) (result : Event × State) : Type 0 where
  pub counted : result.1.step ≡ suc s.step
  pub told : step_of result.0 ≡ s.step

by_counts : (s : State) (word : ℕ) (o : Outcome) → Counts s (step_by s word o)
unfolding step_by
by_counts s word (Does e) = record { counted = omega arith; told = refl }
by_counts s word (Raises cause value) = record { counted = omega arith; told = refl }

pub cpu_counts : (s : State) (lines : ℕ) (supplied : Option Supplied) → Counts s (cpu s lines supplied)
cpu_counts s lines supplied =
    each_step (Counts s) s lines supplied (record {
      interrupt = λ cause is. record { counted = omega arith; told = refl };
      outside = λ address is. by_counts s 0 _;
      illegal = λ f found is. by_counts s f.word _;
      instruction = λ f i found is. by_counts s f.word _;
    })

-- the hart as a machine counts its steps
pub hart_counts : CountsSteps hart (λ s. s.step)
unfolding hart
hart_counts =
    record {
      stepped = λ s lines supplied. (cpu_counts s lines supplied).counted;
      touched_not = λ s word. refl;
      step_told = λ s lines supplied. (cpu_counts s lines supplied).told;
      word_told = λ s word. refl;
    }
