-- The registers of a hart: there are as many after a step as before it, and x0 stays 0.
use Rattle.std.proofs.Common.{◌≡◌, ℕ, ◌<◌, List, length, get_or, Option, refl, arith}
use Rattle.std.proofs.lemmas.Grind.{common_steps}
use Rattle.run_events.specs.declared.supply.Supplied.{Supplied}
use Rattle.hart_model.proofs.StepCases.{each_step}
use Rattle.hart_model.specs.Effect.{Outcome, Does, Raises}
use Rattle.hart_model.specs.State.{State, with_register}
use Rattle.hart_model.specs.Step.{cpu, step_by}

-- these registers have x0, which is 0
pub record HasZero (registers : List ℕ) : Type 0 where
  pub there : 0 < length registers
  pub zero : get_or registers 0 0 ≡ 0

-- what a step keeps of the registers
pub record RegistersKept (before after : List ℕ) : Type 0 where
  pub counted : length after ≡ length before
  pub zero : HasZero before → HasZero after

length-with_register : (registers : List ℕ) (rd value : ℕ) → length (with_register registers rd value) ≡ length registers
length-with_register registers rd value = grind (arith, common_steps)

zero-with_register : (registers : List ℕ) (rd value : ℕ) → HasZero registers → get_or (with_register registers rd value) 0 0 ≡ 0
zero-with_register registers rd value has = grind (arith, common_steps, has.there, has.zero)

by_kept : (s : State) (word : ℕ) (o : Outcome) → RegistersKept s.registers (step_by s word o).1.registers
unfolding step_by
by_kept s word (Does e) =
    let same = length-with_register s.registers e.rd e.value in
    record { counted = same; zero = λ has. record { there = omega (arith, same, has.there); zero = zero-with_register s.registers e.rd e.value has } }
by_kept s word (Raises cause value) = record { counted = refl; zero = λ has. has }

pub cpu_registers : (s : State) (lines : ℕ) (supplied : Option Supplied) → RegistersKept s.registers (cpu s lines supplied).1.registers
cpu_registers s lines supplied =
    each_step (λ result. RegistersKept s.registers result.1.registers) s lines supplied (record {
      interrupt = λ cause is. record { counted = refl; zero = λ has. has };
      outside = λ address is. by_kept s 0 _;
      illegal = λ f found is. by_kept s f.word _;
      instruction = λ f i found is. by_kept s f.word _;
    })
