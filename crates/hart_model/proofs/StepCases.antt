-- The cases of a step: what holds of an interrupt, of each exception before the instruction, and of an instruction's
-- outcome holds of the step.
use Rattle.std.proofs.Common.{◌≡◌, ℕ, Option, None, Some, refl}
use Rattle.run_events.specs.declared.event.Event.{Event}
use Rattle.run_events.specs.declared.supply.Supplied.{Supplied}
use Rattle.hart_model.specs.Effect.{Raises}
use Rattle.hart_model.specs.Fetch.{Fetch, Fetched, Found, Outside, fetched}
use Rattle.hart_model.specs.State.{State}
use Rattle.hart_model.specs.Step.{cpu, step_by, outcome, interrupted, after_decode, after_fetch, unless_interrupted}
use Rattle.rv_csr.specs.Traps.{pending}
use Rattle.rv_decode.specs.declared.instruction.Instr.{Instr}

-- the cases, at a state, lines and what is supplied
pub record Cases (P : Event × State → Type 0) (s : State) (lines : ℕ) (supplied : Option Supplied) : Type 0 where
  pub interrupt : (cause : ℕ) → pending s.csrs lines ≡ Some cause → P (interrupted s cause)
  pub outside : (address : ℕ) → fetched s.ram s.pc ≡ Outside address → P (step_by s 0 (Raises 1 address))
  pub illegal : (f : Fetched) → fetched s.ram s.pc ≡ Found f → f.instr ≡ None → P (step_by s f.word (Raises 2 f.word))
  pub instruction : (f : Fetched) (i : Instr) → fetched s.ram s.pc ≡ Found f → f.instr ≡ Some i → P (step_by s f.word (outcome s lines supplied f.word f.size i))

module _ (P : Event × State → Type 0) (s : State) (lines : ℕ) (supplied : Option Supplied) (cases : Cases P s lines supplied) where
  at_decode : (f : Fetched) (instr : Option Instr) → fetched s.ram s.pc ≡ Found f → f.instr ≡ instr → P (after_decode s lines supplied f.word f.size instr)
  at_decode f None found is = cases.illegal f found is
  at_decode f (Some i) found is = cases.instruction f i found is

  at_fetch : (fetch : Fetch) → fetched s.ram s.pc ≡ fetch → P (after_fetch s lines supplied fetch)
  at_fetch (Found f) is = at_decode f f.instr is refl
  at_fetch (Outside address) is = cases.outside address is

  at_pending : (cause : Option ℕ) → pending s.csrs lines ≡ cause → P (unless_interrupted s lines supplied cause)
  at_pending (Some cause) is = cases.interrupt cause is
  at_pending None is = at_fetch (fetched s.ram s.pc) refl

  pub each_step : P (cpu s lines supplied)
  unfolding cpu
  each_step = at_pending (pending s.csrs lines) refl
