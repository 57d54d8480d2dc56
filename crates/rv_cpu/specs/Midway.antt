-- A step cut in two: first its instruction writes a register, the CSRs, RAM and the reservation, and then the pc moves
-- on, the counters rise and the event is told.
use Rattle.std.specs.Prelude.{ℕ, ◌+◌, true, Option, None, Some, if◌then◌else◌}
use Rattle.run_events.specs.declared.access.Access.{Access}
use Rattle.run_events.specs.declared.access.Told.{Told}
use Rattle.run_events.specs.declared.event.Event.{Event}
use Rattle.run_events.specs.declared.event.Event.TheVariants.{Exec}
use Rattle.run_events.specs.declared.access.Access.TheVariants as access
use Rattle.rv_decode.specs.declared.instruction.Instr.{Instr}
use Rattle.rv_csr.specs.Traps.{counted}
use Rattle.hart_model.specs.Operations.{sum}
use Rattle.hart_model.specs.Effect.{Effect, Outcome, Does, Raises}
use Rattle.hart_model.specs.State.{State, taken, with_register}
use Rattle.hart_model.specs.Step.{ram_after, trapped}
use Rattle.rv_cpu.specs.Plain.{is_plain_instr, is_plain_outcome}
use Rattle.rv_cpu.specs.declared.done.Done.{Done}
use Rattle.rv_cpu.specs.declared.done.Done.TheVariants as done

-- what is left to be told: nothing, since the instruction is left to another call; an exception; or what the instruction
-- wrote to rd, the next pc and the access
pub data Rest : Type 0 where
  Refused : Rest
  Traps : (cause value : ℕ) → Rest
  Goes : (result next : ℕ) → Access → Rest

pub record Midway : Type 0 where
  pub rest : Rest
  pub state : State

-- what the code says of the rest, where this is the address of the instruction after this one
abbrev pub rest_of : ℕ → Done → Rest
rest_of after done.Other = Refused
rest_of after (done.Raised cause value) = Traps cause value
rest_of after (done.Quiet result next) = Goes result next access.Quiet
rest_of after (done.Accessed result access) = Goes result after access

-- the instruction was done, and not left to another call
abbrev pub WasDone : Done → Type 0
WasDone done.Other = ⊥
WasDone (done.Raised cause value) = Unit {0}
WasDone (done.Quiet result next) = Unit {0}
WasDone (done.Accessed result access) = Unit {0}

-- a step so far, in which an instruction of this size left this
abbrev pub at : ℕ → Done → State → Midway
at size done s = record { rest = rest_of (sum s.pc size) done; state = s }

-- the state once an effect wrote what it writes
abbrev pub settled : State → Effect → State
settled s e =
    record s { registers = with_register s.registers e.rd e.value; csrs = e.csrs; ram = ram_after s.ram e.access; reservation = e.reservation }

abbrev pub midway : State → Outcome → Midway
midway s (Does e) = record { rest = Goes (taken e.rd e.value) e.next e.access; state = settled s e }
midway s (Raises cause value) = record { rest = Traps cause value; state = s }

abbrev pub refused : State → Midway
refused s = record { rest = Refused; state = s }

-- a plain outcome, midway; another one is left to another call
abbrev pub plainly : State → Outcome → Midway
plainly s o = if is_plain_outcome o then midway s o else refused s

-- an instruction that comes to this outcome
abbrev pub executed_plainly : State → Instr → Outcome → Midway
executed_plainly s instr o = if is_plain_instr instr then plainly s o else refused s

-- the end of a step whose instruction left this, where x10 to x12 held `told` before it: what the step shows, and the
-- state after it; none where the instruction was left to another call
abbrev pub ended : Told → (word : ℕ) → Rest → State → Option (Event × State)
ended told word Refused s = None
ended told word (Traps cause value) s = Some (trapped s word cause value)
ended told word (Goes result next access) s =
    Some (Exec s.step s.pc word next result access told, record s { pc = next; csrs = counted s.csrs true; step = s.step + 1 })

abbrev pub closed : Told → (word : ℕ) → Midway → Option (Event × State)
closed told word m = ended told word m.rest m.state
