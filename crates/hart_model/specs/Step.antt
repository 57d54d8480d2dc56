-- The open step: what the hart does at its next step, and what it shows. It knows which addresses are device registers,
-- and nothing else of devices.
use Rattle.std.specs.Prelude.{ℕ, ◌+◌, ◌-◌, ◌%◌, true, false, List, Option, None, Some, if◌then◌else◌}
use Rattle.run_events.specs.declared.access.Access.{Access}
use Rattle.run_events.specs.declared.access.Access.TheVariants.{Quiet, Load, Store, Swap}
use Rattle.run_events.specs.declared.event.Event.{Event}
use Rattle.run_events.specs.declared.event.Event.TheVariants.{Dma, Irq, Trap, Exec}
use Rattle.run_events.specs.declared.supply.DmaWord.{DmaWord}
use Rattle.run_events.specs.declared.supply.Need.{Need}
use Rattle.run_events.specs.declared.supply.Need.TheVariants as need
use Rattle.run_events.specs.declared.supply.Supplied.{Supplied}
use Rattle.rv_csr.specs.Traps.{entered, vector, left, pending, counted}
use Rattle.rv_decode.specs.declared.instruction.Instr.{Instr}
use Rattle.rv_decode.specs.declared.instruction.Instr.TheVariants as instr
use Rattle.rv_memory.specs.Ram.{stored}
use Rattle.hart_model.specs.Effect.{Effect, Outcome, Does, Raises, going_on, writing, jumping, loading, storing, atomic, csr_of, is_reserved}
use Rattle.hart_model.specs.Fetch.{Fetch, Found, Outside, fetched}
use Rattle.hart_model.specs.Operations.{bits, sum, immediate_result, register_result, is_taken}
use Rattle.hart_model.specs.State.{State, register, taken, with_register, told_by}

-- what an instruction does, with the interrupt lines, what a device register supplied, its word and its size.
-- (Unprivileged manual, chapters 2, 3, 7, 8 and 9; Privileged manual, 3.3.)
unfoldable pub outcome : State → (lines : ℕ) → Option Supplied → (word size : ℕ) → Instr → Outcome
outcome s lines supplied word size (instr.Lui rd imm) = Does (writing s size rd (bits imm))
outcome s lines supplied word size (instr.Auipc rd imm) =
    Does (writing s size rd (sum s.pc (bits imm)))
outcome s lines supplied word size (instr.Jal rd imm) = jumping s size rd (sum s.pc (bits imm))
outcome s lines supplied word size (instr.Jalr rd rs1 imm) = let target = sum (register s rs1) (bits imm) in jumping s size rd (target - target % 2)
outcome s lines supplied word size (instr.Branch op rs1 rs2 imm) =
    if is_taken op (register s rs1) (register s rs2) then jumping s size 0 (sum s.pc (bits imm))
    else Does (going_on s size)
outcome s lines supplied word size (instr.Load op rd rs1 imm) =
    loading s supplied size op rd (sum (register s rs1) (bits imm))
outcome s lines supplied word size (instr.Store op rs1 rs2 imm) =
    storing s size op (register s rs2) (sum (register s rs1) (bits imm))
outcome s lines supplied word size (instr.OpImm op rd rs1 imm) =
    Does (writing s size rd (immediate_result op (register s rs1) (bits imm)))
outcome s lines supplied word size (instr.Op op rd rs1 rs2) =
    Does (writing s size rd (register_result op (register s rs1) (register s rs2)))
outcome s lines supplied word size (instr.Fence op rd rs1 imm) = Does (going_on s size)
outcome s lines supplied word size (instr.Atomic op rd rs1 rs2 order) =
    atomic s size op rd (register s rs2) (register s rs1)
outcome s lines supplied word size (instr.Csr op rd source csr) =
    csr_of s lines size op word rd source csr
outcome s lines supplied word size instr.Ecall = Raises 11 0
outcome s lines supplied word size instr.Ebreak = Raises 3 0
outcome s lines supplied word size instr.Mret =
    Does (record (going_on s size) { next = s.csrs.mepc; csrs = left s.csrs })
outcome s lines supplied word size instr.Wfi = Does (going_on s size)

-- the RAM after an access, which says what is stored
abbrev pub ram_after : List ℕ → Access → List ℕ
ram_after ram Quiet = ram
ram_after ram (Load address width value device mark) = ram
ram_after ram (Store address width value true) = ram
ram_after ram (Store address width value false) = stored ram address width value
ram_after ram (Swap address old new) = stored ram address 4 new

-- the event and the state of an instruction that was executed
abbrev pub executed_event : State → ℕ → Effect → Event
executed_event s word e =
    Exec s.step s.pc word e.next (taken e.rd e.value) e.access (told_by s.registers)

abbrev pub executed_state : State → Effect → State
executed_state s e =
    record {
      registers = with_register s.registers e.rd e.value;
      pc = e.next;
      csrs = counted e.csrs true;
      ram = ram_after s.ram e.access;
      reservation = e.reservation;
      step = s.step + 1;
    }

-- the state after a trap of this cause and value. A trap retires no instruction.
abbrev pub trapped_state : State → (cause value : ℕ) → State
trapped_state s cause value = record s {
  pc = vector s.csrs cause;
  csrs = counted (entered s.csrs cause s.pc value) false;
  step = s.step + 1;
}

-- an exception at the instruction of this word; an interrupt in place of the instruction, which has the value 0
abbrev pub trapped : State → (word cause value : ℕ) → Event × State
trapped s word cause value =
    (Trap s.step s.pc word cause value (vector s.csrs cause), trapped_state s cause value)

abbrev pub interrupted : State → (cause : ℕ) → Event × State
interrupted s cause = (Irq s.step s.pc cause (vector s.csrs cause), trapped_state s cause 0)

-- the step of an instruction's outcome
unfoldable pub step_by : State → (word : ℕ) → Outcome → Event × State
step_by s word (Does e) = (executed_event s word e, executed_state s e)
step_by s word (Raises cause value) = trapped s word cause value

-- a word that is no instruction is exception 2, with the word as its value
abbrev pub after_decode : State → (lines : ℕ) → Option Supplied → (word size : ℕ) → Option Instr
    → Event × State
after_decode s lines supplied word size None = step_by s word (Raises 2 word)
after_decode s lines supplied word size (Some i) =
    step_by s word (outcome s lines supplied word size i)

-- a fetch outside RAM is exception 1, with the address as its value
abbrev pub after_fetch : State → (lines : ℕ) → Option Supplied → Fetch → Event × State
after_fetch s lines supplied (Found f) = after_decode s lines supplied f.word f.size f.instr
after_fetch s lines supplied (Outside address) = step_by s 0 (Raises 1 address)

-- an interrupt that is pending comes before all else
abbrev pub unless_interrupted : State → (lines : ℕ) → Option Supplied → Option ℕ → Event × State
unless_interrupted s lines supplied (Some cause) = interrupted s cause
unless_interrupted s lines supplied None = after_fetch s lines supplied (fetched s.ram s.pc)

-- The next step, with the interrupt lines and what a device register supplied: what it shows, and the state after it. In
-- order it is an interrupt, or the fetch's exception, or that of a word that is no instruction, or the instruction's
-- own, or the access's, or the instruction is executed. (Privileged manual, 3.1.9, and 3.1.15, table 3.7.)
unfoldable pub cpu : State → (lines : ℕ) → Option Supplied → Event × State
cpu s lines supplied = unless_interrupted s lines supplied (pending s.csrs lines)

-- what a step has to be given is read off what it shows: the device register that it loads
abbrev pub need_of_access : Access → Need
need_of_access Quiet = need.Nothing
need_of_access (Load address width value true mark) = need.Load address width
need_of_access (Load address width value false mark) = need.Nothing
need_of_access (Store address width value device) = need.Nothing
need_of_access (Swap address old new) = need.Nothing

abbrev pub need_of : Event → Need
need_of (Dma step address word mark) = need.Nothing
need_of (Irq step pc cause next) = need.Nothing
need_of (Trap step pc word cause value next) = need.Nothing
need_of (Exec step pc word next result access told) = need_of_access access

-- what the next step, with these lines, has to be given
abbrev pub needs : State → (lines : ℕ) → Need
needs s lines = need_of (cpu s lines None).0

-- the disk writes a word before the next step, and ends a reservation of it
abbrev pub touch : State → DmaWord → Event × State
touch s word = (
  Dma s.step word.address word.word word.mark,
  record s { ram = stored s.ram word.address 4 word.word; reservation = if is_reserved s.reservation word.address then None else s.reservation },
)
