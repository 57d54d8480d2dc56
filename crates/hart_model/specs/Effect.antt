-- What the kinds of instructions do, each on a state and the size of the instruction.
use Rattle.std.specs.Prelude.{ℕ, ◌*◌, ◌%◌, ◌^◌, Bool, true, false, ◌==◌, length, Option, None, Some, if◌then◌else◌}
use Rattle.memory_map.specs.Device.{is_device}
use Rattle.memory_map.specs.Ram.{in_ram}
use Rattle.run_events.specs.declared.access.Access.{Access}
use Rattle.run_events.specs.declared.access.Access.TheVariants as access
use Rattle.run_events.specs.declared.supply.Supplied.{Supplied}
use Rattle.rv_csr.specs.declared.csrs.Csrs.{Csrs}
use Rattle.rv_csr.specs.Table.{read, written}
use Rattle.rv_decode.specs.declared.operations.AtomicOp.{AtomicOp}
use Rattle.rv_decode.specs.declared.operations.AtomicOp.TheVariants as amo
use Rattle.rv_decode.specs.declared.operations.CsrOp.{CsrOp}
use Rattle.rv_decode.specs.declared.operations.LoadOp.{LoadOp}
use Rattle.rv_decode.specs.declared.operations.StoreOp.{StoreOp}
use Rattle.rv_memory.specs.Ram.{loaded}
use Rattle.memory_map.specs.declared.TheConstants.{GRAIN}
use Rattle.hart_model.specs.Operations.{sum, load_width, load_result, store_width, swapped, takes_register, reads_csr, writes_csr, csr_result}
use Rattle.hart_model.specs.State.{State, register}

-- what an instruction that is executed does: the value for rd, which is x0 where it writes no register; the next pc; its
-- data access; and the CSRs and the reservation after it
pub record Effect : Type 0 where
  pub rd : ℕ
  pub value : ℕ
  pub next : ℕ
  pub access : Access
  pub csrs : Csrs
  pub reservation : Option ℕ

-- an instruction is executed, or it raises an exception and does nothing else
pub data Outcome : Type 0 where
  Does : Effect → Outcome
  Raises : (cause value : ℕ) → Outcome

-- it does nothing but go on to the next instruction
abbrev pub going_on : State → ℕ → Effect
going_on s size = record {
  rd = 0;
  value = 0;
  next = sum s.pc size;
  access = access.Quiet;
  csrs = s.csrs;
  reservation = s.reservation;
}

-- it writes a register, and goes on
abbrev pub writing : State → ℕ → (rd value : ℕ) → Effect
writing s size rd value = record (going_on s size) { rd = rd; value = value }

-- it jumps, with the address of the next instruction in rd; a target where no instruction can begin is exception 0.
-- (Unprivileged manual, 2.5.)
abbrev pub jumping : State → ℕ → (rd target : ℕ) → Outcome
jumping s size rd target =
    if target % GRAIN == 0 then Does (record (writing s size rd (sum s.pc size)) { next = target })
    else Raises 0 target

-- the low bytes of a word, extended by zero
abbrev pub low_bytes : (width word : ℕ) → ℕ
low_bytes width word = word % 2 ^ (8 * width)

-- an access is looked at in this order: it is misaligned, it is in RAM, it is elsewhere. (Privileged manual, 3.1.15, table 3.7.)
abbrev pub accessing : State → (address width misaligned : ℕ) → (in_memory elsewhere : Outcome)
    → Outcome
accessing s address width misaligned in_memory elsewhere =
    if address % width == 0
    then (if in_ram (length s.ram) address width then in_memory else elsewhere)
    else Raises misaligned address

-- what was supplied, and its mark; 0 where nothing was
abbrev pub value_of : Option Supplied → ℕ
value_of None = 0
value_of (Some supplied) = supplied.value

abbrev pub mark_of : Option Supplied → ℕ
mark_of None = 0
mark_of (Some supplied) = supplied.mark

-- a load from RAM; a load of a device register, whose whole word was supplied; a load. (Unprivileged manual, 2.6.)
abbrev pub loading_ram : State → ℕ → LoadOp → (rd address : ℕ) → Outcome
loading_ram s size op rd address =
    let value = loaded s.ram address (load_width op)
    in Does (record (writing s size rd (load_result op value)) { access = access.Load address (load_width op) value false 0 })

abbrev pub loading_device : State → Option Supplied → ℕ → LoadOp → (rd address : ℕ) → Outcome
loading_device s supplied size op rd address =
    if is_device address
    then Does (record (writing s size rd (load_result op (value_of supplied))) { access = access.Load address (load_width op) (value_of supplied) true (mark_of supplied) })
    else Raises 5 address

abbrev pub loading : State → Option Supplied → ℕ → LoadOp → (rd address : ℕ) → Outcome
loading s supplied size op rd address =
    accessing s address (load_width op) 4 (loading_ram s size op rd address)
    (loading_device s supplied size op rd address)

-- a store, to RAM or to a device register. (Unprivileged manual, 2.6.)
abbrev pub storing_at : State → ℕ → StoreOp → (value address : ℕ) → Bool → Outcome
storing_at s size op value address device =
    Does (record (going_on s size) { access = access.Store address (store_width op) (low_bytes (store_width op) value) device })

abbrev pub storing : State → ℕ → StoreOp → (value address : ℕ) → Outcome
storing s size op value address =
    accessing s address (store_width op) 6 (storing_at s size op value address false)
    (if is_device address then storing_at s size op value address true else Raises 7 address)

-- the reservation is of the word at this address
abbrev pub is_reserved : Option ℕ → ℕ → Bool
is_reserved None address = false
is_reserved (Some word) address = word == address

-- LR loads a word and reserves it. (Unprivileged manual, 8.2.)
abbrev pub reserving : State → ℕ → (rd address : ℕ) → Outcome
reserving s size rd address =
    let value = loaded s.ram address 4
    in accessing s address 4 4 (Does (record (writing s size rd value) { access = access.Load address 4 value false 0; reservation = Some address })) (Raises 5 address)

-- SC stores a word where it is reserved, and writes 0, else 1; it ends each reservation. (Unprivileged manual, 8.2.)
abbrev pub storing_reserved : State → ℕ → (rd value address : ℕ) → Effect
storing_reserved s size rd value address =
    if is_reserved s.reservation address
    then record (writing s size rd 0) {
      access = access.Store address 4 value false;
      reservation = None;
    }
    else record (writing s size rd 1) { reservation = None }

abbrev pub conditional : State → ℕ → (rd value address : ℕ) → Outcome
conditional s size rd value address =
    accessing s address 4 6 (Does (storing_reserved s size rd value address)) (Raises 7 address)

-- an atomic operation on a word, whose old value goes to rd. (Unprivileged manual, 8.4.)
abbrev pub swapping : State → ℕ → AtomicOp → (rd value address : ℕ) → Outcome
swapping s size op rd value address =
    let old = loaded s.ram address 4
    in accessing s address 4 6 (Does (record (writing s size rd old) { access = access.Swap address old (swapped op old value) })) (Raises 7 address)

-- atomics go to RAM alone
abbrev pub atomic : State → ℕ → AtomicOp → (rd value address : ℕ) → Outcome
atomic s size amo.Lr rd value address = reserving s size rd address
atomic s size amo.Sc rd value address = conditional s size rd value address
atomic s size op rd value address = swapping s size op rd value address

-- what a CSR instruction reads, if its rd is not x0 or it does not swap; a CSR that is not there is illegal.
-- (Unprivileged manual, 9.1.)
abbrev pub csr_read : State → (lines : ℕ) → CsrOp → (rd csr : ℕ) → Option ℕ
csr_read s lines op rd csr = if reads_csr op rd then read s.csrs csr lines else Some 0

-- its operand: a register, or the number in the register's place
abbrev pub csr_operand : State → CsrOp → (source : ℕ) → ℕ
csr_operand s op source = if takes_register op then register s source else source

-- it writes the CSR, if it writes one, and what was read to rd; a CSR that may not be written is illegal
abbrev pub csr_kept : State → ℕ → (word rd old : ℕ) → Option Csrs → Outcome
csr_kept s size word rd old None = Raises 2 word
csr_kept s size word rd old (Some csrs) = Does (record (writing s size rd old) { csrs = csrs })

abbrev pub csr_write : State → ℕ → CsrOp → (word rd source csr : ℕ) → Option ℕ → Outcome
csr_write s size op word rd source csr None = Raises 2 word
csr_write s size op word rd source csr (Some old) =
    csr_kept s size word rd old (if writes_csr op source then written s.csrs csr (csr_result op old (csr_operand s op source)) else Some s.csrs)

abbrev pub csr_of : State → (lines : ℕ) → ℕ → CsrOp → (word rd source csr : ℕ) → Outcome
csr_of s lines size op word rd source csr =
    csr_write s size op word rd source csr (csr_read s lines op rd csr)
