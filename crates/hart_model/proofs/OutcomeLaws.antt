-- What each instruction's outcome keeps: instructions begin where they can, and an access of RAM stays inside it.
use Rattle.std.proofs.Common.{◌≡◌, ℕ, ◌%◌, nat_eq, Bool, true, false, length, Option, None, Some, refl, inl, inr, arith}
use Rattle.std.specs.Prelude.{if◌then◌else◌}
use Rattle.memory_map.specs.Ram.{InRam, IsWidth, in_ram}
use Rattle.memory_map.specs.Device.{is_device}
use Rattle.memory_map.proofs.RamLaws.{in_ram-InRam}
use Rattle.run_events.specs.declared.access.Access.{Access}
use Rattle.run_events.specs.declared.access.Access.TheVariants as access
use Rattle.run_events.specs.declared.supply.Supplied.{Supplied}
use Rattle.rv_csr.specs.declared.csrs.Csrs.{Csrs}
use Rattle.rv_csr.specs.Table.{written}
use Rattle.rv_csr.proofs.TableLaws.{written_aligned}
use Rattle.rv_decode.specs.declared.instruction.Instr.{Instr}
use Rattle.rv_decode.specs.declared.instruction.Instr.TheVariants as instr
use Rattle.rv_decode.specs.declared.operations.AtomicOp.{AtomicOp}
use Rattle.rv_decode.specs.declared.operations.AtomicOp.TheVariants as amo
use Rattle.rv_decode.specs.declared.operations.CsrOp.{CsrOp}
use Rattle.rv_decode.specs.declared.operations.LoadOp.{LoadOp}
use Rattle.rv_decode.specs.declared.operations.LoadOp.TheVariants as load
use Rattle.rv_decode.specs.declared.operations.StoreOp.{StoreOp}
use Rattle.rv_decode.specs.declared.operations.StoreOp.TheVariants as store
use Rattle.hart_model.specs.Effect
use Rattle.hart_model.specs.Effect.{Effect, Outcome, Does, Raises}
use Rattle.memory_map.specs.declared.TheConstants.{GRAIN}
use Rattle.hart_model.specs.Aligned.{IsAligned}
use Rattle.hart_model.specs.Operations.{sum, load_width, store_width, csr_result, writes_csr, is_taken}
use Rattle.hart_model.specs.State.{State, register}
use Rattle.hart_model.specs.Step.{outcome}

-- the bytes of an access that goes to RAM stand in a RAM of so many bytes, and any other goes to a device register
pub record IsInside (bytes address width : ℕ) : Type 0 where
  pub whole : IsWidth width
  pub within : InRam bytes address width

abbrev pub AccessInside : ℕ → Access → Type 0
AccessInside bytes access.Quiet = Unit {0}
AccessInside bytes (access.Load address width value true mark) = is_device address ≡ true
AccessInside bytes (access.Load address width value false mark) = IsInside bytes address width
AccessInside bytes (access.Store address width value true) = is_device address ≡ true
AccessInside bytes (access.Store address width value false) = IsInside bytes address width
AccessInside bytes (access.Swap address old new) = IsInside bytes address 4

-- what an effect on a state keeps, where the instruction's size is a multiple of the grain
pub record Keeps (s : State) (size : ℕ) (e : Effect) : Type 0 where
  pub next : IsAligned s → size % GRAIN ≡ 0 → e.next % GRAIN ≡ 0
  pub mepc : IsAligned s → e.csrs.mepc % GRAIN ≡ 0
  pub data_inside : AccessInside (length s.ram) e.access

abbrev pub OutcomeKeeps : State → ℕ → Outcome → Type 0
OutcomeKeeps s size (Does e) = Keeps s size e
OutcomeKeeps s size (Raises cause value) = Unit {0}

-- what both sides of a choice have
choice : (P : Outcome → Type 0) (test : Bool) (x y : Outcome) → (test ≡ true → P x) → (test ≡ false → P y) → P (if test then x else y)
choice P true x y holds fails = holds refl
choice P false x y holds fails = fails refl

-- the next instruction begins a multiple of the grain later
pub next_aligned : (pc size : ℕ) → pc % GRAIN ≡ 0 → size % GRAIN ≡ 0 → sum pc size % GRAIN ≡ 0
next_aligned pc size here whole = omega arith

load_whole : (op : LoadOp) → IsWidth (load_width op)
load_whole load.Lb = inl refl
load_whole load.Lh = inr (inl refl)
load_whole load.Lw = inr (inr refl)
load_whole load.Lbu = inl refl
load_whole load.Lhu = inr (inl refl)

store_whole : (op : StoreOp) → IsWidth (store_width op)
store_whole store.Sb = inl refl
store_whole store.Sh = inr (inl refl)
store_whole store.Sw = inr (inr refl)

module _ (s : State) (size : ℕ) where
  keeps_access : (e : Effect) → e.next ≡ sum s.pc size → e.csrs ≡ s.csrs → AccessInside (length s.ram) e.access → Keeps s size e
  keeps_access e next csrs inside = record { next = λ a whole. grind (arith, a.pc, whole, next); mepc = λ a. grind (arith, csrs, a.mepc); data_inside = inside }

  jumping_keeps : (rd target : ℕ) → OutcomeKeeps s size (Effect.jumping s size rd target)
  jumping_keeps rd target =
      choice (OutcomeKeeps s size) (nat_eq (target % GRAIN) 0) _ _ (λ whole_target. record { next = λ a whole. grind (arith, whole_target); mepc = λ a. a.mepc; data_inside = tt }) (λ other. tt)

  accessing_keeps : (address width misaligned : ℕ) (x y : Outcome) → (InRam (length s.ram) address width → OutcomeKeeps s size x) → OutcomeKeeps s size y → OutcomeKeeps s size (Effect.accessing s address width misaligned x y)
  accessing_keeps address width misaligned x y inside outside =
      choice (OutcomeKeeps s size) (nat_eq (address % width) 0) _ _
      (λ aligned. choice (OutcomeKeeps s size) (in_ram (length s.ram) address width) x y (λ held. inside (in_ram-InRam _ _ _ held)) (λ out. outside))
      (λ misplaced. tt)

  loading_keeps : (supplied : Option Supplied) (op : LoadOp) (rd address : ℕ) → OutcomeKeeps s size (Effect.loading s supplied size op rd address)
  loading_keeps supplied op rd address =
      accessing_keeps address (load_width op) 4 _ _ (λ held. keeps_access _ refl refl (record { whole = load_whole op; within = held }))
      (choice (OutcomeKeeps s size) (is_device address) _ _ (λ device. keeps_access _ refl refl device) (λ other. tt))

  storing_keeps : (op : StoreOp) (value address : ℕ) → OutcomeKeeps s size (Effect.storing s size op value address)
  storing_keeps op value address =
      accessing_keeps address (store_width op) 6 _ _ (λ held. keeps_access _ refl refl (record { whole = store_whole op; within = held }))
      (choice (OutcomeKeeps s size) (is_device address) _ _ (λ device. keeps_access _ refl refl device) (λ other. tt))

  word_inside : (address : ℕ) → InRam (length s.ram) address 4 → IsInside (length s.ram) address 4
  word_inside address held = record { whole = inr (inr refl); within = held }

  reserving_keeps : (rd address : ℕ) → OutcomeKeeps s size (Effect.reserving s size rd address)
  reserving_keeps rd address = accessing_keeps address 4 4 _ _ (λ held. keeps_access _ refl refl (word_inside address held)) tt

  reserved_keeps : (rd value address : ℕ) → InRam (length s.ram) address 4 → Keeps s size (Effect.storing_reserved s size rd value address)
  reserved_keeps rd value address held = by_reservation (Effect.is_reserved s.reservation address)
    where
      by_reservation : (test : Bool) → Keeps s size (if test then record (Effect.writing s size rd 0) { access = access.Store address 4 value false; reservation = None } else record (Effect.writing s size rd 1) { reservation = None })
      by_reservation true = keeps_access _ refl refl (word_inside address held)
      by_reservation false = keeps_access _ refl refl tt

  conditional_keeps : (rd value address : ℕ) → OutcomeKeeps s size (Effect.conditional s size rd value address)
  conditional_keeps rd value address = accessing_keeps address 4 6 _ _ (λ held. reserved_keeps rd value address held) tt

  swapping_keeps : (op : AtomicOp) (rd value address : ℕ) → OutcomeKeeps s size (Effect.swapping s size op rd value address)
  swapping_keeps op rd value address = accessing_keeps address 4 6 _ _ (λ held. keeps_access _ refl refl (word_inside address held)) tt

  atomic_keeps : (op : AtomicOp) (rd value address : ℕ) → OutcomeKeeps s size (Effect.atomic s size op rd value address)
  atomic_keeps amo.Lr rd value address = reserving_keeps rd address
  atomic_keeps amo.Sc rd value address = conditional_keeps rd value address
  atomic_keeps amo.Swap rd value address = swapping_keeps amo.Swap rd value address
  atomic_keeps amo.Add rd value address = swapping_keeps amo.Add rd value address
  atomic_keeps amo.Xor rd value address = swapping_keeps amo.Xor rd value address
  atomic_keeps amo.And rd value address = swapping_keeps amo.And rd value address
  atomic_keeps amo.Or rd value address = swapping_keeps amo.Or rd value address
  atomic_keeps amo.Min rd value address = swapping_keeps amo.Min rd value address
  atomic_keeps amo.Max rd value address = swapping_keeps amo.Max rd value address
  atomic_keeps amo.Minu rd value address = swapping_keeps amo.Minu rd value address
  atomic_keeps amo.Maxu rd value address = swapping_keeps amo.Maxu rd value address

  kept_keeps : (word rd old : ℕ) (kept : Option Csrs) → ((c : Csrs) → kept ≡ Some c → IsAligned s → c.mepc % GRAIN ≡ 0) → OutcomeKeeps s size (Effect.csr_kept s size word rd old kept)
  kept_keeps word rd old None fine = tt
  kept_keeps word rd old (Some c) fine = record { next = λ a whole. next_aligned s.pc size a.pc whole; mepc = fine c refl; data_inside = tt }

  csr_keeps : (op : CsrOp) (word rd source csr : ℕ) (read : Option ℕ) → OutcomeKeeps s size (Effect.csr_write s size op word rd source csr read)
  csr_keeps op word rd source csr None = tt
  csr_keeps op word rd source csr (Some old) =
      by_write (writes_csr op source)
    where
      by_write : (test : Bool) → OutcomeKeeps s size (Effect.csr_kept s size word rd old (if test then written s.csrs csr (csr_result op old (Effect.csr_operand s op source)) else Some s.csrs))
      by_write true =
          kept_keeps word rd old (written s.csrs csr (csr_result op old (Effect.csr_operand s op source)))
          (λ c is a. written_aligned s.csrs c csr (csr_result op old (Effect.csr_operand s op source)) is a.mepc)
      by_write false = kept_keeps word rd old (Some s.csrs) (λ c is a. grind (arith, is, a.mepc))

  pub outcome_keeps : (lines : ℕ) (supplied : Option Supplied) (word : ℕ) (i : Instr) → OutcomeKeeps s size (outcome s lines supplied word size i)
  unfolding outcome
  outcome_keeps lines supplied word (instr.Lui rd imm) = keeps_access _ refl refl tt
  outcome_keeps lines supplied word (instr.Auipc rd imm) = keeps_access _ refl refl tt
  outcome_keeps lines supplied word (instr.Jal rd imm) = jumping_keeps rd _
  outcome_keeps lines supplied word (instr.Jalr rd rs1 imm) = jumping_keeps rd _
  outcome_keeps lines supplied word (instr.Branch op rs1 rs2 imm) =
      choice (OutcomeKeeps s size) (is_taken op (register s rs1) (register s rs2)) _ _ (λ taken. jumping_keeps 0 _) (λ other. keeps_access _ refl refl tt)
  outcome_keeps lines supplied word (instr.Load op rd rs1 imm) = loading_keeps supplied op rd _
  outcome_keeps lines supplied word (instr.Store op rs1 rs2 imm) = storing_keeps op _ _
  outcome_keeps lines supplied word (instr.OpImm op rd rs1 imm) = keeps_access _ refl refl tt
  outcome_keeps lines supplied word (instr.Op op rd rs1 rs2) = keeps_access _ refl refl tt
  outcome_keeps lines supplied word (instr.Fence op rd rs1 imm) = keeps_access _ refl refl tt
  outcome_keeps lines supplied word (instr.Atomic op rd rs1 rs2 order) = atomic_keeps op rd _ _
  outcome_keeps lines supplied word (instr.Csr op rd source csr) = csr_keeps op word rd source csr _
  outcome_keeps lines supplied word instr.Ecall = tt
  outcome_keeps lines supplied word instr.Ebreak = tt
  outcome_keeps lines supplied word instr.Mret = record { next = λ a whole. a.mepc; mepc = λ a. a.mepc; data_inside = tt }
  outcome_keeps lines supplied word instr.Wfi = keeps_access _ refl refl tt
