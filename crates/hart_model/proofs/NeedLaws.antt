-- What a step needs is read off its instruction, and does not depend on what it is given.
use Rattle.std.proofs.Common.{◌≡◌, ℕ, ◌%◌, nat_eq, Bool, true, false, length, Option, None, Some, refl, sym, ◌∙◌}
use Rattle.std.specs.Prelude.{if◌then◌else◌}
use Rattle.memory_map.specs.Device.{is_device}
use Rattle.memory_map.specs.Ram.{in_ram}
use Rattle.run_events.specs.declared.access.Access.TheVariants as access
use Rattle.run_events.specs.declared.supply.Need.{Need}
use Rattle.run_events.specs.declared.supply.Need.TheVariants.{Nothing}
use Rattle.run_events.specs.declared.supply.Supplied.{Supplied}
use Rattle.rv_csr.specs.declared.csrs.Csrs.{Csrs}
use Rattle.rv_csr.specs.Traps.{pending}
use Rattle.rv_decode.specs.declared.instruction.Instr.{Instr}
use Rattle.rv_decode.specs.declared.instruction.Instr.TheVariants as instr
use Rattle.rv_decode.specs.declared.operations.AtomicOp.{AtomicOp}
use Rattle.rv_decode.specs.declared.operations.AtomicOp.TheVariants as amo
use Rattle.rv_decode.specs.declared.operations.CsrOp.{CsrOp}
use Rattle.rv_decode.specs.declared.operations.LoadOp.{LoadOp}
use Rattle.rv_decode.specs.declared.operations.StoreOp.{StoreOp}
use Rattle.hart_model.specs.Effect
use Rattle.hart_model.specs.Effect.{Outcome, Does, Raises}
use Rattle.memory_map.specs.declared.TheConstants.{GRAIN}
use Rattle.hart_model.specs.Fetch.{Fetch, Found, Outside, fetched}
use Rattle.hart_model.specs.Needs.{need_at, need_by}
use Rattle.hart_model.specs.Operations.{load_width, store_width, is_taken}
use Rattle.hart_model.specs.State.{State, register}
use Rattle.hart_model.specs.Step.{cpu, step_by, outcome, needs, need_of, need_of_access, after_decode, after_fetch, unless_interrupted}

-- what an outcome needed
abbrev needed : Outcome → Need
needed (Does e) = need_of_access e.access
needed (Raises cause value) = Nothing

-- of a choice
chosen : (test : Bool) (x y : Outcome) (m n : Need) → needed x ≡ m → needed y ≡ n → needed (if test then x else y) ≡ (if test then m else n)
chosen true x y m n first second = first
chosen false x y m n first second = second

-- of a choice whose sides need nothing
none : (test : Bool) (x y : Outcome) → needed x ≡ Nothing → needed y ≡ Nothing → needed (if test then x else y) ≡ Nothing
none true x y first second = first
none false x y first second = second

module _ (s : State) (size : ℕ) where
  accessing_none : (address width misaligned : ℕ) (x y : Outcome) → needed x ≡ Nothing → needed y ≡ Nothing → needed (Effect.accessing s address width misaligned x y) ≡ Nothing
  accessing_none address width misaligned x y first second =
      none (nat_eq (address % width) 0) _ _ (none (in_ram (length s.ram) address width) x y first second) refl

  reserved_none : (rd value address : ℕ) → needed (Does (Effect.storing_reserved s size rd value address)) ≡ Nothing
  reserved_none rd value address = by_reservation (Effect.is_reserved s.reservation address)
    where
      by_reservation : (test : Bool) → needed (Does (if test then record (Effect.writing s size rd 0) { access = access.Store address 4 value false; reservation = None } else record (Effect.writing s size rd 1) { reservation = None })) ≡ Nothing
      by_reservation true = refl
      by_reservation false = refl

  atomic_none : (op : AtomicOp) (rd value address : ℕ) → needed (Effect.atomic s size op rd value address) ≡ Nothing
  atomic_none amo.Lr rd value address = accessing_none address 4 4 _ _ refl refl
  atomic_none amo.Sc rd value address = accessing_none address 4 6 _ _ (reserved_none rd value address) refl
  atomic_none amo.Swap rd value address = accessing_none address 4 6 _ _ refl refl
  atomic_none amo.Add rd value address = accessing_none address 4 6 _ _ refl refl
  atomic_none amo.Xor rd value address = accessing_none address 4 6 _ _ refl refl
  atomic_none amo.And rd value address = accessing_none address 4 6 _ _ refl refl
  atomic_none amo.Or rd value address = accessing_none address 4 6 _ _ refl refl
  atomic_none amo.Min rd value address = accessing_none address 4 6 _ _ refl refl
  atomic_none amo.Max rd value address = accessing_none address 4 6 _ _ refl refl
  atomic_none amo.Minu rd value address = accessing_none address 4 6 _ _ refl refl
  atomic_none amo.Maxu rd value address = accessing_none address 4 6 _ _ refl refl

  jumping_none : (rd target : ℕ) → needed (Effect.jumping s size rd target) ≡ Nothing
  jumping_none rd target = none (nat_eq (target % GRAIN) 0) _ _ refl refl

  storing_none : (op : StoreOp) (value address : ℕ) → needed (Effect.storing s size op value address) ≡ Nothing
  storing_none op value address = accessing_none address (store_width op) 6 _ _ refl (none (is_device address) _ _ refl refl)

  loading_needed : (supplied : Option Supplied) (op : LoadOp) (rd address : ℕ) → needed (Effect.loading s supplied size op rd address) ≡ need_at s address (load_width op)
  loading_needed supplied op rd address =
      chosen (nat_eq (address % load_width op) 0) _ _ _ _
      (chosen (in_ram (length s.ram) address (load_width op)) (Effect.loading_ram s size op rd address) (Effect.loading_device s supplied size op rd address) Nothing _ refl
      (chosen (is_device address) _ _ _ _ refl refl))
      refl

  kept_none : (word rd old : ℕ) (kept : Option Csrs) → needed (Effect.csr_kept s size word rd old kept) ≡ Nothing
  kept_none word rd old None = refl
  kept_none word rd old (Some c) = refl

  csr_none : (op : CsrOp) (word rd source csr : ℕ) (read : Option ℕ) → needed (Effect.csr_write s size op word rd source csr read) ≡ Nothing
  csr_none op word rd source csr None = refl
  csr_none op word rd source csr (Some old) = kept_none word rd old _

  outcome_needed : (lines : ℕ) (supplied : Option Supplied) (word : ℕ) (i : Instr) → needed (outcome s lines supplied word size i) ≡ need_by s i
  unfolding outcome
  outcome_needed lines supplied word (instr.Lui rd imm) = refl
  outcome_needed lines supplied word (instr.Auipc rd imm) = refl
  outcome_needed lines supplied word (instr.Jal rd imm) = jumping_none rd _
  outcome_needed lines supplied word (instr.Jalr rd rs1 imm) = jumping_none rd _
  outcome_needed lines supplied word (instr.Branch op rs1 rs2 imm) = none (is_taken op (register s rs1) (register s rs2)) _ _ (jumping_none 0 _) refl
  outcome_needed lines supplied word (instr.Load op rd rs1 imm) = loading_needed supplied op rd _
  outcome_needed lines supplied word (instr.Store op rs1 rs2 imm) = storing_none op _ _
  outcome_needed lines supplied word (instr.OpImm op rd rs1 imm) = refl
  outcome_needed lines supplied word (instr.Op op rd rs1 rs2) = refl
  outcome_needed lines supplied word (instr.Fence op rd rs1 imm) = refl
  outcome_needed lines supplied word (instr.Atomic op rd rs1 rs2 order) = atomic_none op rd _ _
  outcome_needed lines supplied word (instr.Csr op rd source csr) = csr_none op word rd source csr _
  outcome_needed lines supplied word instr.Ecall = refl
  outcome_needed lines supplied word instr.Ebreak = refl
  outcome_needed lines supplied word instr.Mret = refl
  outcome_needed lines supplied word instr.Wfi = refl

by_needed : (s : State) (word : ℕ) (o : Outcome) → need_of (step_by s word o).0 ≡ needed o
unfolding step_by
by_needed s word (Does e) = refl
by_needed s word (Raises cause value) = refl

-- what the step of an instruction needs
pub need_by_is : (s : State) (lines : ℕ) (supplied : Option Supplied) (word size : ℕ) (i : Instr) → need_of (step_by s word (outcome s lines supplied word size i)).0 ≡ need_by s i
need_by_is s lines supplied word size i = by_needed s word _ ∙ outcome_needed s size lines supplied word i

-- a step that is not the one of an instruction needs nothing
pub raises_needs : (s : State) (word cause value : ℕ) → need_of (step_by s word (Raises cause value)).0 ≡ Nothing
raises_needs s word cause value = by_needed s word (Raises cause value)

module _ (s : State) (lines : ℕ) (supplied other : Option Supplied) where
  decode_same : (word size : ℕ) (i : Option Instr) → need_of (after_decode s lines supplied word size i).0 ≡ need_of (after_decode s lines other word size i).0
  decode_same word size None = refl
  decode_same word size (Some i) = need_by_is s lines supplied word size i ∙ sym (need_by_is s lines other word size i)

  fetch_same : (fetch : Fetch) → need_of (after_fetch s lines supplied fetch).0 ≡ need_of (after_fetch s lines other fetch).0
  fetch_same (Found f) = decode_same f.word f.size f.instr
  fetch_same (Outside address) = refl

  pending_same : (cause : Option ℕ) → need_of (unless_interrupted s lines supplied cause).0 ≡ need_of (unless_interrupted s lines other cause).0
  pending_same (Some cause) = refl
  pending_same None = fetch_same (fetched s.ram s.pc)

  step_same : need_of (cpu s lines supplied).0 ≡ need_of (cpu s lines other).0
  unfolding cpu
  step_same = pending_same (pending s.csrs lines)

-- the event of a step tells what the step needed, whatever it was given
pub needs_told : (s : State) (lines : ℕ) (supplied : Option Supplied) → need_of (cpu s lines supplied).0 ≡ needs s lines
needs_told s lines supplied = step_same s lines supplied None
