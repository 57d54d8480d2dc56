-- An event that finds no mark changes none, and there is nothing to complain of.
use Rattle.std.proofs.Common.{◌≡◌, ℕ, zero, suc, ◌+◌, ◌/◌, ◌^◌, ◌==◌, Bool, true, false, cond, List, [], ◌∷◌, map, get_or, set, unwrap_or, Option, None, Some, refl, sym, ap, subst, ◌∙◌, arith}
use Rattle.std.specs.Prelude.{IfSome}
use Rattle.std.specs.Int.Bits.{bit_and, bit_or}
use Rattle.std.specs.Option.{option_map}
use Rattle.std.proofs.lemmas.Bool.Decides.{nat_tests}
use Rattle.std.proofs.lemmas.List.{set-get_or}
use Rattle.std.proofs.lemmas.Nat.{and_mask, le_or_l, le_or_r}
use Rattle.run_events.specs.declared.access.Access.{Access}
use Rattle.run_events.specs.declared.access.Access.TheVariants as access
use Rattle.run_events.specs.declared.access.Told.{Told}
use Rattle.run_events.specs.declared.event.Event.TheVariants.{Exec}
use Rattle.run_events.specs.Announcement.{announced_by}
use Rattle.rv_decode.specs.declared.instruction.Instr.{Instr}
use Rattle.rv_decode.specs.declared.instruction.Instr.TheVariants.{Lui, Auipc, Jal, Jalr, Branch, Load, Store, OpImm, Op, Fence, Atomic, Csr, Ecall, Ebreak, Mret, Wfi}
use Rattle.rv_decode.specs.declared.operations.RegOp.{RegOp}
use Rattle.rv_decode.specs.declared.operations.AtomicOp.{AtomicOp}
use Rattle.rv_decode.specs.declared.operations.AtomicOp.TheVariants as amo
use Rattle.rv_decode.specs.declared.operations.CsrOp.{CsrOp}
use Rattle.rv_decode.specs.declared.operations.CsrOp.TheVariants as csr
use Rattle.rv_decode.specs.Fields.{rd_of, rs1_of, rs2_of}
use Rattle.rv_decode.specs.Listing.{Row, meets, read_by, rows, instruction}
use Rattle.analysis_model.specs.Taint.{Register, Scratch, Sources, From, unmarked, register, is_general, is_marked_jump, bytes_from, old_bytes, union_of, mark_of, operands, loaded, with_result, no_writes, writes_result, writes_bytes, atomic_writes, scratch_writes, csr_writes, writes_by, writes_as}
use Rattle.shadow_state.proofs.PaintLaws.{painted-same}
use Rattle.taint_marks.specs.Calm.{AreUnmarked, NoneMarked, IsUnmarked}
use Rattle.taint_marks.specs.Marked.{GivenMarks, marked_by}
use Rattle.taint_marks.specs.Marks.{Marks, mark_now, registers_with, shade_with, with_given, after}

-- the instruction whose registers are those that the fields of the word name
with_fields : ℕ → Instr → Instr
with_fields word (Lui rd imm) = Lui (rd_of word) imm
with_fields word (Auipc rd imm) = Auipc (rd_of word) imm
with_fields word (Jal rd imm) = Jal (rd_of word) imm
with_fields word (Jalr rd rs1 imm) = Jalr (rd_of word) (rs1_of word) imm
with_fields word (Branch op rs1 rs2 imm) = Branch op (rs1_of word) (rs2_of word) imm
with_fields word (Load op rd rs1 imm) = Load op (rd_of word) (rs1_of word) imm
with_fields word (Store op rs1 rs2 imm) = Store op (rs1_of word) (rs2_of word) imm
with_fields word (OpImm op rd rs1 imm) = OpImm op (rd_of word) (rs1_of word) imm
with_fields word (Op op rd rs1 rs2) = Op op (rd_of word) (rs1_of word) (rs2_of word)
with_fields word (Fence op rd rs1 imm) = Fence op (rd_of word) (rs1_of word) imm
with_fields word (Atomic op rd rs1 rs2 order) = Atomic op (rd_of word) (rs1_of word) (rs2_of word) order
with_fields word (Csr op rd source csr) = Csr op (rd_of word) (rs1_of word) csr
with_fields word Ecall = Ecall
with_fields word Ebreak = Ebreak
with_fields word Mret = Mret
with_fields word Wfi = Wfi

-- each row reads one of those
rows_named : (word : ℕ) → map (λ r. with_fields word (r.reads word)) rows ≡ map (λ r. r.reads word) rows
unfolding rows with_fields
rows_named word = refl

first_same : {A : Type 0} {x y : A} {xs ys : List A} → (x ∷ xs) ≡ (y ∷ ys) → x ≡ y
first_same e = cc

rest_same : {A : Type 0} {x y : A} {xs ys : List A} → (x ∷ xs) ≡ (y ∷ ys) → xs ≡ ys
rest_same e = cc

read_named : (rs : List Row) (word : ℕ) → map (λ r. with_fields word (r.reads word)) rs ≡ map (λ r. r.reads word) rs → option_map (with_fields word) (read_by rs word) ≡ read_by rs word
read_named [] word same = refl
read_named (r ∷ rs) word same =
    elim (meets r word) as (λ b. option_map (with_fields word) (cond b (Some (r.reads word)) (read_by rs word)) ≡ cond b (Some (r.reads word)) (read_by rs word)) [
      | true ↦ ap Some (first_same same)
      | false ↦ read_named rs word (rest_same same)
    ]

-- and so does each word
named : (word : ℕ) → option_map (with_fields word) (instruction word) ≡ instruction word
unfolding instruction
named word = read_named rows word (rows_named word)

-- a register, mscratch and bytes that had no mark and get none
module _ (m : Marks) where
  registers_same : (rd : ℕ) → mark_now m (Register rd) ≡ 0 → (b : Bool) → cond b (set m.registers rd 0) m.registers ≡ m.registers
  registers_same rd clear true = ap (set m.registers rd) (sym clear) ∙ set-get_or m.registers rd 0
  registers_same rd clear false = refl

  result_same : (rd : ℕ) (mark : Option ℕ) → IfSome mark (λ v. (v ≡ 0) × (mark_now m (Register rd) ≡ 0)) → registers_with m.registers rd mark ≡ m.registers
  result_same rd None clear = refl
  result_same rd (Some mark) clear = ap (λ v. registers_with m.registers rd (Some v)) clear.0 ∙ registers_same rd clear.1 (is_general rd)

  pub shade_same : (address width : ℕ) (mark : Option ℕ) → IfSome mark (λ v. (v ≡ 0) × NoneMarked m address width) → shade_with m.shade address width mark ≡ m.shade
  shade_same address width None clear = refl
  shade_same address width (Some mark) clear = painted-same m.shade address (address + width) mark (λ a covered. clear.1 a (grind (arith, covered)) (grind (arith, covered)) ∙ sym clear.0)

  -- what is given to places without a mark is none
  record IsNone (given : GivenMarks) : Type 0 where
    pub result : IfSome given.result (λ v. (v ≡ 0) × (mark_now m (Register given.rd) ≡ 0))
    pub scratch : IfSome given.scratch (λ v. (v ≡ 0) × (m.scratch ≡ 0))
    pub stored : IfSome given.stored (λ v. (v ≡ 0) × NoneMarked m given.address given.width)

  scratch_same : (mark : Option ℕ) → IfSome mark (λ v. (v ≡ 0) × (m.scratch ≡ 0)) → unwrap_or mark m.scratch ≡ m.scratch
  scratch_same None none = refl
  scratch_same (Some mark) none = none.0 ∙ sym none.1

  given_same : (given : GivenMarks) → IsNone given → with_given m given ≡ m
  given_same given none =
      let registers = result_same given.rd given.result none.result in
      let scratch = scratch_same given.scratch none.scratch in
      let shade = shade_same given.address given.width given.stored none.stored in
      ap (λ l. record (with_given m given) { registers = l }) registers ∙ ap (λ n. record m { scratch = n; shade = shade_with m.shade given.address given.width given.stored }) scratch ∙ ap (λ s. record m { shade = s }) shade

  pub union_unmarked : (address width : ℕ) → NoneMarked m address width → union_of (mark_now m) (bytes_from address width) ≡ 0
  union_unmarked address zero none = refl
  union_unmarked address (suc width) none =
      ap (λ v. bit_or v (union_of (mark_now m) (bytes_from (address + 1) width))) (none address (omega arith) (omega arith))
      ∙ ap (bit_or 0) (union_unmarked (address + 1) width (λ a low high. none a (omega (arith, low)) (omega (arith, high))))

  old_unmarked : (access : Access) → IsUnmarked m access → union_of (mark_now m) (old_bytes access) ≡ 0
  old_unmarked access.Quiet none = refl
  old_unmarked (access.Load address width value device mark) none = refl
  old_unmarked (access.Store address width value device) none = refl
  old_unmarked (access.Swap address old new) none = union_unmarked address 4 none.bytes

  -- what is loaded, and what is stored
  loaded_none : (rd : ℕ) (access : Access) → mark_now m (Register rd) ≡ 0 → IsUnmarked m access → IsNone (marked_by (mark_now m) (with_result rd (loaded access) no_writes))
  loaded_none rd access.Quiet clear none = record { result = tt; scratch = tt; stored = tt }
  loaded_none rd (access.Load address width value true mark) clear none = absurd (let clash : true ≡ false = none.in_ram in cc)
  loaded_none rd (access.Load address width value false mark) clear none = record { result = (union_unmarked address width none.bytes, clear); scratch = tt; stored = tt }
  loaded_none rd (access.Store address width value device) clear none = record { result = tt; scratch = tt; stored = tt }
  loaded_none rd (access.Swap address old new) clear none = record { result = tt; scratch = tt; stored = tt }

  stored_none : (access : Access) (stored : Sources) → mark_of (mark_now m) stored ≡ 0 → IsUnmarked m access → IsNone (marked_by (mark_now m) (writes_bytes access stored))
  stored_none access.Quiet stored is none = record { result = tt; scratch = tt; stored = tt }
  stored_none (access.Load address width value device mark) stored is none = record { result = tt; scratch = tt; stored = tt }
  stored_none (access.Store address width value true) stored is none = record { result = tt; scratch = tt; stored = tt }
  stored_none (access.Store address width value false) stored is none = record { result = tt; scratch = tt; stored = (is, none.bytes) }
  stored_none (access.Swap address old new) stored is none = record { result = tt; scratch = tt; stored = (is, none.bytes) }

  -- an atomic operation does both
  both_none : (rd : ℕ) (access : Access) (result stored : Sources) → mark_now m (Register rd) ≡ 0 → mark_of (mark_now m) result ≡ 0 → mark_of (mark_now m) stored ≡ 0 → IsUnmarked m access → IsNone (marked_by (mark_now m) (with_result rd (Some result) (writes_bytes access stored)))
  both_none rd access result stored clear given is none = record { result = (given, clear); scratch = (stored_none access stored is none).scratch; stored = (stored_none access stored is none).stored }

  pair_unmarked : (a b : ℕ) → mark_now m (Register a) ≡ 0 → mark_now m (Register b) ≡ 0 → mark_of (mark_now m) (From (Register a ∷ Register b ∷ [])) ≡ 0
  pair_unmarked a b first second = ap (λ v. bit_or v (bit_or (mark_now m (Register b)) 0)) first ∙ ap (λ v. bit_or 0 (bit_or v 0)) second

  one_unmarked : (a : ℕ) → mark_now m (Register a) ≡ 0 → mark_of (mark_now m) (register a) ≡ 0
  one_unmarked a clear = ap (λ v. bit_or v 0) clear

  operands_unmarked : (op : RegOp) (a b : ℕ) → mark_now m (Register a) ≡ 0 → mark_now m (Register b) ≡ 0 → mark_of (mark_now m) (operands op a b) ≡ 0
  operands_unmarked op a b first second = let pair = pair_unmarked a b first second in grind (arith, pair)

  atomic_none : (op : AtomicOp) (rd rs2 : ℕ) (access : Access) → mark_now m (Register rd) ≡ 0 → mark_now m (Register rs2) ≡ 0 → IsUnmarked m access → IsNone (marked_by (mark_now m) (atomic_writes op rd rs2 access))
  atomic_none op rd rs2 access clear second none = by_op op
    where
      old : mark_of (mark_now m) (From (old_bytes access)) ≡ 0
      old = old_unmarked access none

      one : mark_of (mark_now m) (register rs2) ≡ 0
      one = one_unmarked rs2 second

      mixed : mark_of (mark_now m) (From (Register rs2 ∷ old_bytes access)) ≡ 0
      mixed = ap (λ v. bit_or v (union_of (mark_now m) (old_bytes access))) second ∙ ap (bit_or 0) old

      combining : IsNone (marked_by (mark_now m) (with_result rd (Some (From (old_bytes access))) (writes_bytes access (From (Register rs2 ∷ old_bytes access)))))
      combining = both_none rd access (From (old_bytes access)) (From (Register rs2 ∷ old_bytes access)) clear old mixed none

      by_op : (op : AtomicOp) → IsNone (marked_by (mark_now m) (atomic_writes op rd rs2 access))
      by_op amo.Lr = loaded_none rd access clear none
      by_op amo.Sc = both_none rd access unmarked (register rs2) clear refl one none
      by_op amo.Swap = both_none rd access (From (old_bytes access)) (register rs2) clear old one none
      by_op amo.Add = combining
      by_op amo.Xor = combining
      by_op amo.And = combining
      by_op amo.Or = combining
      by_op amo.Min = combining
      by_op amo.Max = combining
      by_op amo.Minu = combining
      by_op amo.Maxu = combining

  -- an access to a CSR
  masked_none : (source : ℕ) → mark_now m (Register source) ≡ 0 → mark_now m Scratch ≡ 0 → (b : Bool) → IfSome (option_map (mark_of (mark_now m)) (cond b None (Some (From (Scratch ∷ Register source ∷ []))))) (λ v. (v ≡ 0) × (m.scratch ≡ 0))
  masked_none source first clear true = tt
  masked_none source first clear false = (ap (λ v. bit_or v (bit_or (mark_now m (Register source)) 0)) clear ∙ ap (λ v. bit_or 0 (bit_or v 0)) first, clear)

  scratch_none : (op : CsrOp) (source : ℕ) → mark_now m (Register source) ≡ 0 → mark_now m Scratch ≡ 0 → IfSome (option_map (mark_of (mark_now m)) (scratch_writes op source)) (λ v. (v ≡ 0) × (m.scratch ≡ 0))
  scratch_none csr.Csrrw source first clear = (one_unmarked source first, clear)
  scratch_none csr.Csrrs source first clear = masked_none source first clear (source == 0)
  scratch_none csr.Csrrc source first clear = masked_none source first clear (source == 0)
  scratch_none csr.Csrrwi source first clear = (refl, clear)
  scratch_none csr.Csrrsi source first clear = tt
  scratch_none csr.Csrrci source first clear = tt

  csr_none : (op : CsrOp) (rd source number : ℕ) → mark_now m (Register rd) ≡ 0 → mark_now m (Register source) ≡ 0 → mark_now m Scratch ≡ 0 → IsNone (marked_by (mark_now m) (csr_writes op rd source number))
  csr_none op rd source number target first clear = by_test (number == 0x340)
    where
      by_test : (b : Bool) → IsNone (marked_by (mark_now m) (cond b (record (writes_result rd (From (Scratch ∷ []))) { scratch = scratch_writes op source }) (writes_result rd unmarked)))
      by_test true = record { result = (ap (λ v. bit_or v 0) clear, target); scratch = scratch_none op source first clear; stored = tt }
      by_test false = record { result = (refl, target); scratch = tt; stored = tt }

  -- each instruction of such registers that makes such an access
  module _ (word : ℕ) (access : Access) (registers : AreUnmarked m word) (none : IsUnmarked m access) where
    result_none : (sources : Sources) → mark_of (mark_now m) sources ≡ 0 → IsNone (marked_by (mark_now m) (writes_result (rd_of word) sources))
    result_none sources is = record { result = (is, registers.rd); scratch = tt; stored = tt }

    nothing : IsNone (marked_by (mark_now m) no_writes)
    nothing = record { result = tt; scratch = tt; stored = tt }

    writes_none : (i : Instr) → IsNone (marked_by (mark_now m) (writes_by (with_fields word i) access))
    unfolding with_fields
    writes_none (Lui rd imm) = result_none unmarked refl
    writes_none (Auipc rd imm) = result_none unmarked refl
    writes_none (Jal rd imm) = result_none unmarked refl
    writes_none (Jalr rd rs1 imm) = result_none unmarked refl
    writes_none (Branch op rs1 rs2 imm) = nothing
    writes_none (Load op rd rs1 imm) = loaded_none (rd_of word) access registers.rd none
    writes_none (Store op rs1 rs2 imm) = stored_none access (register (rs2_of word)) (one_unmarked (rs2_of word) registers.rs2) none
    writes_none (OpImm op rd rs1 imm) = result_none (register (rs1_of word)) (one_unmarked (rs1_of word) registers.rs1)
    writes_none (Op op rd rs1 rs2) = result_none (operands op (rs1_of word) (rs2_of word)) (operands_unmarked op (rs1_of word) (rs2_of word) registers.rs1 registers.rs2)
    writes_none (Fence op rd rs1 imm) = nothing
    writes_none (Atomic op rd rs1 rs2 order) = atomic_none op (rd_of word) (rs2_of word) access registers.rd registers.rs2 none
    writes_none (Csr op rd source number) = csr_none op (rd_of word) (rs1_of word) number registers.rd registers.rs1 registers.scratch
    writes_none Ecall = nothing
    writes_none Ebreak = nothing
    writes_none Mret = nothing
    writes_none Wfi = nothing

    no_jump : (i : Instr) → is_marked_jump (mark_now m) (Some (with_fields word i)) ≡ false
    unfolding with_fields
    no_jump i = let clear = registers.rs1 in grind (arith, clear, nat_tests)

    writes_named : (o : Option Instr) → IsNone (marked_by (mark_now m) (writes_as (option_map (with_fields word) o) access))
    writes_named None = nothing
    writes_named (Some i) = writes_none i

    jump_named : (o : Option Instr) → is_marked_jump (mark_now m) (option_map (with_fields word) o) ≡ false
    jump_named None = refl
    jump_named (Some i) = no_jump i

    -- changes no mark, and is no jump to a marked address
    pub calm_word : (step pc next result : ℕ) (told : Told) → announced_by word told ≡ None → after m (Exec step pc word next result access told) ≡ m
    calm_word step pc next result told quiet =
        let kept = subst (λ o. IsNone (marked_by (mark_now m) (writes_as o access))) (named word) (writes_named (instruction word)) in
        let straight = subst (λ o. is_marked_jump (mark_now m) o ≡ false) (named word) (jump_named (instruction word)) in
        let same = given_same (marked_by (mark_now m) (writes_as (instruction word) access)) kept in
        rw (straight, quiet) same

  -- the marks that the fields name, joined
  pub AreUnmarked_joined : (word rd rs1 rs2 scratch : ℕ) → rd ≡ mark_now m (Register (bit_and (word / 2 ^ 7) 31)) → rs1 ≡ mark_now m (Register (bit_and (word / 2 ^ 15) 31)) → rs2 ≡ mark_now m (Register (bit_and (word / 2 ^ 20) 31)) → scratch ≡ m.scratch
      → (bit_or (bit_or (bit_or rd rs1) rs2) scratch == 0) ≡ true → AreUnmarked m word
  AreUnmarked_joined word rd rs1 rs2 scratch at at1 at2 held none =
      let all : bit_or (bit_or (bit_or rd rs1) rs2) scratch ≡ 0 = grind (arith, none) in
      let three : bit_or (bit_or rd rs1) rs2 ≡ 0 = omega (arith, all, le_or_l (bit_or (bit_or rd rs1) rs2) scratch) in
      let two : bit_or rd rs1 ≡ 0 = omega (arith, three, le_or_l (bit_or rd rs1) rs2) in
      let named = λ (n : ℕ). ap (λ k. get_or m.registers k 0) (sym (and_mask n 5)) in
      record {
        rd = named (word / 2 ^ 7) ∙ sym at ∙ omega (arith, two, le_or_l rd rs1);
        rs1 = named (word / 2 ^ 15) ∙ sym at1 ∙ omega (arith, two, le_or_r rd rs1);
        rs2 = named (word / 2 ^ 20) ∙ sym at2 ∙ omega (arith, three, le_or_r (bit_or rd rs1) rs2);
        scratch = sym held ∙ omega (arith, all, le_or_r (bit_or (bit_or rd rs1) rs2) scratch);
      }
