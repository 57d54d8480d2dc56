-- A valid instruction is what its word spells.
use Rattle.std.proofs.Common.{◌≡◌, ℕ, ◌+◌, ◌*◌, ◌/◌, ◌%◌, ◌^◌, ◌<◌, ℤ, pos, ◌≤ℤ◌, ◌<ℤ◌, refl, sym, ap, subst, ◌∙◌, arith}
use Rattle.std.specs.Prelude.{Some}
use Rattle.std.proofs.lemmas.Int.{ints}
use Rattle.rv_decode.specs.declared.instruction.Instr.{Instr}
use Rattle.rv_decode.specs.declared.instruction.Instr.TheVariants.{Lui, Auipc, Jal, Jalr, Branch, Load, Store, OpImm, Op, Fence, Atomic, Csr, Ecall, Ebreak, Mret, Wfi}
use Rattle.rv_decode.specs.declared.operations.BranchOp.{BranchOp}
use Rattle.rv_decode.specs.declared.operations.BranchOp.TheVariants.{Beq, Bne, Blt, Bge, Bltu, Bgeu}
use Rattle.rv_decode.specs.declared.operations.LoadOp.{LoadOp}
use Rattle.rv_decode.specs.declared.operations.LoadOp.TheVariants.{Lb, Lh, Lw, Lbu, Lhu}
use Rattle.rv_decode.specs.declared.operations.StoreOp.{StoreOp}
use Rattle.rv_decode.specs.declared.operations.StoreOp.TheVariants.{Sb, Sh, Sw}
use Rattle.rv_decode.specs.declared.operations.ImmOp.{ImmOp}
use Rattle.rv_decode.specs.declared.operations.ImmOp.TheVariants.{Addi, Slti, Sltiu, Xori, Ori, Andi, Slli, Srli, Srai}
use Rattle.rv_decode.specs.declared.operations.RegOp.{RegOp}
use Rattle.rv_decode.specs.declared.operations.RegOp.TheVariants.{Add, Sll, Slt, Sltu, Xor, Srl, Or, And, Sub, Sra, Mul, Mulh, Mulhsu, Mulhu, Div, Divu, Rem, Remu}
use Rattle.rv_decode.specs.declared.operations.FenceOp.{FenceOp}
use Rattle.rv_decode.specs.declared.operations.FenceOp.TheVariants as ordering
use Rattle.rv_decode.specs.declared.operations.AtomicOp.{AtomicOp}
use Rattle.rv_decode.specs.declared.operations.AtomicOp.TheVariants as amo
use Rattle.rv_decode.specs.declared.operations.CsrOp.{CsrOp}
use Rattle.rv_decode.specs.declared.operations.CsrOp.TheVariants.{Csrrw, Csrrs, Csrrc, Csrrwi, Csrrsi, Csrrci}
use Rattle.rv_decode.specs.Fields.{opcode_of, rd_of, funct3_of, rs2_of, funct7_of, funct5_of, order_of, funct12_of, signed}
use Rattle.rv_decode.specs.Listing.{rows, instruction, lui, auipc, jal, jalr, branch, load, store, immediate, shift, register, fence, atomic, csr}
use Rattle.rv_decode.specs.Valid.{IsSigned, IsMultiple, IsSecond, IsValid}
use Rattle.rv_decode.specs.Words.{branch_code, load_code, store_code, immediate_code, register_code, register_code7, fence_code, atomic_code, csr_code, bits_of, places_i, places_u, places_j, low_s, high_s, low_b, high_b, immediate_extra, encoded}
use Rattle.rv_decode.proofs.FieldLaws.{fields_of_joined, fields_of_joined_i, fields_of_joined_u, signed_bits_12, signed_bits_13, signed_bits_21, signed_bits_32}
use Rattle.rv_decode.proofs.ListingLaws.{lui_words, auipc_words, jal_words, jalr_words, branch_words, load_words, store_words, immediate_words, register_words, fence_words, atomic_words, system_words}

-- the operations on an immediate that take twelve bits, and those that take five
abbrev IsPlain : ImmOp → Type 0
IsPlain Slli = ⊥
IsPlain Srli = ⊥
IsPlain Srai = ⊥
IsPlain _ = Unit {0}

abbrev IsShift : ImmOp → Type 0
IsShift Slli = Unit {0}
IsShift Srli = Unit {0}
IsShift Srai = Unit {0}
IsShift _ = ⊥

-- a word with an operation's codes meets the operation's row
spells_branch : (op : BranchOp) (word : ℕ) → opcode_of word ≡ 0x63 → funct3_of word ≡ branch_code op → instruction word ≡ Some (branch op word)
spells_branch Beq word o f = branch_words word o ∙ simp (o, f) refl
spells_branch Bne word o f = branch_words word o ∙ simp (o, f) refl
spells_branch Blt word o f = branch_words word o ∙ simp (o, f) refl
spells_branch Bge word o f = branch_words word o ∙ simp (o, f) refl
spells_branch Bltu word o f = branch_words word o ∙ simp (o, f) refl
spells_branch Bgeu word o f = branch_words word o ∙ simp (o, f) refl

spells_load : (op : LoadOp) (word : ℕ) → opcode_of word ≡ 0x03 → funct3_of word ≡ load_code op → instruction word ≡ Some (load op word)
spells_load Lb word o f = load_words word o ∙ simp (o, f) refl
spells_load Lh word o f = load_words word o ∙ simp (o, f) refl
spells_load Lw word o f = load_words word o ∙ simp (o, f) refl
spells_load Lbu word o f = load_words word o ∙ simp (o, f) refl
spells_load Lhu word o f = load_words word o ∙ simp (o, f) refl

spells_store : (op : StoreOp) (word : ℕ) → opcode_of word ≡ 0x23 → funct3_of word ≡ store_code op → instruction word ≡ Some (store op word)
spells_store Sb word o f = store_words word o ∙ simp (o, f) refl
spells_store Sh word o f = store_words word o ∙ simp (o, f) refl
spells_store Sw word o f = store_words word o ∙ simp (o, f) refl

spells_register : (op : RegOp) (word : ℕ) → opcode_of word ≡ 0x33 → funct3_of word ≡ register_code op → funct7_of word ≡ register_code7 op → instruction word ≡ Some (register op word)
spells_register Add word o f g = register_words word o ∙ simp (o, f, g) refl
spells_register Sub word o f g = register_words word o ∙ simp (o, f, g) refl
spells_register Sll word o f g = register_words word o ∙ simp (o, f, g) refl
spells_register Slt word o f g = register_words word o ∙ simp (o, f, g) refl
spells_register Sltu word o f g = register_words word o ∙ simp (o, f, g) refl
spells_register Xor word o f g = register_words word o ∙ simp (o, f, g) refl
spells_register Srl word o f g = register_words word o ∙ simp (o, f, g) refl
spells_register Sra word o f g = register_words word o ∙ simp (o, f, g) refl
spells_register Or word o f g = register_words word o ∙ simp (o, f, g) refl
spells_register And word o f g = register_words word o ∙ simp (o, f, g) refl
spells_register Mul word o f g = register_words word o ∙ simp (o, f, g) refl
spells_register Mulh word o f g = register_words word o ∙ simp (o, f, g) refl
spells_register Mulhsu word o f g = register_words word o ∙ simp (o, f, g) refl
spells_register Mulhu word o f g = register_words word o ∙ simp (o, f, g) refl
spells_register Div word o f g = register_words word o ∙ simp (o, f, g) refl
spells_register Divu word o f g = register_words word o ∙ simp (o, f, g) refl
spells_register Rem word o f g = register_words word o ∙ simp (o, f, g) refl
spells_register Remu word o f g = register_words word o ∙ simp (o, f, g) refl

spells_fence : (op : FenceOp) (word : ℕ) → opcode_of word ≡ 0x0f → funct3_of word ≡ fence_code op → instruction word ≡ Some (fence op word)
spells_fence ordering.Fence word o f = fence_words word o ∙ simp (o, f) refl
spells_fence ordering.FenceI word o f = fence_words word o ∙ simp (o, f) refl

spells_csr : (op : CsrOp) (word : ℕ) → opcode_of word ≡ 0x73 → funct3_of word ≡ csr_code op → instruction word ≡ Some (csr op word)
spells_csr Csrrw word o f = system_words word o ∙ simp (o, f) refl
spells_csr Csrrs word o f = system_words word o ∙ simp (o, f) refl
spells_csr Csrrc word o f = system_words word o ∙ simp (o, f) refl
spells_csr Csrrwi word o f = system_words word o ∙ simp (o, f) refl
spells_csr Csrrsi word o f = system_words word o ∙ simp (o, f) refl
spells_csr Csrrci word o f = system_words word o ∙ simp (o, f) refl

-- an operation on an immediate whose immediate has twelve bits, and one of the shifts
spells_immediate : (op : ImmOp) (word : ℕ) → opcode_of word ≡ 0x13 → funct3_of word ≡ immediate_code op → IsPlain op → instruction word ≡ Some (immediate op word)
spells_immediate Addi word o f plain = immediate_words word o ∙ simp (o, f) refl
spells_immediate Slti word o f plain = immediate_words word o ∙ simp (o, f) refl
spells_immediate Sltiu word o f plain = immediate_words word o ∙ simp (o, f) refl
spells_immediate Xori word o f plain = immediate_words word o ∙ simp (o, f) refl
spells_immediate Ori word o f plain = immediate_words word o ∙ simp (o, f) refl
spells_immediate Andi word o f plain = immediate_words word o ∙ simp (o, f) refl
spells_immediate Slli word o f plain = absurd plain
spells_immediate Srli word o f plain = absurd plain
spells_immediate Srai word o f plain = absurd plain

spells_shift : (op : ImmOp) (word : ℕ) → opcode_of word ≡ 0x13 → funct3_of word ≡ immediate_code op → funct7_of word ≡ immediate_extra op / 2 ^ 5 → IsShift op → instruction word ≡ Some (shift op word)
spells_shift Addi word o f g shifts = absurd shifts
spells_shift Slti word o f g shifts = absurd shifts
spells_shift Sltiu word o f g shifts = absurd shifts
spells_shift Xori word o f g shifts = absurd shifts
spells_shift Ori word o f g shifts = absurd shifts
spells_shift Andi word o f g shifts = absurd shifts
spells_shift Slli word o f g shifts = immediate_words word o ∙ simp (o, f, g) refl
spells_shift Srli word o f g shifts = immediate_words word o ∙ simp (o, f, g) refl
spells_shift Srai word o f g shifts = immediate_words word o ∙ simp (o, f, g) refl

spells_atomic : (op : AtomicOp) (word : ℕ) → opcode_of word ≡ 0x2f → funct3_of word ≡ 2 → funct5_of word ≡ atomic_code op → IsSecond op (rs2_of word) → instruction word ≡ Some (atomic op word)
spells_atomic amo.Add word o f g second = atomic_words word o ∙ simp (o, f, g) refl
spells_atomic amo.Swap word o f g second = atomic_words word o ∙ simp (o, f, g) refl
spells_atomic amo.Lr word o f g second = atomic_words word o ∙ simp (o, f, g, second) refl
spells_atomic amo.Sc word o f g second = atomic_words word o ∙ simp (o, f, g) refl
spells_atomic amo.Xor word o f g second = atomic_words word o ∙ simp (o, f, g) refl
spells_atomic amo.Or word o f g second = atomic_words word o ∙ simp (o, f, g) refl
spells_atomic amo.And word o f g second = atomic_words word o ∙ simp (o, f, g) refl
spells_atomic amo.Min word o f g second = atomic_words word o ∙ simp (o, f, g) refl
spells_atomic amo.Max word o f g second = atomic_words word o ∙ simp (o, f, g) refl
spells_atomic amo.Minu word o f g second = atomic_words word o ∙ simp (o, f, g) refl
spells_atomic amo.Maxu word o f g second = atomic_words word o ∙ simp (o, f, g) refl

spells_lui : (word : ℕ) → opcode_of word ≡ 0x37 → instruction word ≡ Some (lui word)
spells_lui word o = lui_words word o ∙ simp o refl

spells_auipc : (word : ℕ) → opcode_of word ≡ 0x17 → instruction word ≡ Some (auipc word)
spells_auipc word o = auipc_words word o ∙ simp o refl

spells_jal : (word : ℕ) → opcode_of word ≡ 0x6f → instruction word ≡ Some (jal word)
spells_jal word o = jal_words word o ∙ simp o refl

spells_jalr : (word : ℕ) → opcode_of word ≡ 0x67 → funct3_of word ≡ 0 → instruction word ≡ Some (jalr word)
spells_jalr word o f = jalr_words word o ∙ simp (o, f) refl

spells_ecall : instruction 0x00000073 ≡ Some Ecall
unfolding instruction rows
spells_ecall = refl

spells_ebreak : instruction 0x00100073 ≡ Some Ebreak
unfolding instruction rows
spells_ebreak = refl

spells_mret : instruction 0x30200073 ≡ Some Mret
unfolding instruction rows
spells_mret = refl

spells_wfi : instruction 0x10500073 ≡ Some Wfi
unfolding instruction rows
spells_wfi = refl

-- the immediates that a word's fields give, where those hold the parts of a number
argument_s : (word bits : ℕ) → rd_of word ≡ low_s bits → funct7_of word ≡ high_s bits → word / 2 ^ 25 * 2 ^ 5 + word / 2 ^ 7 % 2 ^ 5 ≡ bits % 2 ^ 12
argument_s word bits r f = omega (arith, r, f)

argument_b : (word bits : ℕ) → bits % 2 ≡ 0 → rd_of word ≡ low_b bits → funct7_of word ≡ high_b bits → word / 2 ^ 31 * 2 ^ 12 + word / 2 ^ 7 % 2 * 2 ^ 11 + word / 2 ^ 25 % 2 ^ 6 * 2 ^ 5 + word / 2 ^ 8 % 2 ^ 4 * 2 ≡ bits % 2 ^ 13
argument_b word bits even r f = omega (arith, even, r, f)

argument_j : (word bits : ℕ) → bits % 2 ≡ 0 → word / 2 ^ 12 ≡ places_j bits → word / 2 ^ 31 * 2 ^ 20 + word / 2 ^ 12 % 2 ^ 8 * 2 ^ 12 + word / 2 ^ 20 % 2 * 2 ^ 11 + word / 2 ^ 21 % 2 ^ 10 * 2 ≡ bits % 2 ^ 21
argument_j word bits even u = omega (arith, even, u)

-- a multiple has its low bits clear
even_bits : (z : ℤ) → IsSigned 32 z → IsMultiple 2 z → bits_of z % 2 ≡ 0
even_bits z fits even = grind (arith, ints, fits.0, fits.1, even)

clear_bits : (z : ℤ) → IsSigned 32 z → IsMultiple (2 ^ 12) z → bits_of z % 2 ^ 12 ≡ 0
clear_bits z fits even = grind (arith, ints, fits.0, fits.1, even)

-- the codes fit their fields
branch_fits : (op : BranchOp) → branch_code op < 2 ^ 3
branch_fits Beq = omega arith
branch_fits Bne = omega arith
branch_fits Blt = omega arith
branch_fits Bge = omega arith
branch_fits Bltu = omega arith
branch_fits Bgeu = omega arith

load_fits : (op : LoadOp) → load_code op < 2 ^ 3
load_fits Lb = omega arith
load_fits Lh = omega arith
load_fits Lw = omega arith
load_fits Lbu = omega arith
load_fits Lhu = omega arith

store_fits : (op : StoreOp) → store_code op < 2 ^ 3
store_fits Sb = omega arith
store_fits Sh = omega arith
store_fits Sw = omega arith

immediate_fits : (op : ImmOp) → immediate_code op < 2 ^ 3
immediate_fits Addi = omega arith
immediate_fits Slti = omega arith
immediate_fits Sltiu = omega arith
immediate_fits Xori = omega arith
immediate_fits Ori = omega arith
immediate_fits Andi = omega arith
immediate_fits Slli = omega arith
immediate_fits Srli = omega arith
immediate_fits Srai = omega arith

register_fits : (op : RegOp) → register_code op < 2 ^ 3
register_fits Add = omega arith
register_fits Sub = omega arith
register_fits Sll = omega arith
register_fits Slt = omega arith
register_fits Sltu = omega arith
register_fits Xor = omega arith
register_fits Srl = omega arith
register_fits Sra = omega arith
register_fits Or = omega arith
register_fits And = omega arith
register_fits Mul = omega arith
register_fits Mulh = omega arith
register_fits Mulhsu = omega arith
register_fits Mulhu = omega arith
register_fits Div = omega arith
register_fits Divu = omega arith
register_fits Rem = omega arith
register_fits Remu = omega arith

fence_fits : (op : FenceOp) → fence_code op < 2 ^ 3
fence_fits ordering.Fence = omega arith
fence_fits ordering.FenceI = omega arith

csr_fits : (op : CsrOp) → csr_code op < 2 ^ 3
csr_fits Csrrw = omega arith
csr_fits Csrrs = omega arith
csr_fits Csrrc = omega arith
csr_fits Csrrwi = omega arith
csr_fits Csrrsi = omega arith
csr_fits Csrrci = omega arith

same2 : {A B C : Type 0} (f : A → B → C) {a c : A} {b d : B} → a ≡ c → b ≡ d → f a b ≡ f c d
same2 f p q = cc

same3 : {A B C D : Type 0} (f : A → B → C → D) {a d : A} {b e : B} {c g : C} → a ≡ d → b ≡ e → c ≡ g → f a b c ≡ f d e g
same3 f p q r = cc

same4 : {A B C D E : Type 0} (f : A → B → C → D → E) {a a' : A} {b b' : B} {c c' : C} {d d' : D} → a ≡ a' → b ≡ b' → c ≡ c' → d ≡ d' → f a b c d ≡ f a' b' c' d'
same4 f p q r s = cc

encoded_lui : (rd : ℕ) (imm : ℤ) → IsValid (Lui rd imm) → instruction (encoded (Lui rd imm)) ≡ Some (Lui rd imm)
unfolding encoded
encoded_lui rd imm v =
    let bits = bits_of imm in
    let word = encoded (Lui rd imm) in
    let f = fields_of_joined_u 0x37 rd (places_u bits) (omega arith) v.0 in
    let n : word / 2 ^ 12 * 2 ^ 12 ≡ bits = omega (arith, f.upper_is, clear_bits imm v.1 v.2) in
    spells_lui word f.opcode_is ∙ same2 (λ r z. Some (Lui r z)) f.rd_is (ap (signed 32) n ∙ signed_bits_32 imm v.1)

encoded_auipc : (rd : ℕ) (imm : ℤ) → IsValid (Auipc rd imm) → instruction (encoded (Auipc rd imm)) ≡ Some (Auipc rd imm)
unfolding encoded
encoded_auipc rd imm v =
    let bits = bits_of imm in
    let word = encoded (Auipc rd imm) in
    let f = fields_of_joined_u 0x17 rd (places_u bits) (omega arith) v.0 in
    let n : word / 2 ^ 12 * 2 ^ 12 ≡ bits = omega (arith, f.upper_is, clear_bits imm v.1 v.2) in
    spells_auipc word f.opcode_is ∙ same2 (λ r z. Some (Auipc r z)) f.rd_is (ap (signed 32) n ∙ signed_bits_32 imm v.1)

-- a number of fewer bits is one of 32
wide_13 : (z : ℤ) → IsSigned 13 z → IsSigned 32 z
wide_13 z fits = (omega (arith, ints, fits.0), omega (arith, ints, fits.1))

wide_21 : (z : ℤ) → IsSigned 21 z → IsSigned 32 z
wide_21 z fits = (omega (arith, ints, fits.0), omega (arith, ints, fits.1))

encoded_jal : (rd : ℕ) (imm : ℤ) → IsValid (Jal rd imm) → instruction (encoded (Jal rd imm)) ≡ Some (Jal rd imm)
unfolding encoded
encoded_jal rd imm v =
    let bits = bits_of imm in
    let word = encoded (Jal rd imm) in
    let f = fields_of_joined_u 0x6f rd (places_j bits) (omega arith) v.0 in
    let n = argument_j word bits (even_bits imm (wide_21 imm v.1) v.2) f.upper_is in
    spells_jal word f.opcode_is ∙ same2 (λ r z. Some (Jal r z)) f.rd_is (ap (signed 21) n ∙ signed_bits_21 imm v.1)

encoded_jalr : (rd rs1 : ℕ) (imm : ℤ) → IsValid (Jalr rd rs1 imm) → instruction (encoded (Jalr rd rs1 imm)) ≡ Some (Jalr rd rs1 imm)
unfolding encoded
encoded_jalr rd rs1 imm v =
    let word = encoded (Jalr rd rs1 imm) in
    let f = fields_of_joined_i 0x67 rd 0 rs1 (places_i (bits_of imm)) (omega arith) v.0 (omega arith) v.1 in
    spells_jalr word f.opcode_is f.funct3_is ∙ same3 (λ a b z. Some (Jalr a b z)) f.rd_is f.rs1_is (ap (signed 12) f.funct12_is ∙ signed_bits_12 imm v.2)

encoded_branch : (op : BranchOp) (rs1 rs2 : ℕ) (imm : ℤ) → IsValid (Branch op rs1 rs2 imm) → instruction (encoded (Branch op rs1 rs2 imm)) ≡ Some (Branch op rs1 rs2 imm)
unfolding encoded
encoded_branch op rs1 rs2 imm v =
    let bits = bits_of imm in
    let word = encoded (Branch op rs1 rs2 imm) in
    let f = fields_of_joined 0x63 (low_b bits) (branch_code op) rs1 rs2 (high_b bits) (omega arith) (omega arith) (branch_fits op) v.0 v.1 in
    let n = argument_b word bits (even_bits imm (wide_13 imm v.2) v.3) f.rd_is f.funct7_is in
    spells_branch op word f.opcode_is f.funct3_is ∙ same3 (λ a b z. Some (Branch op a b z)) f.rs1_is f.rs2_is (ap (signed 13) n ∙ signed_bits_13 imm v.2)

encoded_store : (op : StoreOp) (rs1 rs2 : ℕ) (imm : ℤ) → IsValid (Store op rs1 rs2 imm) → instruction (encoded (Store op rs1 rs2 imm)) ≡ Some (Store op rs1 rs2 imm)
unfolding encoded
encoded_store op rs1 rs2 imm v =
    let bits = bits_of imm in
    let word = encoded (Store op rs1 rs2 imm) in
    let f = fields_of_joined 0x23 (low_s bits) (store_code op) rs1 rs2 (high_s bits) (omega arith) (omega arith) (store_fits op) v.0 v.1 in
    let n = argument_s word bits f.rd_is f.funct7_is in
    spells_store op word f.opcode_is f.funct3_is ∙ same3 (λ a b z. Some (Store op a b z)) f.rs1_is f.rs2_is (ap (signed 12) n ∙ signed_bits_12 imm v.2)

encoded_load : (op : LoadOp) (rd rs1 : ℕ) (imm : ℤ) → IsValid (Load op rd rs1 imm) → instruction (encoded (Load op rd rs1 imm)) ≡ Some (Load op rd rs1 imm)
unfolding encoded
encoded_load op rd rs1 imm v =
    let word = encoded (Load op rd rs1 imm) in
    let f = fields_of_joined_i 0x03 rd (load_code op) rs1 (places_i (bits_of imm)) (omega arith) v.0 (load_fits op) v.1 in
    spells_load op word f.opcode_is f.funct3_is ∙ same3 (λ a b z. Some (Load op a b z)) f.rd_is f.rs1_is (ap (signed 12) f.funct12_is ∙ signed_bits_12 imm v.2)

encoded_fence : (op : FenceOp) (rd rs1 : ℕ) (imm : ℤ) → IsValid (Fence op rd rs1 imm) → instruction (encoded (Fence op rd rs1 imm)) ≡ Some (Fence op rd rs1 imm)
unfolding encoded
encoded_fence op rd rs1 imm v =
    let word = encoded (Fence op rd rs1 imm) in
    let f = fields_of_joined_i 0x0f rd (fence_code op) rs1 (places_i (bits_of imm)) (omega arith) v.0 (fence_fits op) v.1 in
    spells_fence op word f.opcode_is f.funct3_is ∙ same3 (λ a b z. Some (Fence op a b z)) f.rd_is f.rs1_is (ap (signed 12) f.funct12_is ∙ signed_bits_12 imm v.2)

encoded_plain : (op : ImmOp) (rd rs1 : ℕ) (imm : ℤ) → IsPlain op → immediate_extra op ≡ 0 → rd < 2 ^ 5 → rs1 < 2 ^ 5 → IsSigned 12 imm → instruction (encoded (OpImm op rd rs1 imm)) ≡ Some (OpImm op rd rs1 imm)
unfolding encoded
encoded_plain op rd rs1 imm plain extra a b fits =
    let word = encoded (OpImm op rd rs1 imm) in
    let f = fields_of_joined_i 0x13 rd (immediate_code op) rs1 (places_i (bits_of imm) + immediate_extra op) (omega arith) a (immediate_fits op) b in
    let n : funct12_of word ≡ places_i (bits_of imm) = omega (arith, f.funct12_is, extra) in
    spells_immediate op word f.opcode_is f.funct3_is plain ∙ same3 (λ a b z. Some (OpImm op a b z)) f.rd_is f.rs1_is (ap (signed 12) n ∙ signed_bits_12 imm fits)

-- a shift's five bits
shift_bits : (z : ℤ) (rs2 : ℕ) → pos 0 ≤ℤ z → z <ℤ pos (2 ^ 5) → rs2 ≡ bits_of z → pos rs2 ≡ z
shift_bits z rs2 least most e = grind (arith, ints, least, most, e)

small_bits : (z : ℤ) → pos 0 ≤ℤ z → z <ℤ pos (2 ^ 5) → bits_of z < 2 ^ 5
small_bits z least most = grind (arith, ints, least, most)

encoded_shift : (op : ImmOp) (rd rs1 : ℕ) (imm : ℤ) → IsShift op → immediate_extra op % 2 ^ 5 ≡ 0 → rd < 2 ^ 5 → rs1 < 2 ^ 5 → pos 0 ≤ℤ imm → imm <ℤ pos (2 ^ 5) → instruction (encoded (OpImm op rd rs1 imm)) ≡ Some (OpImm op rd rs1 imm)
unfolding encoded
encoded_shift op rd rs1 imm shifts extra a b least most =
    let bits = bits_of imm in
    let word = encoded (OpImm op rd rs1 imm) in
    let f = fields_of_joined_i 0x13 rd (immediate_code op) rs1 (places_i bits + immediate_extra op) (omega arith) a (immediate_fits op) b in
    let small = small_bits imm least most in
    let g : funct7_of word ≡ immediate_extra op / 2 ^ 5 = omega (arith, f.funct12_is, small, extra) in
    let n : rs2_of word ≡ bits = omega (arith, f.funct12_is, small, extra) in
    spells_shift op word f.opcode_is f.funct3_is g shifts ∙ same3 (λ a b z. Some (OpImm op a b z)) f.rd_is f.rs1_is (shift_bits imm (rs2_of word) least most n)

encoded_immediate : (op : ImmOp) (rd rs1 : ℕ) (imm : ℤ) → IsValid (OpImm op rd rs1 imm) → instruction (encoded (OpImm op rd rs1 imm)) ≡ Some (OpImm op rd rs1 imm)
unfolding encoded
encoded_immediate Addi rd rs1 imm v = encoded_plain Addi rd rs1 imm tt refl v.0 v.1 v.2
encoded_immediate Slti rd rs1 imm v = encoded_plain Slti rd rs1 imm tt refl v.0 v.1 v.2
encoded_immediate Sltiu rd rs1 imm v = encoded_plain Sltiu rd rs1 imm tt refl v.0 v.1 v.2
encoded_immediate Xori rd rs1 imm v = encoded_plain Xori rd rs1 imm tt refl v.0 v.1 v.2
encoded_immediate Ori rd rs1 imm v = encoded_plain Ori rd rs1 imm tt refl v.0 v.1 v.2
encoded_immediate Andi rd rs1 imm v = encoded_plain Andi rd rs1 imm tt refl v.0 v.1 v.2
encoded_immediate Slli rd rs1 imm v = encoded_shift Slli rd rs1 imm tt refl v.0 v.1 v.2.0 v.2.1
encoded_immediate Srli rd rs1 imm v = encoded_shift Srli rd rs1 imm tt refl v.0 v.1 v.2.0 v.2.1
encoded_immediate Srai rd rs1 imm v = encoded_shift Srai rd rs1 imm tt refl v.0 v.1 v.2.0 v.2.1

encoded_register : (op : RegOp) (rd rs1 rs2 : ℕ) → IsValid (Op op rd rs1 rs2) → instruction (encoded (Op op rd rs1 rs2)) ≡ Some (Op op rd rs1 rs2)
unfolding encoded
encoded_register op rd rs1 rs2 v =
    let f = fields_of_joined 0x33 rd (register_code op) rs1 rs2 (register_code7 op) (omega arith) v.0 (register_fits op) v.1 v.2 in
    spells_register op (encoded (Op op rd rs1 rs2)) f.opcode_is f.funct3_is f.funct7_is ∙ same3 (λ a b c. Some (Op op a b c)) f.rd_is f.rs1_is f.rs2_is

second_fits : (op : AtomicOp) (rs2 : ℕ) → IsSecond op rs2 → rs2 < 2 ^ 5
second_fits amo.Add rs2 second = omega (arith, second)
second_fits amo.Swap rs2 second = omega (arith, second)
second_fits amo.Lr rs2 second = omega (arith, second)
second_fits amo.Sc rs2 second = omega (arith, second)
second_fits amo.Xor rs2 second = omega (arith, second)
second_fits amo.Or rs2 second = omega (arith, second)
second_fits amo.And rs2 second = omega (arith, second)
second_fits amo.Min rs2 second = omega (arith, second)
second_fits amo.Max rs2 second = omega (arith, second)
second_fits amo.Minu rs2 second = omega (arith, second)
second_fits amo.Maxu rs2 second = omega (arith, second)

encoded_atomic : (op : AtomicOp) (rd rs1 rs2 order : ℕ) → IsValid (Atomic op rd rs1 rs2 order) → instruction (encoded (Atomic op rd rs1 rs2 order)) ≡ Some (Atomic op rd rs1 rs2 order)
unfolding encoded
encoded_atomic op rd rs1 rs2 order v =
    let word = encoded (Atomic op rd rs1 rs2 order) in
    let f = fields_of_joined 0x2f rd 2 rs1 rs2 (atomic_code op * 2 ^ 2 + order) (omega arith) v.0 (omega arith) v.1 (second_fits op rs2 v.2) in
    let code : funct5_of word ≡ atomic_code op = omega (arith, f.funct7_is, v.3) in
    let ordered : order_of word ≡ order = omega (arith, f.funct7_is, v.3) in
    let second : IsSecond op (rs2_of word) = subst (IsSecond op) (sym f.rs2_is) v.2 in
    spells_atomic op word f.opcode_is f.funct3_is code second ∙ same4 (λ a b c d. Some (Atomic op a b c d)) f.rd_is f.rs1_is f.rs2_is ordered

encoded_csr : (op : CsrOp) (rd source address : ℕ) → IsValid (Csr op rd source address) → instruction (encoded (Csr op rd source address)) ≡ Some (Csr op rd source address)
unfolding encoded
encoded_csr op rd source address v =
    let f = fields_of_joined_i 0x73 rd (csr_code op) source address (omega arith) v.0 (csr_fits op) v.1 in
    spells_csr op (encoded (Csr op rd source address)) f.opcode_is f.funct3_is ∙ same3 (λ a b c. Some (Csr op a b c)) f.rd_is f.rs1_is f.funct12_is

pub instruction-encoded : (i : Instr) → IsValid i → instruction (encoded i) ≡ Some i
unfolding encoded
instruction-encoded (Lui rd imm) v = encoded_lui rd imm v
instruction-encoded (Auipc rd imm) v = encoded_auipc rd imm v
instruction-encoded (Jal rd imm) v = encoded_jal rd imm v
instruction-encoded (Jalr rd rs1 imm) v = encoded_jalr rd rs1 imm v
instruction-encoded (Branch op rs1 rs2 imm) v = encoded_branch op rs1 rs2 imm v
instruction-encoded (Load op rd rs1 imm) v = encoded_load op rd rs1 imm v
instruction-encoded (Store op rs1 rs2 imm) v = encoded_store op rs1 rs2 imm v
instruction-encoded (OpImm op rd rs1 imm) v = encoded_immediate op rd rs1 imm v
instruction-encoded (Op op rd rs1 rs2) v = encoded_register op rd rs1 rs2 v
instruction-encoded (Fence op rd rs1 imm) v = encoded_fence op rd rs1 imm v
instruction-encoded (Atomic op rd rs1 rs2 order) v = encoded_atomic op rd rs1 rs2 order v
instruction-encoded (Csr op rd source csr) v = encoded_csr op rd source csr v
instruction-encoded Ecall v = spells_ecall
instruction-encoded Ebreak v = spells_ebreak
instruction-encoded Mret v = spells_mret
instruction-encoded Wfi v = spells_wfi

pub ruleset spelling = instruction-encoded
