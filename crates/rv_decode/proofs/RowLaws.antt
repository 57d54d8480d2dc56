-- Each row of the listing reads what its words spell.
use Rattle.std.proofs.Common.{◌≡◌, ℕ, ◌+◌, ◌*◌, ◌/◌, ◌^◌, ◌<◌, ◌≤ℤ◌, ◌<ℤ◌, true, List, [], ◌∷◌, ◌++◌, pos, refl, arith}
use Rattle.std.specs.Prelude.{IfSome}
use Rattle.std.proofs.lemmas.Int.{ints}
use Rattle.std.proofs.lemmas.Option.{IfSome_then}
use Rattle.rv_decode.specs.declared.instruction.Instr.{Instr}
use Rattle.rv_decode.specs.declared.instruction.Instr.TheVariants.{Ecall, Ebreak, Mret, Wfi}
use Rattle.rv_decode.specs.declared.operations.BranchOp.{BranchOp}
use Rattle.rv_decode.specs.declared.operations.BranchOp.TheVariants.{Beq, Bne, Blt, Bge, Bltu, Bgeu}
use Rattle.rv_decode.specs.declared.operations.LoadOp.{LoadOp}
use Rattle.rv_decode.specs.declared.operations.LoadOp.TheVariants.{Lb, Lh, Lw, Lbu, Lhu}
use Rattle.rv_decode.specs.declared.operations.StoreOp.{StoreOp}
use Rattle.rv_decode.specs.declared.operations.StoreOp.TheVariants.{Sb, Sh, Sw}
use Rattle.rv_decode.specs.declared.operations.ImmOp.{ImmOp}
use Rattle.rv_decode.specs.declared.operations.ImmOp.TheVariants.{Addi, Slti, Sltiu, Xori, Ori, Andi, Slli, Srli, Srai}
use Rattle.rv_decode.specs.declared.operations.RegOp.{RegOp}
use Rattle.rv_decode.specs.declared.operations.RegOp.TheVariants.{Add, Sll, Slt, Sltu, Xor, Srl, Or, And, Sub, Sra, Mul, Mulh, Mulhsu, Mulhu, Div, Divu, Rem, Remu}
use Rattle.rv_decode.specs.declared.operations.FenceOp.{FenceOp}
use Rattle.rv_decode.specs.declared.operations.FenceOp.TheVariants as ordering
use Rattle.rv_decode.specs.declared.operations.AtomicOp.{AtomicOp}
use Rattle.rv_decode.specs.declared.operations.AtomicOp.TheVariants as amo
use Rattle.rv_decode.specs.declared.operations.CsrOp.{CsrOp}
use Rattle.rv_decode.specs.declared.operations.CsrOp.TheVariants.{Csrrw, Csrrs, Csrrc, Csrrwi, Csrrsi, Csrrci}
use Rattle.rv_decode.specs.Fields.{rs2_of, immediate_i}
use Rattle.rv_decode.specs.Listing.{Row, row, row3, row37, row_atomic, row_bare, is, Funct3, Funct5, Rs2, meets, read_by, rows, instruction, branch, load, store, immediate, shift, register, fence, atomic, csr, uppers, jals, jalrs, branches, loads, stores, immediates, registers, fences, atomics, csrs, bares}
use Rattle.rv_decode.specs.Valid.{IsOperand, IsSecond, IsValid}
use Rattle.rv_decode.specs.Words.{branch_code, load_code, store_code, immediate_code, register_code, register_code7, fence_code, atomic_code, csr_code, immediate_extra, encoded}
use Rattle.rv_decode.proofs.ReadingLaws.{Reading, signed_12, reads_lui, reads_auipc, reads_jal, reads_jalr, reads_branch, reads_load, reads_store, reads_immediate, reads_shift, reads_register, reads_fence, reads_atomic, reads_csr}

-- every row that the word meets reads it rightly
abbrev pub Good : ℕ → List Row → Type 0
Good word [] = Unit {0}
Good word (r ∷ rs) = (meets r word ≡ true → Reading word (r.reads word)) × Good word rs

Good-append : (word : ℕ) (rs ss : List Row) → Good word rs → Good word ss → Good word (rs ++ ss)
Good-append word [] ss p q = q
Good-append word (r ∷ rs) ss p q = (p.0, Good-append word rs ss p.1 q)

Good-read : (word : ℕ) (rs : List Row) → Good word rs → IfSome (read_by rs word) (Reading word)
Good-read word [] p = tt
Good-read word (r ∷ rs) p = grind (arith, p.0, Good-read word rs p.1)

good_branch : (op : BranchOp) (word : ℕ) → word < 2 ^ 32 → meets (row3 0x63 (branch_code op) (branch op)) word ≡ true → Reading word (branch op word)
good_branch op word fits m = reads_branch op word fits (grind (arith, m)) (grind (arith, m))

good_branches : (word : ℕ) → word < 2 ^ 32 → Good word branches
good_branches word fits =
    let g = λ (op : BranchOp). good_branch op word fits in
    (g Beq, (g Bne, (g Blt, (g Bge, (g Bltu, (g Bgeu, tt))))))

good_uppers : (word : ℕ) → word < 2 ^ 32 → Good word uppers
good_uppers word fits = (λ m. reads_lui word fits (grind (arith, m)), (λ m. reads_auipc word fits (grind (arith, m)), tt))

good_jals : (word : ℕ) → word < 2 ^ 32 → Good word jals
good_jals word fits = (λ m. reads_jal word fits (grind (arith, m)), tt)

good_jalrs : (word : ℕ) → word < 2 ^ 32 → Good word jalrs
good_jalrs word fits = (λ m. reads_jalr word fits (grind (arith, m)) (grind (arith, m)), tt)

good_load : (op : LoadOp) (word : ℕ) → word < 2 ^ 32 → meets (row3 0x03 (load_code op) (load op)) word ≡ true → Reading word (load op word)
good_load op word fits m = reads_load op word fits (grind (arith, m)) (grind (arith, m))

good_loads : (word : ℕ) → word < 2 ^ 32 → Good word loads
good_loads word fits =
    let g = λ (op : LoadOp). good_load op word fits in
    (g Lb, (g Lh, (g Lw, (g Lbu, (g Lhu, tt)))))

good_store : (op : StoreOp) (word : ℕ) → word < 2 ^ 32 → meets (row3 0x23 (store_code op) (store op)) word ≡ true → Reading word (store op word)
good_store op word fits m = reads_store op word fits (grind (arith, m)) (grind (arith, m))

good_stores : (word : ℕ) → word < 2 ^ 32 → Good word stores
good_stores word fits =
    let g = λ (op : StoreOp). good_store op word fits in
    (g Sb, (g Sh, (g Sw, tt)))

good_immediate : (op : ImmOp) (word : ℕ) → word < 2 ^ 32 → IsOperand op (immediate_i word) → immediate_extra op ≡ 0 → meets (row3 0x13 (immediate_code op) (immediate op)) word ≡ true → Reading word (immediate op word)
good_immediate op word fits operand extra m = reads_immediate op word fits operand extra (grind (arith, m)) (grind (arith, m))

good_shift : (op : ImmOp) (funct7 word : ℕ) → word < 2 ^ 32 → IsOperand op (pos (rs2_of word)) → funct7 * 2 ^ 5 ≡ immediate_extra op → meets (row37 0x13 (immediate_code op) funct7 (shift op)) word ≡ true → Reading word (shift op word)
good_shift op funct7 word fits operand extra m = reads_shift op word fits operand (grind (arith, m)) (grind (arith, m)) (grind (arith, extra, m))

good_immediates : (word : ℕ) → word < 2 ^ 32 → Good word immediates
good_immediates word fits =
    let s = signed_12 (word / 2 ^ 20) (omega (arith, fits)) in
    let five : (pos 0 ≤ℤ pos (rs2_of word)) × (pos (rs2_of word) <ℤ pos (2 ^ 5)) = (omega (arith, ints), omega (arith, ints)) in
    (good_immediate Addi word fits s refl, (good_immediate Slti word fits s refl, (good_immediate Sltiu word fits s refl, (good_immediate Xori word fits s refl, (good_immediate Ori word fits s refl, (good_immediate Andi word fits s refl, (good_shift Slli 0x00 word fits five refl, (good_shift Srli 0x00 word fits five refl, (good_shift Srai 0x20 word fits five refl, tt)))))))))

good_register : (op : RegOp) (word : ℕ) → word < 2 ^ 32 → meets (row37 0x33 (register_code op) (register_code7 op) (register op)) word ≡ true → Reading word (register op word)
good_register op word fits m = reads_register op word fits (grind (arith, m)) (grind (arith, m)) (grind (arith, m))

good_registers : (word : ℕ) → word < 2 ^ 32 → Good word registers
good_registers word fits =
    let g = λ (op : RegOp). good_register op word fits in
    (g Add, (g Sub, (g Sll, (g Slt, (g Sltu, (g Xor, (g Srl, (g Sra, (g Or, (g And, (g Mul, (g Mulh, (g Mulhsu, (g Mulhu, (g Div, (g Divu, (g Rem, (g Remu, tt))))))))))))))))))

good_fence : (op : FenceOp) (word : ℕ) → word < 2 ^ 32 → meets (row3 0x0f (fence_code op) (fence op)) word ≡ true → Reading word (fence op word)
good_fence op word fits m = reads_fence op word fits (grind (arith, m)) (grind (arith, m))

good_fences : (word : ℕ) → word < 2 ^ 32 → Good word fences
good_fences word fits = (good_fence ordering.Fence word fits, (good_fence ordering.FenceI word fits, tt))

good_atomic : (op : AtomicOp) (word : ℕ) → word < 2 ^ 32 → IsSecond op (rs2_of word) → meets (row_atomic (atomic_code op) op) word ≡ true → Reading word (atomic op word)
good_atomic op word fits second m = reads_atomic op word fits (grind (arith, m)) (grind (arith, m)) (grind (arith, m)) second

good_reserve : (word : ℕ) → word < 2 ^ 32 → meets (row 0x2f (is Funct3 2 ∷ is Funct5 0x02 ∷ is Rs2 0 ∷ []) (atomic amo.Lr)) word ≡ true → Reading word (atomic amo.Lr word)
good_reserve word fits m = reads_atomic amo.Lr word fits (grind (arith, m)) (grind (arith, m)) (grind (arith, m)) (grind (arith, m))

good_atomics : (word : ℕ) → word < 2 ^ 32 → Good word atomics
good_atomics word fits =
    let second : rs2_of word < 2 ^ 5 = omega arith in
    (good_reserve word fits, (good_atomic amo.Sc word fits second, (good_atomic amo.Swap word fits second, (good_atomic amo.Add word fits second, (good_atomic amo.Xor word fits second, (good_atomic amo.And word fits second, (good_atomic amo.Or word fits second, (good_atomic amo.Min word fits second, (good_atomic amo.Max word fits second, (good_atomic amo.Minu word fits second, (good_atomic amo.Maxu word fits second, tt)))))))))))

good_csr : (op : CsrOp) (word : ℕ) → word < 2 ^ 32 → meets (row3 0x73 (csr_code op) (csr op)) word ≡ true → Reading word (csr op word)
good_csr op word fits m = reads_csr op word fits (grind (arith, m)) (grind (arith, m))

good_csrs : (word : ℕ) → word < 2 ^ 32 → Good word csrs
good_csrs word fits =
    let g = λ (op : CsrOp). good_csr op word fits in
    (g Csrrw, (g Csrrs, (g Csrrc, (g Csrrwi, (g Csrrsi, (g Csrrci, tt))))))

-- an instruction without operands is one word
bare_word : (funct12 : ℕ) (i : Instr) (word : ℕ) → meets (row_bare funct12 i) word ≡ true → funct12 * 2 ^ 20 + 0x73 ≡ word
bare_word funct12 i word m = grind (arith, m)

good_bares : (word : ℕ) → Good word bares
unfolding encoded
good_bares word =
    (λ m. record { valid = tt; back = bare_word 0x000 Ecall word m }, (λ m. record { valid = tt; back = bare_word 0x001 Ebreak word m }, (λ m. record { valid = tt; back = bare_word 0x302 Mret word m }, (λ m. record { valid = tt; back = bare_word 0x105 Wfi word m }, tt))))

good_rows : (word : ℕ) → word < 2 ^ 32 → Good word rows
unfolding rows
good_rows word fits =
    let a = λ (rs ss : List Row) (p : Good word rs) (q : Good word ss). Good-append word rs ss p q in
    a (uppers ++ jals ++ jalrs ++ branches ++ loads ++ stores ++ immediates ++ registers ++ fences ++ atomics ++ csrs) bares
    (a (uppers ++ jals ++ jalrs ++ branches ++ loads ++ stores ++ immediates ++ registers ++ fences ++ atomics) csrs
    (a (uppers ++ jals ++ jalrs ++ branches ++ loads ++ stores ++ immediates ++ registers ++ fences) atomics
    (a (uppers ++ jals ++ jalrs ++ branches ++ loads ++ stores ++ immediates ++ registers) fences
    (a (uppers ++ jals ++ jalrs ++ branches ++ loads ++ stores ++ immediates) registers
    (a (uppers ++ jals ++ jalrs ++ branches ++ loads ++ stores) immediates
    (a (uppers ++ jals ++ jalrs ++ branches ++ loads) stores
    (a (uppers ++ jals ++ jalrs ++ branches) loads
    (a (uppers ++ jals ++ jalrs) branches
    (a (uppers ++ jals) jalrs
    (a uppers jals (good_uppers word fits) (good_jals word fits)) (good_jalrs word fits)) (good_branches word fits)) (good_loads word fits)) (good_stores word fits)) (good_immediates word fits)) (good_registers word fits)) (good_fences word fits)) (good_atomics word fits)) (good_csrs word fits)) (good_bares word)

-- what a word spells is valid, and its word is this one
pub instruction-reads : (word : ℕ) → word < 2 ^ 32 → IfSome (instruction word) (Reading word)
unfolding instruction
instruction-reads word fits = Good-read word rows (good_rows word fits)

pub valid_reading : (word : ℕ) → word < 2 ^ 32 → IfSome (instruction word) IsValid
valid_reading word fits = IfSome_then (instruction word) (instruction-reads word fits) (λ i r. r.valid)

pub back_reading : (word : ℕ) → word < 2 ^ 32 → IfSome (instruction word) (λ i. encoded i ≡ word)
back_reading word fits = IfSome_then (instruction word) (instruction-reads word fits) (λ i r. r.back)
