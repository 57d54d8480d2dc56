-- Reading a word by the rows of its opcode alone.
use Rattle.std.proofs.Common.{◌≡◌, ◌≢◌, ℕ, false, List, [], ◌∷◌, ◌++◌, refl, ◌∙◌, ap, arith}
use Rattle.std.specs.Prelude.{None, ◌==◌, filter}
use Rattle.std.proofs.lemmas.Bool.{ne_eqb}
use Rattle.rv_decode.specs.Fields.{opcode_of}
use Rattle.rv_decode.specs.Listing.{Row, row, lui, auipc, read_by, rows, instruction, jals, jalrs, branches, loads, stores, immediates, registers, fences, atomics, csrs, bares}

-- the rows of an opcode
abbrev pub having : ℕ → List Row → List Row
having op rs = filter (λ r. op == r.opcode) rs

-- the rows of other opcodes do not count
pub by_opcode : (rs : List Row) (word op : ℕ) → opcode_of word ≡ op → read_by rs word ≡ read_by (having op rs) word
by_opcode [] word op e = refl
by_opcode (r ∷ rs) word op e = grind (arith, by_opcode rs word op e)

-- a word of an opcode is read by the opcode's rows
pub instruction-having : (word op : ℕ) → opcode_of word ≡ op → instruction word ≡ read_by (having op rows) word
unfolding instruction
instruction-having word op e = by_opcode rows word op e

pub lui_words : (word : ℕ) → opcode_of word ≡ 0x37 → instruction word ≡ read_by (row 0x37 [] lui ∷ []) word
unfolding rows
lui_words word e = instruction-having word 0x37 e

pub auipc_words : (word : ℕ) → opcode_of word ≡ 0x17 → instruction word ≡ read_by (row 0x17 [] auipc ∷ []) word
unfolding rows
auipc_words word e = instruction-having word 0x17 e

pub jal_words : (word : ℕ) → opcode_of word ≡ 0x6f → instruction word ≡ read_by jals word
unfolding rows
jal_words word e = instruction-having word 0x6f e

pub jalr_words : (word : ℕ) → opcode_of word ≡ 0x67 → instruction word ≡ read_by jalrs word
unfolding rows
jalr_words word e = instruction-having word 0x67 e

pub branch_words : (word : ℕ) → opcode_of word ≡ 0x63 → instruction word ≡ read_by branches word
unfolding rows
branch_words word e = instruction-having word 0x63 e

pub load_words : (word : ℕ) → opcode_of word ≡ 0x03 → instruction word ≡ read_by loads word
unfolding rows
load_words word e = instruction-having word 0x03 e

pub store_words : (word : ℕ) → opcode_of word ≡ 0x23 → instruction word ≡ read_by stores word
unfolding rows
store_words word e = instruction-having word 0x23 e

pub immediate_words : (word : ℕ) → opcode_of word ≡ 0x13 → instruction word ≡ read_by immediates word
unfolding rows
immediate_words word e = instruction-having word 0x13 e

pub register_words : (word : ℕ) → opcode_of word ≡ 0x33 → instruction word ≡ read_by registers word
unfolding rows
register_words word e = instruction-having word 0x33 e

pub fence_words : (word : ℕ) → opcode_of word ≡ 0x0f → instruction word ≡ read_by fences word
unfolding rows
fence_words word e = instruction-having word 0x0f e

pub atomic_words : (word : ℕ) → opcode_of word ≡ 0x2f → instruction word ≡ read_by atomics word
unfolding rows
atomic_words word e = instruction-having word 0x2f e

pub system_words : (word : ℕ) → opcode_of word ≡ 0x73 → instruction word ≡ read_by (csrs ++ bares) word
unfolding rows
system_words word e = instruction-having word 0x73 e

-- no row has another opcode
having-none : (op : ℕ) → (op == 0x37) ≡ false → (op == 0x17) ≡ false → (op == 0x6f) ≡ false → (op == 0x67) ≡ false → (op == 0x63) ≡ false → (op == 0x03) ≡ false → (op == 0x23) ≡ false → (op == 0x13) ≡ false → (op == 0x33) ≡ false → (op == 0x0f) ≡ false → (op == 0x2f) ≡ false → (op == 0x73) ≡ false → having op rows ≡ []
unfolding rows
having-none op a b c d e f g h i j k l = simp (a, b, c, d, e, f, g, h, i, j, k, l) refl

pub other_words : (word : ℕ) → opcode_of word ≢ 0x37 → opcode_of word ≢ 0x17 → opcode_of word ≢ 0x6f → opcode_of word ≢ 0x67 → opcode_of word ≢ 0x63 → opcode_of word ≢ 0x03 → opcode_of word ≢ 0x23 → opcode_of word ≢ 0x13 → opcode_of word ≢ 0x33 → opcode_of word ≢ 0x0f → opcode_of word ≢ 0x2f → opcode_of word ≢ 0x73 → instruction word ≡ None
other_words word a b c d e f g h i j k l =
    instruction-having word (opcode_of word) refl ∙ ap (λ rs. read_by rs word) (having-none (opcode_of word) (ne_eqb _ _ a) (ne_eqb _ _ b) (ne_eqb _ _ c) (ne_eqb _ _ d) (ne_eqb _ _ e) (ne_eqb _ _ f) (ne_eqb _ _ g) (ne_eqb _ _ h) (ne_eqb _ _ i) (ne_eqb _ _ j) (ne_eqb _ _ k) (ne_eqb _ _ l))

pub ruleset opcodes = (lui_words, auipc_words, jal_words, jalr_words, branch_words, load_words, store_words, immediate_words, register_words, fence_words, atomic_words, system_words, other_words)
