-- What the operations compute, an equation each, on words: numbers below 2 ^ 32. (Unprivileged manual, chapters 2, 7, 8
-- and 9.)
use Rattle.std.specs.Prelude.{ℕ, ◌+◌, ◌-◌, ◌*◌, ◌/◌, ◌%◌, ◌^◌, Bool, true, false, not, ◌==◌, nat_lt, ℤ, pos, ◌*ℤ◌, int_lt, int_div, int_rem, bit_and, bit_or, bit_xor, if◌then◌else◌}
use Rattle.std.specs.Int.{w32, cast_signed, cast_unsigned, int_shr, bit_not}
use Rattle.rv_decode.specs.declared.operations.BranchOp.{BranchOp}
use Rattle.rv_decode.specs.declared.operations.BranchOp.TheVariants.{Beq, Bne, Blt, Bge, Bltu, Bgeu}
use Rattle.rv_decode.specs.declared.operations.LoadOp.{LoadOp}
use Rattle.rv_decode.specs.declared.operations.LoadOp.TheVariants.{Lb, Lh, Lw, Lbu, Lhu}
use Rattle.rv_decode.specs.declared.operations.StoreOp.{StoreOp}
use Rattle.rv_decode.specs.declared.operations.StoreOp.TheVariants.{Sb, Sh, Sw}
use Rattle.rv_decode.specs.declared.operations.ImmOp.{ImmOp}
use Rattle.rv_decode.specs.declared.operations.ImmOp.TheVariants.{Addi, Slti, Sltiu, Xori, Ori, Andi, Slli, Srli, Srai}
use Rattle.rv_decode.specs.declared.operations.RegOp.{RegOp}
use Rattle.rv_decode.specs.declared.operations.RegOp.TheVariants.{Add, Sll, Slt, Sltu, Xor, Srl, Or, And, Sub, Sra, Mul, Mulh, Mulhsu, Mulhu, Div, Divu, Rem, Remu}
use Rattle.rv_decode.specs.declared.operations.AtomicOp.{AtomicOp}
use Rattle.rv_decode.specs.declared.operations.AtomicOp.TheVariants as amo
use Rattle.rv_decode.specs.declared.operations.CsrOp.{CsrOp}
use Rattle.rv_decode.specs.declared.operations.CsrOp.TheVariants.{Csrrw, Csrrs, Csrrc, Csrrwi, Csrrsi, Csrrci}

-- the signed number of a word, and the word of a signed number
abbrev pub signed : ℕ → ℤ
signed word = cast_signed w32 word

abbrev pub bits : ℤ → ℕ
bits number = cast_unsigned w32 number

-- arithmetic modulo 2 ^ 32
abbrev pub sum : ℕ → ℕ → ℕ
sum a b = (a + b) % 2 ^ 32

abbrev pub difference : ℕ → ℕ → ℕ
difference a b = (a + (2 ^ 32 - b)) % 2 ^ 32

-- 1 where the test holds, else 0
abbrev pub flag : Bool → ℕ
flag test = if test then 1 else 0

-- the shifts, by the low five bits of the second operand: left, and right with zeros or with the sign. (2.4)
abbrev pub shifted_left : ℕ → ℕ → ℕ
shifted_left a b = (a * 2 ^ (b % 2 ^ 5)) % 2 ^ 32

abbrev pub shifted_right : ℕ → ℕ → ℕ
shifted_right a b = a / 2 ^ (b % 2 ^ 5)

abbrev pub shifted_signed : ℕ → ℕ → ℕ
shifted_signed a b = bits (int_shr (signed a) (b % 2 ^ 5))

-- the upper 32 bits of a product of 64. (7.1)
abbrev pub upper : ℤ → ℕ
upper product = bits (int_shr product 32)

-- division, whose quotient by zero is all ones and whose remainder by zero is the dividend; -2 ^ 31 by -1 gives -2 ^ 31,
-- remainder 0. (7.2)
abbrev pub quotient : ℕ → ℕ → ℕ
quotient a b = if b == 0 then 2 ^ 32 - 1 else bits (int_div (signed a) (signed b))

abbrev pub quotient_unsigned : ℕ → ℕ → ℕ
quotient_unsigned a b = if b == 0 then 2 ^ 32 - 1 else a / b

abbrev pub remainder : ℕ → ℕ → ℕ
remainder a b = if b == 0 then a else bits (int_rem (signed a) (signed b))

abbrev pub remainder_unsigned : ℕ → ℕ → ℕ
remainder_unsigned a b = if b == 0 then a else a % b

-- what an operation makes of a register and an immediate. (2.4)
abbrev pub immediate_result : ImmOp → ℕ → ℕ → ℕ
immediate_result Addi a b = sum a b
immediate_result Slti a b = flag (int_lt (signed a) (signed b))
immediate_result Sltiu a b = flag (nat_lt a b)
immediate_result Xori a b = bit_xor a b
immediate_result Ori a b = bit_or a b
immediate_result Andi a b = bit_and a b
immediate_result Slli a b = shifted_left a b
immediate_result Srli a b = shifted_right a b
immediate_result Srai a b = shifted_signed a b

-- what an operation makes of two registers. (2.4, 7.1 and 7.2)
abbrev pub register_result : RegOp → ℕ → ℕ → ℕ
register_result Add a b = sum a b
register_result Sub a b = difference a b
register_result Sll a b = shifted_left a b
register_result Slt a b = flag (int_lt (signed a) (signed b))
register_result Sltu a b = flag (nat_lt a b)
register_result Xor a b = bit_xor a b
register_result Srl a b = shifted_right a b
register_result Sra a b = shifted_signed a b
register_result Or a b = bit_or a b
register_result And a b = bit_and a b
register_result Mul a b = (a * b) % 2 ^ 32
register_result Mulh a b = upper (signed a *ℤ signed b)
register_result Mulhsu a b = upper (signed a *ℤ pos b)
register_result Mulhu a b = a * b / 2 ^ 32
register_result Div a b = quotient a b
register_result Divu a b = quotient_unsigned a b
register_result Rem a b = remainder a b
register_result Remu a b = remainder_unsigned a b

-- whether a branch is taken, by its two registers. (2.5)
abbrev pub is_taken : BranchOp → ℕ → ℕ → Bool
is_taken Beq a b = a == b
is_taken Bne a b = not (a == b)
is_taken Blt a b = int_lt (signed a) (signed b)
is_taken Bge a b = not (int_lt (signed a) (signed b))
is_taken Bltu a b = nat_lt a b
is_taken Bgeu a b = not (nat_lt a b)

-- how many bytes a load reads, and a store writes. (2.6)
abbrev pub load_width : LoadOp → ℕ
load_width Lb = 1
load_width Lh = 2
load_width Lw = 4
load_width Lbu = 1
load_width Lhu = 2

abbrev pub store_width : StoreOp → ℕ
store_width Sb = 1
store_width Sh = 2
store_width Sw = 4

-- so many low bits of a word, sign extended
abbrev pub extended : ℕ → ℕ → ℕ
extended size word = let low = word % 2 ^ size in if nat_lt low (2 ^ (size - 1)) then low else low + (2 ^ 32 - 2 ^ size)

-- what a load writes to its register, of the word or of its low bytes. (2.6)
abbrev pub load_result : LoadOp → ℕ → ℕ
load_result Lb word = extended 8 word
load_result Lh word = extended 16 word
load_result Lw word = word
load_result Lbu word = word % 2 ^ 8
load_result Lhu word = word % 2 ^ 16

-- what an atomic leaves in memory, by the word that was there and its register: LR leaves the word, and an SC that
-- succeeds the register. (8.2 and 8.4)
abbrev pub swapped : AtomicOp → ℕ → ℕ → ℕ
swapped amo.Lr old register = old
swapped amo.Sc old register = register
swapped amo.Swap old register = register
swapped amo.Add old register = sum old register
swapped amo.Xor old register = bit_xor old register
swapped amo.And old register = bit_and old register
swapped amo.Or old register = bit_or old register
swapped amo.Min old register = if int_lt (signed old) (signed register) then old else register
swapped amo.Max old register = if int_lt (signed old) (signed register) then register else old
swapped amo.Minu old register = if nat_lt old register then old else register
swapped amo.Maxu old register = if nat_lt old register then register else old

-- whether the source of a CSR instruction is a register's number; else it is the operand itself. (9.1)
abbrev pub takes_register : CsrOp → Bool
takes_register Csrrw = true
takes_register Csrrs = true
takes_register Csrrc = true
takes_register Csrrwi = false
takes_register Csrrsi = false
takes_register Csrrci = false

-- whether a CSR instruction reads the CSR, by its rd, and writes it, by its source: a swap with rd x0 does not read, and
-- a set or clear with register x0 or immediate 0 does not write. (9.1)
abbrev pub reads_csr : CsrOp → ℕ → Bool
reads_csr Csrrw rd = not (rd == 0)
reads_csr Csrrwi rd = not (rd == 0)
reads_csr _ rd = true

abbrev pub writes_csr : CsrOp → ℕ → Bool
writes_csr Csrrw source = true
writes_csr Csrrwi source = true
writes_csr _ source = not (source == 0)

-- what a CSR instruction writes, by what the CSR read and the operand. (9.1)
abbrev pub csr_result : CsrOp → ℕ → ℕ → ℕ
csr_result Csrrw old operand = operand
csr_result Csrrs old operand = bit_or old operand
csr_result Csrrc old operand = bit_and old (bit_not w32 operand)
csr_result Csrrwi old operand = operand
csr_result Csrrsi old operand = bit_or old operand
csr_result Csrrci old operand = bit_and old (bit_not w32 operand)
