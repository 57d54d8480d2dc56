-- Which instructions a word can spell: each field fits its place. (Unprivileged manual, 2.2 and 2.3.)
use Rattle.std.specs.Prelude.{◌≡◌, ℕ, ◌-◌, ◌%◌, ◌^◌, ◌<◌, ℤ, pos, ◌-ℤ◌, ◌≤ℤ◌, ◌<ℤ◌, unsigned_abs}
use Rattle.rv_decode.specs.declared.instruction.Instr.{Instr}
use Rattle.rv_decode.specs.declared.instruction.Instr.TheVariants.{Lui, Auipc, Jal, Jalr, Branch, Load, Store, OpImm, Op, Fence, Atomic, Csr, Ecall, Ebreak, Mret, Wfi}
use Rattle.rv_decode.specs.declared.operations.ImmOp.{ImmOp}
use Rattle.rv_decode.specs.declared.operations.ImmOp.TheVariants.{Slli, Srli, Srai}
use Rattle.rv_decode.specs.declared.operations.AtomicOp.{AtomicOp}
use Rattle.rv_decode.specs.declared.operations.AtomicOp.TheVariants.{Lr}

abbrev pub IsRegister : ℕ → Type 0
IsRegister number = number < 2 ^ 5

-- a signed number of so many bits
abbrev pub IsSigned : ℕ → ℤ → Type 0
IsSigned bits z = ((pos 0 -ℤ pos (2 ^ (bits - 1))) ≤ℤ z) × (z <ℤ pos (2 ^ (bits - 1)))

abbrev pub IsMultiple : ℕ → ℤ → Type 0
IsMultiple n z = unsigned_abs z % n ≡ 0

-- what an operation on an immediate may take: the shifts five bits, the others twelve with a sign
abbrev pub IsOperand : ImmOp → ℤ → Type 0
IsOperand Slli z = (pos 0 ≤ℤ z) × (z <ℤ pos (2 ^ 5))
IsOperand Srli z = (pos 0 ≤ℤ z) × (z <ℤ pos (2 ^ 5))
IsOperand Srai z = (pos 0 ≤ℤ z) × (z <ℤ pos (2 ^ 5))
IsOperand _ z = IsSigned 12 z

-- the second register of an atomic; LR has none
abbrev pub IsSecond : AtomicOp → ℕ → Type 0
IsSecond Lr number = number ≡ 0
IsSecond _ number = IsRegister number

-- each field of the instruction fits its place
abbrev pub IsValid : Instr → Type 0
IsValid (Lui rd imm) = IsRegister rd × IsSigned 32 imm × IsMultiple (2 ^ 12) imm
IsValid (Auipc rd imm) = IsRegister rd × IsSigned 32 imm × IsMultiple (2 ^ 12) imm
IsValid (Jal rd imm) = IsRegister rd × IsSigned 21 imm × IsMultiple 2 imm
IsValid (Jalr rd rs1 imm) = IsRegister rd × IsRegister rs1 × IsSigned 12 imm
IsValid (Branch op rs1 rs2 imm) =
    IsRegister rs1 × IsRegister rs2 × IsSigned 13 imm × IsMultiple 2 imm
IsValid (Load op rd rs1 imm) = IsRegister rd × IsRegister rs1 × IsSigned 12 imm
IsValid (Store op rs1 rs2 imm) = IsRegister rs1 × IsRegister rs2 × IsSigned 12 imm
IsValid (OpImm op rd rs1 imm) = IsRegister rd × IsRegister rs1 × IsOperand op imm
IsValid (Op op rd rs1 rs2) = IsRegister rd × IsRegister rs1 × IsRegister rs2
IsValid (Fence op rd rs1 imm) = IsRegister rd × IsRegister rs1 × IsSigned 12 imm
IsValid (Atomic op rd rs1 rs2 order) =
    IsRegister rd × IsRegister rs1 × IsSecond op rs2 × (order < 2 ^ 2)
IsValid (Csr op rd source csr) = IsRegister rd × IsRegister source × (csr < 2 ^ 12)
IsValid Ecall = Unit {0}
IsValid Ebreak = Unit {0}
IsValid Mret = Unit {0}
IsValid Wfi = Unit {0}
