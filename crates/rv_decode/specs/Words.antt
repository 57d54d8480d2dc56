-- The word of an instruction: its codes and fields in their places. (Unprivileged manual, 2.2, 2.3 and chapter 24.)
use Rattle.std.specs.Prelude.{ℕ, ◌+◌, ◌*◌, ◌/◌, ◌%◌, ◌^◌, ℤ}
use Rattle.std.specs.Int.{w32, cast_unsigned}
use Rattle.rv_decode.specs.declared.instruction.Instr.{Instr}
use Rattle.rv_decode.specs.declared.instruction.Instr.TheVariants.{Lui, Auipc, Jal, Jalr, Branch, Load, Store, OpImm, Op, Fence, Atomic, Csr, Ecall, Ebreak, Mret, Wfi}
use Rattle.rv_decode.specs.declared.operations.BranchOp.{BranchOp}
use Rattle.rv_decode.specs.declared.operations.BranchOp.TheVariants.{Beq, Bne, Blt, Bge, Bltu, Bgeu}
use Rattle.rv_decode.specs.declared.operations.LoadOp.{LoadOp}
use Rattle.rv_decode.specs.declared.operations.LoadOp.TheVariants.{Lb, Lh, Lw, Lbu, Lhu}
use Rattle.rv_decode.specs.declared.operations.StoreOp.{StoreOp}
use Rattle.rv_decode.specs.declared.operations.StoreOp.TheVariants.{Sb, Sh, Sw}
use Rattle.rv_decode.specs.declared.operations.ImmOp.{ImmOp}
use Rattle.rv_decode.specs.declared.operations.ImmOp.TheVariants.{Addi, Slti, Sltiu, Xori, Ori, Andi, Slli, Srli, Srai}
use Rattle.rv_decode.specs.declared.operations.RegOp.{RegOp}
use Rattle.rv_decode.specs.declared.operations.RegOp.TheVariants.{Add, Sll, Slt, Sltu, Xor, Srl, Or, And, Sub, Sra, Mul, Mulh, Mulhsu, Mulhu, Div, Divu, Rem, Remu}
use Rattle.rv_decode.specs.declared.operations.FenceOp.{FenceOp}
use Rattle.rv_decode.specs.declared.operations.FenceOp.TheVariants as ordering
use Rattle.rv_decode.specs.declared.operations.AtomicOp.{AtomicOp}
use Rattle.rv_decode.specs.declared.operations.AtomicOp.TheVariants as amo
use Rattle.rv_decode.specs.declared.operations.CsrOp.{CsrOp}
use Rattle.rv_decode.specs.declared.operations.CsrOp.TheVariants.{Csrrw, Csrrs, Csrrc, Csrrwi, Csrrsi, Csrrci}

-- the funct3 of each operation
abbrev pub branch_code : BranchOp → ℕ
branch_code Beq = 0
branch_code Bne = 1
branch_code Blt = 4
branch_code Bge = 5
branch_code Bltu = 6
branch_code Bgeu = 7

abbrev pub load_code : LoadOp → ℕ
load_code Lb = 0
load_code Lh = 1
load_code Lw = 2
load_code Lbu = 4
load_code Lhu = 5

abbrev pub store_code : StoreOp → ℕ
store_code Sb = 0
store_code Sh = 1
store_code Sw = 2

abbrev pub immediate_code : ImmOp → ℕ
immediate_code Addi = 0
immediate_code Slli = 1
immediate_code Slti = 2
immediate_code Sltiu = 3
immediate_code Xori = 4
immediate_code Srli = 5
immediate_code Srai = 5
immediate_code Ori = 6
immediate_code Andi = 7

abbrev pub register_code : RegOp → ℕ
register_code Add = 0
register_code Sub = 0
register_code Sll = 1
register_code Slt = 2
register_code Sltu = 3
register_code Xor = 4
register_code Srl = 5
register_code Sra = 5
register_code Or = 6
register_code And = 7
register_code Mul = 0
register_code Mulh = 1
register_code Mulhsu = 2
register_code Mulhu = 3
register_code Div = 4
register_code Divu = 5
register_code Rem = 6
register_code Remu = 7

-- the funct7 of an operation on two registers
abbrev pub register_code7 : RegOp → ℕ
register_code7 Add = 0x00
register_code7 Sll = 0x00
register_code7 Slt = 0x00
register_code7 Sltu = 0x00
register_code7 Xor = 0x00
register_code7 Srl = 0x00
register_code7 Or = 0x00
register_code7 And = 0x00
register_code7 Sub = 0x20
register_code7 Sra = 0x20
register_code7 _ = 0x01

abbrev pub fence_code : FenceOp → ℕ
fence_code ordering.Fence = 0
fence_code ordering.FenceI = 1

-- the funct5 of an atomic
abbrev pub atomic_code : AtomicOp → ℕ
atomic_code amo.Add = 0x00
atomic_code amo.Swap = 0x01
atomic_code amo.Lr = 0x02
atomic_code amo.Sc = 0x03
atomic_code amo.Xor = 0x04
atomic_code amo.Or = 0x08
atomic_code amo.And = 0x0c
atomic_code amo.Min = 0x10
atomic_code amo.Max = 0x14
atomic_code amo.Minu = 0x18
atomic_code amo.Maxu = 0x1c

abbrev pub csr_code : CsrOp → ℕ
csr_code Csrrw = 1
csr_code Csrrs = 2
csr_code Csrrc = 3
csr_code Csrrwi = 5
csr_code Csrrsi = 6
csr_code Csrrci = 7

-- fields in their places
abbrev pub joined : (opcode rd funct3 rs1 rs2 funct7 : ℕ) → ℕ
joined opcode rd funct3 rs1 rs2 funct7 =
    opcode + rd * 2 ^ 7 + funct3 * 2 ^ 12 + rs1 * 2 ^ 15 + rs2 * 2 ^ 20 + funct7 * 2 ^ 25

-- the upper twelve bits as one field
abbrev pub joined_i : (opcode rd funct3 rs1 funct12 : ℕ) → ℕ
joined_i opcode rd funct3 rs1 funct12 =
    opcode + rd * 2 ^ 7 + funct3 * 2 ^ 12 + rs1 * 2 ^ 15 + funct12 * 2 ^ 20

-- the upper twenty bits as one field
abbrev pub joined_u : (opcode rd upper : ℕ) → ℕ
joined_u opcode rd upper = opcode + rd * 2 ^ 7 + upper * 2 ^ 12

-- the bits of an immediate
abbrev pub bits_of : ℤ → ℕ
bits_of imm = cast_unsigned w32 imm

-- the immediates in their places: twelve bits; twelve bits in two parts; a branch's two parts; twenty bits; a jump's
abbrev pub places_i : ℕ → ℕ
places_i bits = bits % 2 ^ 12

abbrev pub low_s : ℕ → ℕ
low_s bits = bits % 2 ^ 5

abbrev pub high_s : ℕ → ℕ
high_s bits = bits / 2 ^ 5 % 2 ^ 7

abbrev pub low_b : ℕ → ℕ
low_b bits = bits / 2 % 2 ^ 4 * 2 + bits / 2 ^ 11 % 2

abbrev pub high_b : ℕ → ℕ
high_b bits = bits / 2 ^ 12 % 2 * 2 ^ 6 + bits / 2 ^ 5 % 2 ^ 6

abbrev pub places_u : ℕ → ℕ
places_u bits = bits / 2 ^ 12

abbrev pub places_j : ℕ → ℕ
places_j bits = bits / 2 ^ 20 % 2 * 2 ^ 19 + bits / 2 % 2 ^ 10 * 2 ^ 9 + bits / 2 ^ 11 % 2 * 2 ^ 8 + bits / 2 ^ 12 % 2 ^ 8

-- SRAI alone of the operations on an immediate has a bit beside its immediate
abbrev pub immediate_extra : ImmOp → ℕ
immediate_extra Srai = 2 ^ 10
immediate_extra _ = 0

-- the word of an instruction, a form at a time
unfoldable pub encoded : Instr → ℕ
encoded (Lui rd imm) = joined_u 0x37 rd (places_u (bits_of imm))
encoded (Auipc rd imm) = joined_u 0x17 rd (places_u (bits_of imm))
encoded (Jal rd imm) = joined_u 0x6f rd (places_j (bits_of imm))
encoded (Jalr rd rs1 imm) = joined_i 0x67 rd 0 rs1 (places_i (bits_of imm))
encoded (Branch op rs1 rs2 imm) =
    joined 0x63 (low_b (bits_of imm)) (branch_code op) rs1 rs2 (high_b (bits_of imm))
encoded (Load op rd rs1 imm) = joined_i 0x03 rd (load_code op) rs1 (places_i (bits_of imm))
encoded (Store op rs1 rs2 imm) =
    joined 0x23 (low_s (bits_of imm)) (store_code op) rs1 rs2 (high_s (bits_of imm))
encoded (OpImm op rd rs1 imm) =
    joined_i 0x13 rd (immediate_code op) rs1 (places_i (bits_of imm) + immediate_extra op)
encoded (Op op rd rs1 rs2) = joined 0x33 rd (register_code op) rs1 rs2 (register_code7 op)
encoded (Fence op rd rs1 imm) = joined_i 0x0f rd (fence_code op) rs1 (places_i (bits_of imm))
encoded (Atomic op rd rs1 rs2 order) = joined 0x2f rd 2 rs1 rs2 (atomic_code op * 2 ^ 2 + order)
encoded (Csr op rd source csr) = joined_i 0x73 rd (csr_code op) source csr
encoded Ecall = 0x00000073
encoded Ebreak = 0x00100073
encoded Mret = 0x30200073
encoded Wfi = 0x10500073
