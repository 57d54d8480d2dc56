-- The listing of the instructions: a row for each, with what its fields must be and what its words read. (Unprivileged
-- manual, chapter 24; the privileged manual's listing for MRET and WFI.)
use Rattle.std.specs.Prelude.{ℕ, Bool, ◌&&◌, ◌==◌, pos, List, [], ◌∷◌, ◌++◌, Option, None, Some, if◌then◌else◌}
use Rattle.std.specs.List.{list_all}
use Rattle.rv_decode.specs.declared.instruction.Instr.{Instr}
use Rattle.rv_decode.specs.declared.instruction.Instr.TheVariants.{Lui, Auipc, Jal, Jalr, Branch, Load, Store, OpImm, Op, Fence, Atomic, Csr, Ecall, Ebreak, Mret, Wfi}
use Rattle.rv_decode.specs.declared.operations.BranchOp.{BranchOp}
use Rattle.rv_decode.specs.declared.operations.BranchOp.TheVariants.{Beq, Bne, Blt, Bge, Bltu, Bgeu}
use Rattle.rv_decode.specs.declared.operations.LoadOp.{LoadOp}
use Rattle.rv_decode.specs.declared.operations.LoadOp.TheVariants.{Lb, Lh, Lw, Lbu, Lhu}
use Rattle.rv_decode.specs.declared.operations.StoreOp.{StoreOp}
use Rattle.rv_decode.specs.declared.operations.StoreOp.TheVariants.{Sb, Sh, Sw}
use Rattle.rv_decode.specs.declared.operations.ImmOp.{ImmOp}
use Rattle.rv_decode.specs.declared.operations.ImmOp.TheVariants.{Addi, Slti, Sltiu, Xori, Ori, Andi, Slli, Srli, Srai}
use Rattle.rv_decode.specs.declared.operations.RegOp.{RegOp}
use Rattle.rv_decode.specs.declared.operations.RegOp.TheVariants.{Add, Sll, Slt, Sltu, Xor, Srl, Or, And, Sub, Sra, Mul, Mulh, Mulhsu, Mulhu, Div, Divu, Rem, Remu}
use Rattle.rv_decode.specs.declared.operations.FenceOp.{FenceOp}
use Rattle.rv_decode.specs.declared.operations.FenceOp.TheVariants as ordering
use Rattle.rv_decode.specs.declared.operations.AtomicOp.{AtomicOp}
use Rattle.rv_decode.specs.declared.operations.AtomicOp.TheVariants as amo
use Rattle.rv_decode.specs.declared.operations.CsrOp.{CsrOp}
use Rattle.rv_decode.specs.declared.operations.CsrOp.TheVariants.{Csrrw, Csrrs, Csrrc, Csrrwi, Csrrsi, Csrrci}
use Rattle.rv_decode.specs.Fields.{opcode_of, rd_of, funct3_of, rs1_of, rs2_of, funct7_of, funct5_of, funct12_of, order_of, immediate_i, immediate_s, immediate_b, immediate_u, immediate_j}

-- the fields that a row may fix beside the opcode
pub data Field : Type 0 where
  Rd : Field
  Funct3 : Field
  Rs1 : Field
  Rs2 : Field
  Funct7 : Field
  Funct5 : Field
  Funct12 : Field

abbrev pub field_of : Field → ℕ → ℕ
field_of Rd word = rd_of word
field_of Funct3 word = funct3_of word
field_of Rs1 word = rs1_of word
field_of Rs2 word = rs2_of word
field_of Funct7 word = funct7_of word
field_of Funct5 word = funct5_of word
field_of Funct12 word = funct12_of word

-- a field and the value that it must have
pub record Fixed : Type 0 where
  pub field : Field
  pub value : ℕ

pub record Row : Type 0 where
  pub opcode : ℕ
  pub fixed : List Fixed
  pub reads : ℕ → Instr

abbrev pub meets_field : Fixed → ℕ → Bool
meets_field f word = field_of f.field word == f.value

-- the word has the row's opcode and its fixed fields
abbrev pub meets : Row → ℕ → Bool
meets row word = opcode_of word == row.opcode && list_all (λ f. meets_field f word) row.fixed

-- what the first row that the word meets reads, or none
abbrev pub read_by : List Row → ℕ → Option Instr
read_by [] word = None
read_by (row ∷ others) word = if meets row word then Some (row.reads word) else read_by others word

-- how a row is written
abbrev pub row : ℕ → List Fixed → (ℕ → Instr) → Row
row opcode fixed reads = record { opcode = opcode; fixed = fixed; reads = reads }

abbrev pub is : Field → ℕ → Fixed
is field value = record { field = field; value = value }

-- opcode and funct3; opcode, funct3 and funct7
abbrev pub row3 : ℕ → ℕ → (ℕ → Instr) → Row
row3 opcode funct3 reads = row opcode (is Funct3 funct3 ∷ []) reads

abbrev pub row37 : ℕ → ℕ → ℕ → (ℕ → Instr) → Row
row37 opcode funct3 funct7 reads = row opcode (is Funct3 funct3 ∷ is Funct7 funct7 ∷ []) reads

-- what the words of each kind of row read
abbrev pub lui : ℕ → Instr
lui word = Lui (rd_of word) (immediate_u word)

abbrev pub auipc : ℕ → Instr
auipc word = Auipc (rd_of word) (immediate_u word)

abbrev pub jal : ℕ → Instr
jal word = Jal (rd_of word) (immediate_j word)

abbrev pub jalr : ℕ → Instr
jalr word = Jalr (rd_of word) (rs1_of word) (immediate_i word)

abbrev pub branch : BranchOp → ℕ → Instr
branch op word = Branch op (rs1_of word) (rs2_of word) (immediate_b word)

abbrev pub load : LoadOp → ℕ → Instr
load op word = Load op (rd_of word) (rs1_of word) (immediate_i word)

abbrev pub store : StoreOp → ℕ → Instr
store op word = Store op (rs1_of word) (rs2_of word) (immediate_s word)

abbrev pub immediate : ImmOp → ℕ → Instr
immediate op word = OpImm op (rd_of word) (rs1_of word) (immediate_i word)

abbrev pub shift : ImmOp → ℕ → Instr
shift op word = OpImm op (rd_of word) (rs1_of word) (pos (rs2_of word))

abbrev pub register : RegOp → ℕ → Instr
register op word = Op op (rd_of word) (rs1_of word) (rs2_of word)

abbrev pub fence : FenceOp → ℕ → Instr
fence op word = Fence op (rd_of word) (rs1_of word) (immediate_i word)

abbrev pub atomic : AtomicOp → ℕ → Instr
atomic op word = Atomic op (rd_of word) (rs1_of word) (rs2_of word) (order_of word)

abbrev pub csr : CsrOp → ℕ → Instr
csr op word = Csr op (rd_of word) (rs1_of word) (funct12_of word)

abbrev pub uppers : List Row
uppers = row 0x37 [] lui ∷ row 0x17 [] auipc ∷ []

abbrev pub jals : List Row
jals = row 0x6f [] jal ∷ []

abbrev pub jalrs : List Row
jalrs = row3 0x67 0 jalr ∷ []

abbrev pub branches : List Row
branches =
    row3 0x63 0 (branch Beq)
    ∷ row3 0x63 1 (branch Bne)
    ∷ row3 0x63 4 (branch Blt)
    ∷ row3 0x63 5 (branch Bge)
    ∷ row3 0x63 6 (branch Bltu)
    ∷ row3 0x63 7 (branch Bgeu)
    ∷ []

abbrev pub loads : List Row
loads =
    row3 0x03 0 (load Lb)
    ∷ row3 0x03 1 (load Lh)
    ∷ row3 0x03 2 (load Lw)
    ∷ row3 0x03 4 (load Lbu)
    ∷ row3 0x03 5 (load Lhu)
    ∷ []

abbrev pub stores : List Row
stores = row3 0x23 0 (store Sb) ∷ row3 0x23 1 (store Sh) ∷ row3 0x23 2 (store Sw) ∷ []

abbrev pub immediates : List Row
immediates =
    row3 0x13 0 (immediate Addi)
    ∷ row3 0x13 2 (immediate Slti)
    ∷ row3 0x13 3 (immediate Sltiu)
    ∷ row3 0x13 4 (immediate Xori)
    ∷ row3 0x13 6 (immediate Ori)
    ∷ row3 0x13 7 (immediate Andi)
    ∷ row37 0x13 1 0x00 (shift Slli)
    ∷ row37 0x13 5 0x00 (shift Srli)
    ∷ row37 0x13 5 0x20 (shift Srai)
    ∷ []

abbrev pub registers : List Row
registers =
    row37 0x33 0 0x00 (register Add)
    ∷ row37 0x33 0 0x20 (register Sub)
    ∷ row37 0x33 1 0x00 (register Sll)
    ∷ row37 0x33 2 0x00 (register Slt)
    ∷ row37 0x33 3 0x00 (register Sltu)
    ∷ row37 0x33 4 0x00 (register Xor)
    ∷ row37 0x33 5 0x00 (register Srl)
    ∷ row37 0x33 5 0x20 (register Sra)
    ∷ row37 0x33 6 0x00 (register Or)
    ∷ row37 0x33 7 0x00 (register And)
    ∷ row37 0x33 0 0x01 (register Mul)
    ∷ row37 0x33 1 0x01 (register Mulh)
    ∷ row37 0x33 2 0x01 (register Mulhsu)
    ∷ row37 0x33 3 0x01 (register Mulhu)
    ∷ row37 0x33 4 0x01 (register Div)
    ∷ row37 0x33 5 0x01 (register Divu)
    ∷ row37 0x33 6 0x01 (register Rem)
    ∷ row37 0x33 7 0x01 (register Remu)
    ∷ []

abbrev pub fences : List Row
fences = row3 0x0f 0 (fence ordering.Fence) ∷ row3 0x0f 1 (fence ordering.FenceI) ∷ []

abbrev pub row_atomic : ℕ → AtomicOp → Row
row_atomic funct5 op = row 0x2f (is Funct3 2 ∷ is Funct5 funct5 ∷ []) (atomic op)

abbrev pub atomics : List Row
atomics =
    row 0x2f (is Funct3 2 ∷ is Funct5 0x02 ∷ is Rs2 0 ∷ []) (atomic amo.Lr)
    ∷ row_atomic 0x03 amo.Sc
    ∷ row_atomic 0x01 amo.Swap
    ∷ row_atomic 0x00 amo.Add
    ∷ row_atomic 0x04 amo.Xor
    ∷ row_atomic 0x0c amo.And
    ∷ row_atomic 0x08 amo.Or
    ∷ row_atomic 0x10 amo.Min
    ∷ row_atomic 0x14 amo.Max
    ∷ row_atomic 0x18 amo.Minu
    ∷ row_atomic 0x1c amo.Maxu
    ∷ []

abbrev pub csrs : List Row
csrs =
    row3 0x73 1 (csr Csrrw)
    ∷ row3 0x73 2 (csr Csrrs)
    ∷ row3 0x73 3 (csr Csrrc)
    ∷ row3 0x73 5 (csr Csrrwi)
    ∷ row3 0x73 6 (csr Csrrsi)
    ∷ row3 0x73 7 (csr Csrrci)
    ∷ []

-- an instruction without operands: only its upper twelve bits tell it apart
abbrev pub row_bare : ℕ → Instr → Row
row_bare funct12 instr =
    row 0x73 (is Funct3 0 ∷ is Rd 0 ∷ is Rs1 0 ∷ is Funct12 funct12 ∷ []) (λ word. instr)

abbrev pub bares : List Row
bares = row_bare 0x000 Ecall ∷ row_bare 0x001 Ebreak ∷ row_bare 0x302 Mret ∷ row_bare 0x105 Wfi ∷ []

unfoldable pub rows : List Row
rows =
    uppers ++ jals ++ jalrs ++ branches ++ loads ++ stores ++ immediates ++ registers ++ fences
    ++ atomics ++ csrs ++ bares

-- the instruction that a word spells, if it meets a row
unfoldable pub instruction : ℕ → Option Instr
instruction word = read_by rows word
