-- Marked input: where its marks go, and where they may not go.
use Rattle.std.specs.Prelude.{ℕ, zero, suc, ◌+◌, Bool, true, false, not, ◌&&◌, ◌==◌, nat_le, bit_or, List, [], ◌∷◌, Option, None, Some, min, if◌then◌else◌}
use Rattle.std.specs.Option.{option_map, option_or}
use Rattle.list_laws.specs.Least.{is_between}
use Rattle.run_events.specs.declared.access.Access.{Access}
use Rattle.run_events.specs.declared.access.Access.TheVariants as access
use Rattle.run_events.specs.declared.announcement.Announcement.{Announcement}
use Rattle.run_events.specs.declared.announcement.Announcement.TheVariants.{Check}
use Rattle.run_events.specs.declared.event.Event.{Event}
use Rattle.run_events.specs.declared.event.Event.TheVariants.{Dma, Irq, Trap, Exec}
use Rattle.run_events.specs.declared.finding.FindingKind.TheVariants as finding
use Rattle.run_events.specs.Announcement.{announced_by}
use Rattle.rv_decode.specs.declared.instruction.Instr.{Instr}
use Rattle.rv_decode.specs.declared.instruction.Instr.TheVariants.{Lui, Auipc, Jal, Jalr, Branch, Load, Store, OpImm, Op, Fence, Atomic, Csr, Ecall, Ebreak, Mret, Wfi}
use Rattle.rv_decode.specs.declared.operations.AtomicOp.{AtomicOp}
use Rattle.rv_decode.specs.declared.operations.AtomicOp.TheVariants.{Lr, Sc, Swap}
use Rattle.rv_decode.specs.declared.operations.CsrOp.{CsrOp}
use Rattle.rv_decode.specs.declared.operations.CsrOp.TheVariants.{Csrrw, Csrrs, Csrrc, Csrrwi, Csrrsi, Csrrci}
use Rattle.rv_decode.specs.declared.operations.RegOp.{RegOp}
use Rattle.rv_decode.specs.declared.operations.RegOp.TheVariants.{Xor, Sub}
use Rattle.rv_decode.specs.Listing.{instruction}
use Rattle.analysis_model.specs.InRam.{least_in_ram, IsByteOf}
use Rattle.analysis_model.specs.Look.{Complaint}

-- what has a mark: a register, mscratch, or a byte of RAM
pub data Place : Type 0 where
  Register : ℕ → Place
  Scratch : Place
  Byte : ℕ → Place

-- it is one of a machine with so many KiB of RAM
abbrev pub IsPlace : ℕ → Place → Type 0
IsPlace kib (Register n) = Unit {0}
IsPlace kib Scratch = Unit {0}
IsPlace kib (Byte address) = IsByteOf kib address

-- where a new mark comes from: from outside, or from the marks of these places
pub data Sources : Type 0 where
  Given : ℕ → Sources
  From : List Place → Sources

abbrev pub unmarked : Sources
unmarked = From []

abbrev pub register : ℕ → Sources
register n = From (Register n ∷ [])

-- so many bytes from an address on
abbrev pub bytes_from : ℕ → ℕ → List Place
bytes_from address zero = []
bytes_from address (suc count) = Byte address ∷ bytes_from (address + 1) count

-- What an event writes: the register rd, mscratch, and `width` bytes from an address on. Where there is no source, they
-- keep their marks.
pub record Writes : Type 0 where
  pub rd : ℕ
  pub result : Option Sources
  pub scratch : Option Sources
  pub address : ℕ
  pub width : ℕ
  pub stored : Option Sources

abbrev pub no_writes : Writes
no_writes = record { rd = 0; result = None; scratch = None; address = 0; width = 0; stored = None }

abbrev pub with_result : ℕ → Option Sources → Writes → Writes
with_result rd sources writes = record writes { rd = rd; result = sources }

abbrev pub with_bytes : ℕ → ℕ → Sources → Writes → Writes
with_bytes address width sources writes = record writes {
  address = address;
  width = width;
  stored = Some sources;
}

abbrev pub writes_result : ℕ → Sources → Writes
writes_result rd sources = with_result rd (Some sources) no_writes

-- two operands; the exclusive or of a register with itself, and the difference, are 0
abbrev pub operands : RegOp → ℕ → ℕ → Sources
operands Xor rs1 rs2 = if rs1 == rs2 then unmarked else From (Register rs1 ∷ Register rs2 ∷ [])
operands Sub rs1 rs2 = if rs1 == rs2 then unmarked else From (Register rs1 ∷ Register rs2 ∷ [])
operands _ rs1 rs2 = From (Register rs1 ∷ Register rs2 ∷ [])

-- what is loaded: the bytes of RAM, or a device's register
abbrev pub loaded : Access → Option Sources
loaded (access.Load address width value false mark) = Some (From (bytes_from address width))
loaded (access.Load address width value true mark) = Some (Given mark)
loaded _ = None

-- a store to RAM; an atomic operation stores its word
abbrev pub writes_bytes : Access → Sources → Writes
writes_bytes (access.Store address width value false) sources =
    with_bytes address width sources no_writes
writes_bytes (access.Swap address old new) sources = with_bytes address 4 sources no_writes
writes_bytes _ sources = no_writes

-- the bytes that an atomic operation reads
abbrev pub old_bytes : Access → List Place
old_bytes (access.Swap address old new) = bytes_from address 4
old_bytes _ = []

abbrev pub atomic_writes : AtomicOp → ℕ → ℕ → Access → Writes
atomic_writes Lr rd rs2 access = with_result rd (loaded access) no_writes
atomic_writes Sc rd rs2 access = with_result rd (Some unmarked) (writes_bytes access (register rs2))
atomic_writes Swap rd rs2 access =
    with_result rd (Some (From (old_bytes access))) (writes_bytes access (register rs2))
atomic_writes _ rd rs2 access =
    with_result rd (Some (From (old_bytes access)))
    (writes_bytes access (From (Register rs2 ∷ old_bytes access)))

-- mscratch; setting and clearing bits of an immediate keeps its mark, and register 0 makes it no write
abbrev pub scratch_writes : CsrOp → ℕ → Option Sources
scratch_writes Csrrw source = Some (register source)
scratch_writes Csrrs source =
    if source == 0 then None else Some (From (Scratch ∷ Register source ∷ []))
scratch_writes Csrrc source =
    if source == 0 then None else Some (From (Scratch ∷ Register source ∷ []))
scratch_writes Csrrwi source = Some unmarked
scratch_writes Csrrsi source = None
scratch_writes Csrrci source = None

-- no other CSR has a mark
abbrev pub csr_writes : CsrOp → ℕ → ℕ → ℕ → Writes
csr_writes op rd source csr =
    if csr == 0x340
    then record (writes_result rd (From (Scratch ∷ []))) { scratch = scratch_writes op source }
    else writes_result rd unmarked

-- what an instruction writes that made this access
abbrev pub writes_by : Instr → Access → Writes
writes_by (Lui rd imm) access = writes_result rd unmarked
writes_by (Auipc rd imm) access = writes_result rd unmarked
writes_by (Jal rd imm) access = writes_result rd unmarked
writes_by (Jalr rd rs1 imm) access = writes_result rd unmarked
writes_by (Branch op rs1 rs2 imm) access = no_writes
writes_by (Load op rd rs1 imm) access = with_result rd (loaded access) no_writes
writes_by (Store op rs1 rs2 imm) access = writes_bytes access (register rs2)
writes_by (OpImm op rd rs1 imm) access = writes_result rd (register rs1)
writes_by (Op op rd rs1 rs2) access = writes_result rd (operands op rs1 rs2)
writes_by (Fence op rd rs1 imm) access = no_writes
writes_by (Atomic op rd rs1 rs2 order) access = atomic_writes op rd rs2 access
writes_by (Csr op rd source csr) access = csr_writes op rd source csr
writes_by Ecall access = no_writes
writes_by Ebreak access = no_writes
writes_by Mret access = no_writes
writes_by Wfi access = no_writes

abbrev pub writes_as : Option Instr → Access → Writes
writes_as None access = no_writes
writes_as (Some instr) access = writes_by instr access

-- what an event writes
abbrev pub writes_of : Event → Writes
writes_of (Dma step address word mark) = with_bytes address 4 (Given mark) no_writes
writes_of (Irq step pc cause next) = no_writes
writes_of (Trap step pc word cause value next) = no_writes
writes_of (Exec step pc word next result access told) = writes_as (instruction word) access

-- x0 is no place
abbrev pub is_general : ℕ → Bool
is_general n = nat_le 1 n && nat_le n 31

-- where the mark of a place comes from, if it is written
abbrev pub sources_in : Writes → Place → Option Sources
sources_in writes (Register n) = if n == writes.rd && is_general n then writes.result else None
sources_in writes Scratch = writes.scratch
sources_in writes (Byte address) =
    if is_between writes.address (writes.address + writes.width) address then writes.stored
    else None

-- the mark of what is made of two values, and whether there is one
abbrev pub union : ℕ → ℕ → ℕ
union a b = bit_or a b

abbrev pub is_marked : ℕ → Bool
is_marked mark = not (mark == 0)

-- the mark of what is made of these places
abbrev pub union_of : (Place → ℕ) → List Place → ℕ
union_of marks [] = 0
union_of marks (place ∷ places) = union (marks place) (union_of marks places)

-- the mark that comes from these sources, where places have these marks
abbrev pub mark_of : (Place → ℕ) → Sources → ℕ
mark_of marks (Given mark) = mark
mark_of marks (From places) = union_of marks places

-- and that of a place that is written from them, or not at all
abbrev pub mark_or : (Place → ℕ) → Option Sources → Place → ℕ
mark_or marks None place = marks place
mark_or marks (Some sources) place = mark_of marks sources

-- The mark of a place after these events, the newest first: the last event that wrote it is asked where it came from, and
-- those places for their marks before it. At first nothing is marked.
abbrev pub mark_after : List Event → Place → ℕ
mark_after [] place = 0
mark_after (last ∷ before) place =
    mark_or (mark_after before) (sources_in (writes_of last) place) place

abbrev pub bad_jump : ℕ → Complaint
bad_jump next = record { kind = finding.Jump; address = next }

-- a jump to a marked address
abbrev pub is_marked_jump : (Place → ℕ) → Option Instr → Bool
is_marked_jump marks (Some (Jalr rd rs1 imm)) = is_marked (marks (Register rs1))
is_marked_jump marks _ = false

abbrev pub jump : (Place → ℕ) → Option Instr → ℕ → Option Complaint
jump marks instr next = if is_marked_jump marks instr then Some (bad_jump next) else None

abbrev pub leaked : ℕ → Complaint
leaked address = record { kind = finding.Leak; address = address }

-- of a range that must be unmarked so many bytes are looked at
unfoldable pub most_checked : ℕ
most_checked = 4096

-- the least marked byte of RAM in such a range
abbrev pub leak : ℕ → (Place → ℕ) → Option Announcement → Option Complaint
leak kib marks (Some (Check start size)) = option_map leaked (least_in_ram kib (λ address. is_marked (marks (Byte address))) start (start + min size most_checked))
leak kib marks _ = None

-- what there is to complain of an event, where places have these marks before it
abbrev pub taint_by : ℕ → (Place → ℕ) → Event → Option Complaint
taint_by kib marks (Exec step pc word next result access told) =
    option_or (jump marks (instruction word) next) (leak kib marks (announced_by word told))
taint_by kib marks _ = None

-- of a RAM of so many KiB: a jump to a marked address, and a marked byte where all must be unmarked
abbrev pub taint : ℕ → List Event → Event → Option Complaint
taint kib before event = taint_by kib (mark_after before) event
