-- The registers by their addresses: what each reads, and what a write keeps. (Privileged manual, 2.2 and 3.1.)
use Rattle.std.specs.Prelude.{ℕ, ◌+◌, ◌-◌, ◌*◌, ◌/◌, ◌%◌, ◌^◌, Bool, true, ◌&&◌, ◌==◌, nat_le, List, [], ◌∷◌, ◌++◌, Option, None, Some, if◌then◌else◌}
use Rattle.memory_map.specs.declared.TheConstants.{GRAIN}
use Rattle.memory_map.specs.Halves.{high_half, low_half, with_high, with_low}
use Rattle.rv_csr.specs.declared.csrs.Csrs.{Csrs}

-- a bit of a word, and a flag in its place
abbrev pub has_bit : ℕ → ℕ → Bool
has_bit bit word = word / 2 ^ bit % 2 == 1

abbrev pub bit_if : ℕ → Bool → ℕ
bit_if bit flag = if flag then 2 ^ bit else 0

-- the multiple of this size at or below a word
abbrev pub down_to : ℕ → ℕ → ℕ
down_to size word = word - word % size

-- one address, or all from the first to the last one
pub data Place : Type 0 where
  At : (address : ℕ) → Place
  Range : (first last : ℕ) → Place

-- the address is one of the place
abbrev pub lies : ℕ → Place → Bool
lies address (At place) = address == place
lies address (Range first last) = nat_le first address && nat_le address last

-- what the registers of a place read, given the interrupt lines, and what a write of a value keeps
pub record Row : Type 0 where
  pub place : Place
  pub reads : Csrs → ℕ → ℕ
  pub keeps : Csrs → ℕ → Csrs

-- how a row is written: one register; registers that read 0, and of which a write changes nothing
abbrev pub row : ℕ → (Csrs → ℕ → ℕ) → (Csrs → ℕ → Csrs) → Row
row address reads keeps = record { place = At address; reads = reads; keeps = keeps }

abbrev pub zeros : ℕ → ℕ → Row
zeros first last = record { place = Range first last; reads = λ c lines. 0; keeps = λ c value. c }

-- mstatus: bit 3 is MIE, bit 7 MPIE, and bits 12:11, MPP, read 3
abbrev pub mstatus : Csrs → ℕ
mstatus c = 0x1800 + bit_if 7 c.interrupts_before + bit_if 3 c.interrupts

abbrev pub with_mstatus : Csrs → ℕ → Csrs
with_mstatus c value = record c { interrupts = has_bit 3 value; interrupts_before = has_bit 7 value }

-- mie: bit 7 is the timer's, bit 11 the external interrupt's
abbrev pub mie : Csrs → ℕ
mie c = bit_if 11 c.external_enabled + bit_if 7 c.timer_enabled

abbrev pub with_mie : Csrs → ℕ → Csrs
with_mie c value = record c { timer_enabled = has_bit 7 value; external_enabled = has_bit 11 value }

-- the interrupt lines: bit 0 is the timer's, bit 1 the external one
abbrev pub timer_line : ℕ → Bool
timer_line lines = has_bit 0 lines

abbrev pub external_line : ℕ → Bool
external_line lines = has_bit 1 lines

-- mip: the lines, at the places of mie's bits
abbrev pub mip : ℕ → ℕ
mip lines = bit_if 11 (external_line lines) + bit_if 7 (timer_line lines)

-- machine mode's status, traps and interrupts. misa tells of RV32IMA.
abbrev pub status_rows : List Row
status_rows =
    row 0x300 (λ c lines. mstatus c) with_mstatus
    ∷ row 0x301 (λ c lines. 0x40001101) (λ c value. c)
    ∷ row 0x304 (λ c lines. mie c) with_mie
    ∷ row 0x305 (λ c lines. c.mtvec) (λ c value. record c { mtvec = value - value / 2 % 2 * 2 })
    ∷ zeros 0x310 0x310
    ∷ row 0x340 (λ c lines. c.mscratch) (λ c value. record c { mscratch = value })
    ∷ row 0x341 (λ c lines. c.mepc) (λ c value. record c { mepc = down_to GRAIN value })
    ∷ row 0x342 (λ c lines. c.mcause) (λ c value. record c { mcause = value })
    ∷ row 0x343 (λ c lines. c.mtval) (λ c value. record c { mtval = value })
    ∷ row 0x344 (λ c lines. mip lines) (λ c value. c)
    ∷ []

-- a counter that was written, which does not rise when the step ends
abbrev pub with_mcycle : Csrs → ℕ → Csrs
with_mcycle c counter = record c { mcycle = counter; mcycle_written = true }

abbrev pub with_minstret : Csrs → ℕ → Csrs
with_minstret c counter = record c { minstret = counter; minstret_written = true }

-- the counters of steps and of retired instructions, in halves
abbrev pub counter_rows : List Row
counter_rows =
    row 0xb00 (λ c lines. low_half c.mcycle) (λ c value. with_mcycle c (with_low c.mcycle value))
    ∷ row 0xb02 (λ c lines. low_half c.minstret) (λ c value. with_minstret c (with_low c.minstret value))
    ∷ row 0xb80 (λ c lines. high_half c.mcycle) (λ c value. with_mcycle c (with_high c.mcycle value))
    ∷ row 0xb82 (λ c lines. high_half c.minstret) (λ c value. with_minstret c (with_high c.minstret value))
    ∷ []

-- the counters of performance and what chooses their events: mcountinhibit, mhpmevent3 to 31, mhpmcounter3 to 31 and
-- their upper halves. None is built.
abbrev pub performance_rows : List Row
performance_rows = zeros 0x320 0x320 ∷ zeros 0x323 0x33f ∷ zeros 0xb03 0xb1f ∷ zeros 0xb83 0xb9f ∷ []

-- memory protection: pmpcfg0 to 15 and pmpaddr0 to 63. None is built.
abbrev pub protection_rows : List Row
protection_rows = zeros 0x3a0 0x3af ∷ zeros 0x3b0 0x3ef ∷ []

-- who made the machine: mvendorid, marchid, mimpid, mhartid and mconfigptr
abbrev pub identity_rows : List Row
identity_rows = zeros 0xf11 0xf15 ∷ []

unfoldable pub rows : List Row
rows = status_rows ++ counter_rows ++ performance_rows ++ protection_rows ++ identity_rows

-- where bits 11:10 of the address are 11, no write is allowed. (Privileged manual, 2.1.)
abbrev pub is_read_only : ℕ → Bool
is_read_only address = address / 2 ^ 10 % 4 == 3

-- what the first row that has the address reads, or none
abbrev pub read_by : List Row → Csrs → ℕ → ℕ → Option ℕ
read_by [] c address lines = None
read_by (row ∷ others) c address lines = if lies address row.place then Some (row.reads c lines) else read_by others c address lines

-- and the registers after a write to it
abbrev pub kept_by : List Row → Csrs → ℕ → ℕ → Option Csrs
kept_by [] c address value = None
kept_by (row ∷ others) c address value = if lies address row.place then Some (row.keeps c value) else kept_by others c address value

-- what the register of this address reads, or none where there is no such register
unfoldable pub read : Csrs → ℕ → ℕ → Option ℕ
read c address lines = read_by rows c address lines

-- the registers after a write, or none where there is no such register or it is only read
unfoldable pub written : Csrs → ℕ → ℕ → Option Csrs
written c address value = if is_read_only address then None else kept_by rows c address value
