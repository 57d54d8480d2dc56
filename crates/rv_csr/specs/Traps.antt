-- Traps, interrupts and the end of a step. (Privileged manual, 3.1.6, 3.1.7, 3.1.9, 3.1.10 and 3.3.2.)
use Rattle.std.specs.Prelude.{ℕ, ◌+◌, ◌*◌, ◌%◌, ◌^◌, Bool, true, false, not, ◌&&◌, Option, None, Some, if◌then◌else◌}
use Rattle.rv_csr.specs.declared.csrs.Csrs.{Csrs}
use Rattle.rv_csr.specs.Table.{has_bit, down_to, timer_line, external_line}

-- trap entry: interrupts go off and their flag is kept, and so are the pc, the cause and its value
abbrev pub entered : Csrs → (cause pc value : ℕ) → Csrs
entered c cause pc value = record c {
  interrupts = false;
  interrupts_before = c.interrupts;
  mepc = pc;
  mcause = cause;
  mtval = value;
}

-- the causes with bit 31 are interrupts
abbrev pub is_interrupt : ℕ → Bool
is_interrupt cause = has_bit 31 cause

-- where a trap goes: to the base, mtvec without its low two bits; and where the low bit is 1, an interrupt by as many
-- words past it as its number says
abbrev pub vector : Csrs → ℕ → ℕ
vector c cause =
    if has_bit 0 c.mtvec && is_interrupt cause
    then (down_to 4 c.mtvec + 4 * (cause % 2 ^ 31)) % 2 ^ 32
    else down_to 4 c.mtvec

-- MRET: interrupts are as before the trap. The pc is then mepc.
abbrev pub left : Csrs → Csrs
left c = record c { interrupts = c.interrupts_before; interrupts_before = true }

-- the cause of the interrupt that is taken now: an enabled one whose line is up, the external one before the timer's
abbrev pub pending : Csrs → ℕ → Option ℕ
pending c lines =
    if not c.interrupts then None
    else if c.external_enabled && external_line lines then Some 0x8000000b
    else if c.timer_enabled && timer_line lines then Some 0x80000007
    else None

-- a counter at the end of a step, modulo 2 ^ 64
abbrev pub risen : Bool → ℕ → ℕ
risen rises counter = if rises then (counter + 1) % 2 ^ 64 else counter

-- the end of a step: mcycle rises, and minstret where the step retired an instruction, but not where the step wrote it
abbrev pub counted : Csrs → (retired : Bool) → Csrs
counted c retired =
    record c {
      mcycle = risen (not c.mcycle_written) c.mcycle;
      minstret = risen (retired && not c.minstret_written) c.minstret;
      mcycle_written = false;
      minstret_written = false;
    }
