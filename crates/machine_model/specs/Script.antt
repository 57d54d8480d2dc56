-- What a script says of a run's outside: the clock, the marked sectors of the disk, and what arrives when.
use Rattle.std.specs.Prelude.{ℕ, List, []}

-- the sectors of the disk from the first to the last one, both included
pub record Span : Type 0 where
  pub first : ℕ
  pub last : ℕ

-- what arrives: bytes on the serial line, each with this mark; so many ticks of the timer; the steps that a command of
-- the disk takes from then on
pub data What : Type 0 where
  Serial : (bytes : List ℕ) (mark : ℕ) → What
  Tick : (count : ℕ) → What
  Latency : (steps : ℕ) → What

-- it arrives before the step of this number
pub record Entry : Type 0 where
  pub at : ℕ
  pub what : What

-- the timer rises each so many steps; the sectors whose words are marked; and the entries, whose steps do not fall
pub record Script : Type 0 where
  pub clock : ℕ
  pub sectors : List Span
  pub entries : List Entry

-- the timer rises each so many steps where a script does not say
abbrev pub default_clock : ℕ
default_clock = 100

-- an empty script: nothing arrives
abbrev pub no_script : Script
no_script = record { clock = default_clock; sectors = []; entries = [] }
