-- What stands at the pc. (Unprivileged manual, 1.5.)
use Rattle.std.specs.Prelude.{ℕ, List, length, Option, if◌then◌else◌}
use Rattle.memory_map.specs.Ram.{in_ram}
use Rattle.rv_decode.specs.declared.instruction.Instr.{Instr}
use Rattle.rv_decode.specs.Listing.{instruction}
use Rattle.rv_memory.specs.Ram.{loaded}

-- a word, how many bytes of it are the instruction, and the instruction, if the word spells one
pub record Fetched : Type 0 where
  pub word : ℕ
  pub size : ℕ
  pub instr : Option Instr

-- what was fetched, or the first address of what is outside RAM
pub data Fetch : Type 0 where
  Found : Fetched → Fetch
  Outside : (address : ℕ) → Fetch

-- the fetch at a pc: each instruction has four bytes
abbrev pub fetched : List ℕ → ℕ → Fetch
fetched ram pc =
    if in_ram (length ram) pc 4
    then Found
    (record { word = loaded ram pc 4; size = 4; instr = instruction (loaded ram pc 4) })
    else Outside pc
