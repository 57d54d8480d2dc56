-- What a list of records says of each step. The list is given from its last record back.
use Rattle.std.specs.Prelude.{ℕ, ◌==◌, nat_le, List, [], ◌∷◌, ◌++◌, Option, None, Some, if◌then◌else◌}
use Rattle.std.specs.Option.{option_or, unwrap_or}
use Rattle.run_events.specs.declared.record.Record.{Record}
use Rattle.run_events.specs.declared.record.Record.TheVariants.{Load, Lines, Dma, Reach, End}
use Rattle.run_events.specs.declared.supply.DmaWord.{DmaWord}
use Rattle.run_events.specs.declared.supply.Supplied.{Supplied}
use Rattle.any_machine.specs.Machine.{Input}

-- what one record tells of step k: that the lines are these from its own step on; what a device register gives at the
-- step; a word that the disk writes before the step
abbrev pub bits_told : ℕ → Record → Option ℕ
bits_told k (Lines step bits) = if nat_le step k then Some bits else None
bits_told k (Load step value mark) = None
bits_told k (Dma step address word mark) = None
bits_told k (Reach step) = None
bits_told k (End step cause) = None

abbrev pub load_told : ℕ → Record → Option Supplied
load_told k (Load step value mark) = if step == k then Some (record { value = value; mark = mark }) else None
load_told k (Lines step bits) = None
load_told k (Dma step address word mark) = None
load_told k (Reach step) = None
load_told k (End step cause) = None

abbrev pub words_told : ℕ → Record → List DmaWord
words_told k (Dma step address word mark) = if step == k then record { address = address; word = word; mark = mark } ∷ [] else []
words_told k (Load step value mark) = []
words_told k (Lines step bits) = []
words_told k (Reach step) = []
words_told k (End step cause) = []

-- the lines of the last Lines record at step k or before it, and 0 where there is none
abbrev pub lines_at : List Record → ℕ → ℕ
lines_at [] k = 0
lines_at (last ∷ before) k = unwrap_or (bits_told k last) (lines_at before k)

-- what the Load record of step k gives, if there is one
abbrev pub load_at : List Record → ℕ → Option Supplied
load_at [] k = None
load_at (last ∷ before) k = option_or (load_told k last) (load_at before k)

-- the words of the Dma records of step k, the first one first
abbrev pub words_at : List Record → ℕ → List DmaWord
words_at [] k = []
words_at (last ∷ before) k = words_at before k ++ words_told k last

-- the input of each step
abbrev pub tape_of : List Record → ℕ → Input
tape_of items k = record { words = words_at items k; lines = lines_at items k; supplied = load_at items k }
