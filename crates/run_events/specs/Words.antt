-- The two words of a record.
use Rattle.std.specs.Prelude.{◌≡◌, ℕ, ◌+◌, ◌*◌, ◌/◌, ◌%◌, ◌^◌, ◌<◌, ◌==◌, Option, None, Some, if◌then◌else◌}
use Rattle.run_events.specs.declared.record.EndCause.{EndCause}
use Rattle.run_events.specs.declared.record.EndCause.TheVariants.{Power, Limit}
use Rattle.run_events.specs.declared.record.Record.{Record}
use Rattle.run_events.specs.declared.record.Record.TheVariants.{Load, Lines, Dma, Reach, End}
use Rattle.run_events.specs.Record.{IsRecord, number}

-- the number of a kind of record
abbrev pub kind : Record → ℕ
kind (Load step value mark) = 1
kind (Lines step bits) = 2
kind (Dma step address word mark) = 3
kind (Reach step) = 4
kind (End step cause) = 5

-- the mark of a record, 0 where it has none
abbrev pub mark_of : Record → ℕ
mark_of (Load step value mark) = mark
mark_of (Lines step bits) = 0
mark_of (Dma step address word mark) = mark
mark_of (Reach step) = 0
mark_of (End step cause) = 0

abbrev pub first_word : Record → ℕ
first_word item = number item + 2 ^ 32 * kind item + 2 ^ 40 * mark_of item

-- a status is a byte, and the limit is the number after the greatest one
abbrev pub cause_word : EndCause → ℕ
cause_word (Power status) = status
cause_word Limit = 256

abbrev pub second_word : Record → ℕ
second_word (Load step value mark) = value
second_word (Lines step bits) = bits
second_word (Dma step address word mark) = address + 2 ^ 32 * word
second_word (Reach step) = 0
second_word (End step cause) = cause_word cause

-- what a record's second word holds fits its place there
abbrev pub FitsCause : EndCause → Type 0
FitsCause (Power status) = status < 256
FitsCause Limit = Unit {0}

abbrev pub FitsWord : Record → Type 0
FitsWord (Load step value mark) = value < 2 ^ 32
FitsWord (Lines step bits) = Unit {0}
FitsWord (Dma step address word mark) = (address < 2 ^ 32) × (word < 2 ^ 32)
FitsWord (Reach step) = Unit {0}
FitsWord (End step cause) = FitsCause cause

-- these two words are those of a record
pub record AreWordsOf (item : Record) (first second : ℕ) : Type 0 where
  pub has : IsRecord item
  pub fits : FitsWord item
  pub first_is : first ≡ first_word item
  pub second_is : second ≡ second_word item

-- The one record that these words can be those of, by the kind that the first one gives. Each field is cut to its place.
abbrev pub cause_in : ℕ → EndCause
cause_in second = if second == 256 then Limit else Power (second % 256)

abbrev pub record_in : ℕ → ℕ → ℕ → ℕ → Option Record
record_in step kind' mark second =
    if kind' == 1 then Some (Load step (second % 2 ^ 32) mark)
    else if kind' == 2 then Some (Lines step (second % 256))
    else if kind' == 3 then Some (Dma step (second % 2 ^ 32) (second / 2 ^ 32) mark)
    else if kind' == 4 then Some (Reach step)
    else if kind' == 5 then Some (End step (cause_in second))
    else None

abbrev pub record_in_words : ℕ → ℕ → Option Record
record_in_words first second =
    record_in (first % 2 ^ 32) (first / 2 ^ 32 % 256) (first / 2 ^ 40 % 256) second
