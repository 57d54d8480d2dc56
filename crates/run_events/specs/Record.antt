-- Which records there are, and in which order they may stand.
use Rattle.memory_map.specs.declared.TheConstants.{MOST_STEPS}
use Rattle.std.specs.Prelude.{◌≡◌, ℕ, ◌+◌, ◌≤◌, Bool, true, false, not, ◌&&◌, ◌||◌, ◌==◌, nat_lt, List, [], ◌∷◌, reverse, Option, None, Some, if◌then◌else◌}
use Rattle.run_events.specs.declared.record.Record.{Record}
use Rattle.run_events.specs.declared.record.Record.TheVariants.{Load, Lines, Dma, Reach, End}

-- the number of a record
abbrev pub number : Record → ℕ
number (Load step value mark) = step
number (Lines step bits) = step
number (Dma step address word mark) = step
number (Reach step) = step
number (End step cause) = step

-- the largest number of a record
abbrev pub IsNumber : ℕ → Type 0
IsNumber step = step ≤ MOST_STEPS

-- 0 is unmarked
abbrev pub IsMark : ℕ → Type 0
IsMark mark = mark ≤ 1

-- the record's number, its lines and its mark are in range
abbrev pub IsRecord : Record → Type 0
IsRecord (Load step value mark) = IsNumber step × IsMark mark
IsRecord (Lines step bits) = IsNumber step × (bits ≤ 3)
IsRecord (Dma step address word mark) = IsNumber step × IsMark mark
IsRecord (Reach step) = IsNumber step
IsRecord (End step cause) = IsNumber step

-- records of one number stand by their ranks
abbrev pub rank : Record → ℕ
rank (Reach step) = 0
rank (Dma step address word mark) = 1
rank (Lines step bits) = 2
rank (Load step value mark) = 3
rank (End step cause) = 4

-- a word of the disk, and the end, by their ranks
abbrev pub is_dma : Record → Bool
is_dma record' = rank record' == 1

abbrev pub is_end : Record → Bool
is_end record' = rank record' == 4

-- how many words of the disk have this number
abbrev pub dmas_at : ℕ → List Record → ℕ
dmas_at step [] = 0
dmas_at step (item ∷ items) =
    if is_dma item && number item == step then dmas_at step items + 1 else dmas_at step items

-- A record may stand after these, of which the last is given first: nothing stands after an end; the number does not
-- fall; among records of one number the rank rises, but for at most 128 words of the disk.
abbrev pub is_admitted : List Record → Record → Bool
is_admitted [] item = true
is_admitted (last ∷ before) item =
    not (is_end last)
    && (nat_lt (number last) (number item)
    || (number last == number item && (nat_lt (rank last) (rank item)
    || (is_dma last && (is_dma item && nat_lt (dmas_at (number item) (last ∷ before)) 128)))))

-- each record, read from the last one back, is admitted after those before it
abbrev pub is_ordered_back : List Record → Bool
is_ordered_back [] = true
is_ordered_back (last ∷ before) = is_admitted before last && is_ordered_back before

-- and read in order
abbrev pub is_ordered : List Record → Bool
is_ordered items = is_ordered_back (reverse items)

-- the last of some records, which is given first
abbrev pub newest : List Record → Option Record
newest [] = None
newest (last ∷ before) = Some last

-- how many words of the disk have the last record's number, where it is one; it is given first
abbrev pub newest_dmas : List Record → ℕ
newest_dmas [] = 0
newest_dmas (last ∷ before) = if is_dma last then dmas_at (number last) (last ∷ before) else 0

-- a record is a word of the disk, as the last one is, and has its number
abbrev pub is_next_dma : Option Record → Record → Bool
is_next_dma None item = false
is_next_dma (Some last) item = is_dma last && (is_dma item && number last == number item)

-- how far a list of records comes: the number of its last one
abbrev pub reach_back : List Record → ℕ
reach_back [] = 0
reach_back (last ∷ before) = number last

-- and of a list in order
abbrev pub reach : List Record → ℕ
reach items = reach_back (reverse items)

-- whether a record may follow the last one, of which so many words of the disk have the number
abbrev pub TellsFollow : Record → ℕ → Record → Bool → Type 0
TellsFollow last words item told =
    (before : List Record) → words ≡ newest_dmas (last ∷ before)
    → told ≡ is_admitted (last ∷ before) item

-- how many words of the disk have the number of a record that is admitted after the last one, with it
abbrev pub CountsDmas : Option Record → ℕ → Record → ℕ → Type 0
CountsDmas last words item count =
    (before : List Record) → is_ordered_back before ≡ true → last ≡ newest before
    → words ≡ newest_dmas before → is_admitted before item ≡ true
    → count ≡ newest_dmas (item ∷ before)
