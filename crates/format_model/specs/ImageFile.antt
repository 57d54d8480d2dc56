-- Which bytes give which image for a RAM of a size, or the first fault in its order. (ELF32 little-endian; the places of
-- the fields are those of the file layout.)
use Rattle.std.specs.Prelude.{◌≡◌, ℕ, zero, suc, ◌+◌, ◌*◌, ◌%◌, ◌≤◌, Bool, false, not, ◌&&◌, ◌||◌, ◌==◌, nat_lt, nat_le, if◌then◌else◌, List, [], ◌∷◌, ◌++◌, length, map, take, drop, slice_index, Option, Some, None, Result, Ok, Err}
use Rattle.std.specs.Int.{w32, from_le_bytes}
use Rattle.std.specs.List.{AllByRecursion}
use Rattle.memory_map.specs.declared.TheConstants.{GRAIN}
use Rattle.memory_map.specs.Ram.{in_ram, InRam}
use Rattle.machine_model.specs.Image.{Segment, Image, IsLoadable, flat_image}
use Rattle.format_model.specs.Then.{◌>>=◌}

-- why a file gives no image
pub data Fault : Type 0 where
  Short : (need : ℕ) → Fault
  NotThis : (field : ℕ) → Fault
  BadTable : Fault
  SegmentShape : (index : ℕ) → Fault
  SegmentOutside : (index : ℕ) → Fault
  Overlap : (first : ℕ) (second : ℕ) → Fault
  NoSegment : Fault
  EntryOutside : Fault

-- a field of so many bytes at a place
abbrev pub field_at : List ℕ → ℕ → ℕ → ℕ
field_at file at width = from_le_bytes w32 (take width (drop at file))

-- the file begins as one with a header does
abbrev pub is_elf : List ℕ → Bool
is_elf file =
    nat_le 4 (length file)
    && (slice_index file 0 == 127
    && (slice_index file 1 == 69 && (slice_index file 2 == 76 && slice_index file 3 == 70)))

-- the fields that have one value alone: 32 bits, little-endian, version 1; an executable file, for RISC-V
unfoldable pub kind_in : List ℕ → Result (Unit {0}) Fault
kind_in file =
    if not (field_at file 4 1 == 1) then Err (NotThis 4)
    else if not (field_at file 5 1 == 1) then Err (NotThis 5)
    else if not (field_at file 6 1 == 1) then Err (NotThis 6)
    else if not (field_at file 16 2 == 2) then Err (NotThis 16)
    else if not (field_at file 18 2 == 243) then Err (NotThis 18)
    else Ok tt

-- the table of program headers, of 32 bytes each: where it starts, and how many there are
pub record Table : Type 0 where
  pub start : ℕ
  pub count : ℕ

unfoldable pub table_in : List ℕ → Result Table Fault
table_in file =
    if field_at file 44 2 == 0 then Err NoSegment
    else if nat_lt 64 (field_at file 44 2) || not (field_at file 42 2 == 32) then Err BadTable
    else if nat_lt (length file) (field_at file 28 4 + 32 * field_at file 44 2)
    then Err (Short (field_at file 28 4 + 32 * field_at file 44 2))
    else Ok (record { start = field_at file 28 4; count = field_at file 44 2 })

-- a segment that is loaded, and the number of its header
pub record Load : Type 0 where
  pub index : ℕ
  pub segment : Segment

-- the segment of a header at a place: its bytes stand at the offset, at 4; the address is at 12, the bytes in the file at
-- 16, those in RAM at 20, and the flags at 24, of which bit 0 makes it executable
abbrev pub segment_at : List ℕ → ℕ → Segment
segment_at file at =
    record { address = field_at file (at + 12) 4; bytes = take (field_at file (at + 16) 4) (drop (field_at file (at + 4) 4) file); size = field_at file (at + 20) 4; executable = field_at file (at + 24) 4 % 2 == 1 }

-- what a header at a place loads: nothing where its type is not 1 or it has no bytes in RAM
unfoldable pub load_at : List ℕ → ℕ → ℕ → ℕ → Result (List Load) Fault
load_at file size at index =
    if not (field_at file at 4 == 1) || field_at file (at + 20) 4 == 0 then Ok []
    else if nat_lt (field_at file (at + 20) 4) (field_at file (at + 16) 4)
    then Err (SegmentShape index)
    else if nat_lt (length file) (field_at file (at + 4) 4 + field_at file (at + 16) 4)
    then Err (Short (field_at file (at + 4) 4 + field_at file (at + 16) 4))
    else if not (in_ram size (field_at file (at + 12) 4) (field_at file (at + 20) 4))
    then Err (SegmentOutside index)
    else Ok (record { index = index; segment = segment_at file at } ∷ [])

-- these loads, and those that are read after them
abbrev pub with_front : List Load → Result (List Load) Fault → Result (List Load) Fault
with_front front read = read >>= λ more. Ok (front ++ more)

-- what so many headers load, of which the first has this number
unfoldable pub loads_at : ℕ → List ℕ → ℕ → ℕ → ℕ → Result (List Load) Fault
loads_at zero file size start index = Ok []
loads_at (suc count) file size start index = do
  here ← load_at file size (start + 32 * index) index
  with_front here (loads_at count file size start (index + 1))

-- two segments share an address
abbrev pub share : Segment → Segment → Bool
share one other =
    nat_lt one.address (other.address + other.size) && nat_lt other.address (one.address + one.size)

-- the number of the first of these that shares an address with a segment
abbrev pub first_shared : Segment → List Load → Option ℕ
first_shared segment [] = None
first_shared segment (load ∷ loads) =
    if share load.segment segment then Some load.index else first_shared segment loads

-- a clash of two segments, or what comes later
abbrev pub clash : Option ℕ → ℕ → Result (Unit {0}) Fault → Result (Unit {0}) Fault
clash None second later = later
clash (Some first) second later = Err (Overlap first second)

-- the first segment that shares an address with one before it, and the first of those
unfoldable pub overlap_after : List Load → List Load → Result (Unit {0}) Fault
overlap_after before [] = Ok tt
overlap_after before (load ∷ loads) =
    clash (first_shared load.segment before) load.index (overlap_after (before ++ load ∷ []) loads)

-- the image of loads that are apart
unfoldable pub image_at : List ℕ → ℕ → List Load → Result Image Fault
image_at file size loads =
    if length loads == 0 then Err NoSegment
    else if not (in_ram size (field_at file 24 4) 1 && field_at file 24 4 % GRAIN == 0)
    then Err EntryOutside
    else Ok (record { entry = field_at file 24 4; segments = map (λ load. load.segment) loads })

-- the image of a file with a header, for a RAM of so many bytes
unfoldable pub elf_in : ℕ → List ℕ → Result Image Fault
elf_in size file =
    if nat_lt (length file) 52 then Err (Short 52)
    else (kind_in file >>= λ kind. table_in file >>= λ table. loads_at table.count file size table.start 0 >>= λ loads. overlap_after [] loads >>= λ apart. image_at file size loads)

-- of any file, for a RAM of so many KiB; one without a header is one segment
unfoldable pub image_in : ℕ → List ℕ → Result Image Fault
image_in ram_kib file =
    if is_elf file then elf_in (1024 * ram_kib) file
    else if nat_lt (1024 * ram_kib) (length file) then Err (SegmentOutside 0)
    else Ok (flat_image file)

-- a segment stands in a RAM of this many bytes, with the bytes that the file gives for it
pub record SegmentFits (size : ℕ) (segment : Segment) : Type 0 where
  pub within : InRam size segment.address segment.size
  pub given : length segment.bytes ≤ segment.size

-- no segment shares an address with one before it
abbrev pub ApartAfter : List Segment → List Segment → Type 0
ApartAfter before [] = Unit {0}
ApartAfter before (segment ∷ segments) =
    AllByRecursion (λ other. share other segment ≡ false) before
    × ApartAfter (before ++ segment ∷ []) segments

-- an image fits a RAM of this many bytes: its segments stand there, apart, and it starts there, where an instruction can begin
pub record ImageFits (size : ℕ) (image : Image) : Type 0 where
  pub segments : AllByRecursion (SegmentFits size) image.segments
  pub apart : ApartAfter [] image.segments
  pub loadable : IsLoadable size image.segments
  pub entry : InRam size image.entry 1
  pub aligned : image.entry % GRAIN ≡ 0
