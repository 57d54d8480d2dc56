-- What a guest's file gives: where it starts, and the bytes that are put into RAM.
use Rattle.std.specs.Prelude.{ℕ, ◌*◌, Bool, true, List, [], ◌∷◌, length, replicate}
use Rattle.memory_map.specs.Ram.{InRam}
use Rattle.memory_map.specs.declared.TheConstants.{RAM_START}
use Rattle.rv_memory.specs.Ram.{filled}

-- one range of addresses; the bytes of it that the file gives, the rest being zero
pub record Segment : Type 0 where
  pub address : ℕ
  pub bytes : List ℕ
  pub size : ℕ
  pub executable : Bool

-- where the guest starts, and its segments, in the order of their headers
pub record Image : Type 0 where
  pub entry : ℕ
  pub segments : List Segment

-- a file without a header: one executable segment at the start of RAM, where the guest starts too
abbrev pub flat_image : List ℕ → Image
flat_image file = record { entry = RAM_START; segments = record { address = RAM_START; bytes = file; size = length file; executable = true } ∷ [] }

-- the RAM with the segments' bytes
abbrev pub ram_with : List Segment → List ℕ → List ℕ
ram_with [] ram = ram
ram_with (segment ∷ segments) ram = ram_with segments (filled ram segment.address segment.bytes)

-- the bytes that the file gives for each segment stand in a RAM of this many bytes
abbrev pub IsLoadable : ℕ → List Segment → Type 0
IsLoadable size [] = Unit {0}
IsLoadable size (segment ∷ segments) =
    InRam size segment.address (length segment.bytes) × IsLoadable size segments

-- RAM as the guest finds it: zero but for the image
unfoldable pub ram_at_start : Image → ℕ → List ℕ
ram_at_start image ram_kib = ram_with image.segments (replicate (1024 * ram_kib) 0)
