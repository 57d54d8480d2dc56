-- Searches through a list of bytes, by places counted from 0.
use Rattle.std.specs.Prelude.{◌≡◌, ◌≢◌, ℕ, ◌<◌, ◌≤◌, List, slice_index}
use Rattle.std.specs.Int.Bits.{bit_and}

-- the bytes at all places from one up to another have none of these bits
abbrev pub NoPlace : List ℕ → ℕ → ℕ → ℕ → Type 0
NoPlace bytes set start end =
    (place : ℕ) → start ≤ place → place < end → bit_and (slice_index bytes place) set ≡ 0

-- the first of the places [start, end) whose byte has one of these bits
pub record IsFirstPlace (bytes : List ℕ) (start end set place : ℕ) : Type 0 where
  pub from_on : start ≤ place
  pub below : place < end
  pub has_one : bit_and (slice_index bytes place) set ≢ 0
  pub none_before : NoPlace bytes set start place
