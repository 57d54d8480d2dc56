-- What a shadow keeps of each byte of RAM, and what a paint makes of it.
use Rattle.std.specs.Prelude.{◌≡◌, ℕ, ◌+◌, ◌-◌, ◌<◌, ◌≤◌, ◌≢◌, Bool, true, nat_le, List, [], ◌∷◌, length, slice_index, if◌then◌else◌}
use Rattle.std.specs.Int.Bits.{bit_and}
use Rattle.list_laws.specs.Least.{is_between}
use Rattle.memory_map.specs.declared.TheConstants.{RAM_START}
use Rattle.memory_map.specs.Ram.{in_ram}

-- its bytes: the value of each byte of RAM, in the order of the addresses
pub record Shade : Type 0 where
  pub bytes : List ℕ

-- the value at an address, which is 0 outside RAM
abbrev pub shade : Shade → ℕ → ℕ
shade s address = if nat_le RAM_START address then slice_index s.bytes (address - RAM_START) else 0

-- the address is one of a byte of RAM
abbrev pub has_byte : Shade → ℕ → Bool
has_byte s address = in_ram (length s.bytes) address 1

-- the range [from, to) has this address
abbrev pub covers : ℕ → ℕ → ℕ → Bool
covers from to address = is_between from to address

-- of bytes from an address on, those that the range [from, to) covers have the value, and the others stay
unfoldable pub painted_from : ℕ → ℕ → ℕ → ℕ → List ℕ → List ℕ
painted_from address from to value [] = []
painted_from address from to value (byte ∷ bytes) =
    (if covers from to address then value else byte)
    ∷ painted_from (address + 1) from to value bytes

-- the bytes of RAM that the range [from, to) covers have the value, and the others stay
abbrev pub painted : Shade → ℕ → ℕ → ℕ → Shade
painted s from to value = record { bytes = painted_from RAM_START from to value s.bytes }

-- one paint: the range [from, to) gets the value
pub record Paint : Type 0 where
  pub from : ℕ
  pub to : ℕ
  pub value : ℕ

-- the value that the last paint of these, given newest first, left at an address: that of the last one that covers it,
-- and 0 where none does
abbrev pub last_paint : List Paint → ℕ → ℕ
last_paint [] address = 0
last_paint (last ∷ before) address =
    if covers last.from last.to address then last.value else last_paint before address

-- it was painted so, and no more: each byte of RAM has the value that the last paint left
abbrev pub IsPainted : Shade → List Paint → Type 0
IsPainted s paints =
    (address : ℕ) → has_byte s address ≡ true → shade s address ≡ last_paint paints address

-- the values of all addresses from one up to another have none of these bits
abbrev pub NoneBetween : Shade → ℕ → ℕ → ℕ → Type 0
NoneBetween s set from to =
    (address : ℕ) → from ≤ address → address < to → bit_and (shade s address) set ≡ 0

-- the least address of the range [from, to) whose value has one of these bits
pub record IsLeast (s : Shade) (from to set address : ℕ) : Type 0 where
  pub from_on : from ≤ address
  pub below : address < to
  pub has_one : bit_and (shade s address) set ≢ 0
  pub none_before : NoneBetween s set from address
