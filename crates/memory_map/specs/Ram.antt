-- Which addresses are RAM.
use Rattle.std.specs.Prelude.{◌≡◌, ◌⊎◌, ℕ, ◌+◌, ◌≤◌, Bool, ◌&&◌, nat_le}
use Rattle.memory_map.specs.declared.TheConstants.{RAM_START}

-- the bytes [address, address + width) stand in a RAM of this many bytes, as whole numbers
pub record InRam (size address width : ℕ) : Type 0 where
  pub from : RAM_START ≤ address
  pub to : address + width ≤ RAM_START + size

-- the widths of an access, in bytes
abbrev pub IsWidth : ℕ → Type 0
IsWidth width = (width ≡ 1) ⊎ (width ≡ 2) ⊎ (width ≡ 4)

-- `InRam` as a test
abbrev pub in_ram : ℕ → ℕ → ℕ → Bool
in_ram size address width = nat_le RAM_START address && nat_le (address + width) (RAM_START + size)
