-- The record `InRam` and the test `in_ram` say the same.
use Rattle.std.proofs.Common.{◌≡◌, ℕ, true, arith}
use Rattle.memory_map.specs.Ram.{InRam, in_ram}

-- the test is true where the range is in RAM
pub InRam-in_ram : (size address width : ℕ) → InRam size address width → in_ram size address width ≡ true
InRam-in_ram size address width held = grind (arith, held.from, held.to)

-- the range is in RAM where the test is true
pub in_ram-InRam : (size address width : ℕ) → in_ram size address width ≡ true → InRam size address width
in_ram-InRam size address width holds = record { from = grind (arith, holds); to = grind (arith, holds) }
