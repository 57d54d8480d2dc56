-- The size of RAM, which no paint changes.
use Rattle.std.proofs.Common.{◌≡◌, ℕ, true, length, ap, ◌∙◌, arith}
use Rattle.std.proofs.lemmas.Bool.Decides.{nat_tests}
use Rattle.memory_map.specs.declared.TheConstants.{RAM_START}
use Rattle.memory_map.specs.Ram.{InRam, in_ram}
use Rattle.shadow_state.specs.Shade.{Shade, has_byte, painted}
use Rattle.shadow_state.proofs.PaintLaws.{length-painted_from}

pub length_painted : (old new : Shade) (from to value : ℕ) → new ≡ painted old from to value → length new.bytes ≡ length old.bytes
length_painted old new from to value is = ap (λ s. length s.bytes) is ∙ length-painted_from RAM_START from to value old.bytes

in_ram_is : (size address : ℕ) → InRam size address 1 → in_ram size address 1 ≡ true
in_ram_is size address within = grind (arith, nat_tests, within.from, within.to)

-- a byte of RAM has a value
pub has_byte_of : (s : Shade) (size address : ℕ) → length s.bytes ≡ size → InRam size address 1 → has_byte s address ≡ true
has_byte_of s size address whole within = ap (λ n. in_ram n address 1) whole ∙ in_ram_is size address within
