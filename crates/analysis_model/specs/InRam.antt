-- Ranges of addresses, clipped to RAM.
use Rattle.std.specs.Prelude.{ℕ, ◌+◌, ◌*◌, Bool, Option, min, max}
use Rattle.memory_map.specs.declared.TheConstants.{RAM_START}
use Rattle.memory_map.specs.Ram.{InRam}
use Rattle.list_laws.specs.Least.{least_between}

-- of a RAM of so many KiB, the least byte in [from, to) that has the property
abbrev pub least_in_ram : ℕ → (ℕ → Bool) → ℕ → ℕ → Option ℕ
least_in_ram kib test from to =
    least_between test (max from RAM_START) (min to (RAM_START + 1024 * kib))

-- the byte at this address stands there
abbrev pub IsByteOf : ℕ → ℕ → Type 0
IsByteOf kib address = InRam (1024 * kib) address 1
