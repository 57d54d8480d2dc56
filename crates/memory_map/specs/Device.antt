-- Which addresses are device registers.
use Rattle.std.specs.Prelude.{ℕ, Bool, ◌==◌, List, [], ◌∷◌}
use Rattle.std.specs.List.{list_any}
use Rattle.memory_map.specs.declared.TheConstants.{MTIMECMP_LOW, MTIMECMP_HIGH, MTIME_LOW, MTIME_HIGH, SERIAL_DATA, SERIAL_STATUS, SERIAL_CTRL, DISK_SECTOR, DISK_ADDR, DISK_CMD, DISK_STATUS, DISK_CTRL, DISK_COUNT, POWER}

-- the address of the first byte of each
abbrev pub registers : List ℕ
registers =
    MTIMECMP_LOW
    ∷ MTIMECMP_HIGH
    ∷ MTIME_LOW
    ∷ MTIME_HIGH
    ∷ SERIAL_DATA
    ∷ SERIAL_STATUS
    ∷ SERIAL_CTRL
    ∷ DISK_SECTOR
    ∷ DISK_ADDR
    ∷ DISK_CMD
    ∷ DISK_STATUS
    ∷ DISK_CTRL
    ∷ DISK_COUNT
    ∷ POWER
    ∷ []

-- a device register begins at this address. A device is accessed at no other address.
unfoldable pub is_device : ℕ → Bool
is_device address = list_any (λ register. address == register) registers
