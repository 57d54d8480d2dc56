-- Loads and stores on a list of bytes that begins at RAM's first address. (Unprivileged manual, 1.4 and 2.6: little-endian.)
use Rattle.std.specs.Prelude.{ℕ, ◌+◌, ◌-◌, List, ◌++◌, length, take, drop}
use Rattle.std.specs.Int.{w32, to_le_bytes, from_le_bytes}
use Rattle.memory_map.specs.declared.TheConstants.{RAM_START}

-- the bytes with these in the place of those from `at` on
abbrev pub placed : List ℕ → ℕ → List ℕ → List ℕ
placed bytes at piece = take at bytes ++ piece ++ drop (at + length piece) bytes

-- the value of the bytes at an address, extended by zero
abbrev pub loaded : List ℕ → ℕ → ℕ → ℕ
loaded ram address width = from_le_bytes w32 (take width (drop (address - RAM_START) ram))

-- the bytes after a store of the value's low bytes
abbrev pub stored : List ℕ → ℕ → ℕ → ℕ → List ℕ
stored ram address width value =
    placed ram (address - RAM_START) (take width (to_le_bytes w32 value))

-- the bytes after these were written from an address on
abbrev pub filled : List ℕ → ℕ → List ℕ → List ℕ
filled ram address piece = placed ram (address - RAM_START) piece
