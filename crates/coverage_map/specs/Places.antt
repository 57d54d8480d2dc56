-- Places of marks: the word of RAM with this number, counted from 0.
use Rattle.std.specs.Prelude.{ℕ, ◌+◌, ◌*◌, Bool, List, drop}
use Rattle.memory_map.specs.declared.TheConstants.{RAM_START}
use Rattle.coverage_map.specs.Coverage.{marked_from}

-- the address of the word at a place
abbrev pub place_address : ℕ → ℕ
place_address place = RAM_START + 4 * place

-- the addresses of the marked words from this place on
abbrev pub marked_from_place : List Bool → ℕ → List ℕ
marked_from_place marks place = marked_from (place_address place) (drop place marks)
