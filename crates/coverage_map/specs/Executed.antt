-- What a reader knows of the ranges of a run.
use Rattle.std.specs.Prelude.{◌≡◌, ℕ, ◌+◌, ◌<◌, ◌≤◌, Bool, List, [], ◌∷◌}
use Rattle.std.specs.List.{filter_map, list_any}
use Rattle.list_laws.specs.Least.{is_between}
use Rattle.run_events.specs.declared.event.Event.{Event}
use Rattle.analysis_model.specs.Cover.{CodeRange, executed_pc, is_within}

-- the byte at this address is one of the word of four bytes at this pc
abbrev pub is_byte_of : ℕ → ℕ → Bool
is_byte_of address pc = is_between pc (pc + 4) address

-- some event executed an instruction with the byte at this address
abbrev pub is_executed : List Event → ℕ → Bool
is_executed events address = list_any (is_byte_of address) (filter_map executed_pc events)

-- the first range begins at this address or after it, each has a byte, and each ends below the start of the next
abbrev pub AscendFrom : ℕ → List CodeRange → Type 0
AscendFrom address [] = Unit {0}
AscendFrom address (range ∷ ranges) = (address ≤ range.from) × (range.from < range.to) × AscendFrom (range.to + 1) ranges

-- the ranges ascend, lie apart, and have exactly the executed bytes
pub record AreExecuted (ranges : List CodeRange) (events : List Event) : Type 0 where
  pub apart : AscendFrom 0 ranges
  pub exact : (address : ℕ) → is_within ranges address ≡ is_executed events address
