-- The numbers of a hart that a replay counts by.
use Rattle.std.specs.Prelude.{ℕ, length}
use Rattle.hart_model.specs.State.{State}

-- the steps that it has done, and the bytes of its RAM
abbrev pub steps_of : State → ℕ
steps_of s = s.step

abbrev pub ram_bytes : State → ℕ
ram_bytes s = length s.ram
