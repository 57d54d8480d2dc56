-- How many marks a hart holds.
use Rattle.std.specs.Prelude.{ℕ, ◌+◌, List, if◌then◌else◌}
use Rattle.std.specs.List.{count_by}
use Rattle.analysis_model.specs.Taint.{is_marked}

-- a mark counts once, and none not at all
abbrev pub weight : ℕ → ℕ
weight mark = if is_marked mark then 1 else 0

-- how many of the registers have a mark, and mscratch
abbrev pub marks_held : List ℕ → ℕ → ℕ
marks_held registers scratch = count_by is_marked registers + weight scratch
