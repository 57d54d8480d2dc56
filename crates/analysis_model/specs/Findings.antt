-- What is told of the findings of an analysis, which are in the order of the events.
use Rattle.std.specs.Prelude.{ℕ, ◌-◌, ◌^◌, min, List, [], ◌∷◌, length, take, Option, None, Some}
use Rattle.run_events.specs.declared.finding.Finding.{Finding}

-- the step of the first finding
abbrev pub first_step : List Finding → Option ℕ
first_step [] = None
first_step (finding ∷ others) = Some finding.step

-- a number that saturates at the end of its type
abbrev pub stopping : ℕ → ℕ
stopping count = min count (2 ^ 64 - 1)

-- their number
abbrev pub tally : List Finding → ℕ
tally found = stopping (length found)

-- the findings that are kept and printed
abbrev pub kept : List Finding → List Finding
kept found = take 64 found
