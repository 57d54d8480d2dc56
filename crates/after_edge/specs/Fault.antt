-- Counts of faults, which say that the outside failed.
use Rattle.std.specs.Prelude.{◌≡◌, ℕ, ◌+◌, ◌-◌, ◌^◌, ◌≤◌, min, Bool, if◌then◌else◌, Result, Ok, Err}

-- one more; it saturates at the end of its type
abbrev pub raised : ℕ → ℕ
raised count = min (count + 1) (2 ^ 64 - 1)

-- a count of 64 bits rose: it is greater than before, or stands at the end of its type
abbrev pub Rose : ℕ → ℕ → Type 0
Rose before now = raised before ≤ now

-- a call that failed has raised the count, and one that did not has left it alone
abbrev pub Counts : {V E : Type 0} → Result V E → ℕ → ℕ → Type 0
Counts (Ok value) before now = now ≡ before
Counts (Err fault) before now = Rose before now

-- exactly the calls that fail are counted, each once
abbrev pub Counted : Bool → ℕ → ℕ → Type 0
Counted fails before now = now ≡ (if fails then raised before else before)
