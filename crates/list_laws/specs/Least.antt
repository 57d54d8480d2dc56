-- The least number of a range that has a property.
use Rattle.std.specs.Prelude.{ℕ, zero, suc, ◌+◌, ◌-◌, Bool, ◌&&◌, nat_le, nat_lt, Option, None, Some, if◌then◌else◌}

-- the range [from, to) has this number
abbrev pub is_between : ℕ → ℕ → ℕ → Bool
is_between from to n = nat_le from n && nat_lt n to

-- the least of so many numbers from this one on that has the property
unfoldable pub least_from : (ℕ → Bool) → ℕ → ℕ → Option ℕ
least_from test from zero = None
least_from test from (suc count) = if test from then Some from else least_from test (from + 1) count

-- the least of the range [from, to)
abbrev pub least_between : (ℕ → Bool) → ℕ → ℕ → Option ℕ
least_between test from to = least_from test from (to - from)
