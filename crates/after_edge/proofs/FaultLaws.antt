-- Counts of faults.
use Rattle.std.proofs.Common.{ℕ, ◌≤◌, arith}
use Rattle.after_edge.specs.Fault.{Rose}

-- it had not fallen, and then rose
pub Rose-later : (before middle now : ℕ) → before ≤ middle → Rose middle now → Rose before now
Rose-later before middle now kept rose = omega (arith, rose)
