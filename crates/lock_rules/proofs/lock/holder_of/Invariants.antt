use Rattle.std.proofs.Common.{◌≡◌, drop}
use Rattle.lock_rules.specs.Entries.{holder_of}
use Rattle.lock_rules.proofs.lock.holder_of.Given as goal

abbrev pub invariant-loop-lock : goal.invariant-loop-lock
invariant-loop-lock l = holder_of (drop l.lock-index l.locks) l.number ≡ holder_of l.locks l.number
