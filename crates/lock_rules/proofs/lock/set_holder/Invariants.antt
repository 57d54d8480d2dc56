use Rattle.std.proofs.Common.{◌≡◌, ◌++◌, map, take, drop}
use Rattle.lock_rules.specs.Entries.{with_holder}
use Rattle.lock_rules.proofs.lock.set_holder.Given as goal

abbrev pub invariant-loop-lock : goal.invariant-loop-lock
invariant-loop-lock l = l.locks ≡ map (with_holder l.number l.holder) (take l.lock-index l.initial.locks) ++ drop l.lock-index l.initial.locks
