use Rattle.std.proofs.Common.{◌≡◌}
use Rattle.lock_rules.proofs.tests.tells_each_misuse.Given as goal

abbrev pub invariant-loop-step : goal.invariant-loop-step
invariant-loop-step g l = l.locks.ram_kib ≡ 64
