use Rattle.std.proofs.Common.{◌≡◌}
use Rattle.call_stacks.proofs.tests.tells_returns_that_go_elsewhere.Given as goal

abbrev pub invariant-loop-word : goal.invariant-loop-word
invariant-loop-word g l = l.calls.ram_kib ≡ 64
