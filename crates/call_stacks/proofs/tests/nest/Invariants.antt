use Rattle.std.proofs.Common.{◌≡◌}
use Rattle.call_stacks.proofs.tests.nest.Given as goal

abbrev pub invariant-loop-number : goal.invariant-loop-number
invariant-loop-number l = l.calls.ram_kib ≡ 64

abbrev pub invariant-loop-number-2 : goal.invariant-loop-number-2
invariant-loop-number-2 l = l.calls.ram_kib ≡ 64
