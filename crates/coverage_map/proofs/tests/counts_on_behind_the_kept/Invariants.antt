use Rattle.std.proofs.Common.{◌≡◌}
use Rattle.coverage_map.proofs.tests.counts_on_behind_the_kept.Given as goal

abbrev pub invariant-loop-step : goal.invariant-loop-step
invariant-loop-step g l = l.coverage.ram_kib ≡ 64
