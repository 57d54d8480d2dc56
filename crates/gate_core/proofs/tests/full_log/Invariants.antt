use Rattle.std.proofs.Common.{◌≡◌, length}
use Rattle.gate_core.proofs.tests.full_log.Given as goal

abbrev pub invariant-loop-step : goal.invariant-loop-step
invariant-loop-step g l = length l.hub.taken ≡ 2
