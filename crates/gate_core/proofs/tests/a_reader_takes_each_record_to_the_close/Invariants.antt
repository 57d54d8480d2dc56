use Rattle.std.proofs.Common.{◌≡◌, length}
use Rattle.gate_core.proofs.tests.a_reader_takes_each_record_to_the_close.Given as goal

abbrev pub invariant-loop-step : goal.invariant-loop-step
invariant-loop-step g l = length l.hub.taken ≡ 2
