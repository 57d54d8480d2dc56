use Rattle.std.proofs.Common.{◌≡◌, ◌≤◌, false}
use Rattle.output_gate.proofs.tests.a_gate_holds_4096_bytes.Given as goal

abbrev pub invariant-loop-step : goal.invariant-loop-step
invariant-loop-step g l = (l.gate.failed ≡ false) × (l.gate.next ≤ l.step-counter)
