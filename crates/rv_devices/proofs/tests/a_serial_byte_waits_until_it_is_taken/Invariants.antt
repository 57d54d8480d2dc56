use Rattle.std.proofs.Common.{◌≡◌}
use Rattle.rv_devices.specs.Stands.{steps_begun, words_due}
use Rattle.rv_devices.proofs.tests.a_serial_byte_waits_until_it_is_taken.Given as goal

-- the steps before this one have begun, and the disk wrote nothing
abbrev pub invariant-loop-step : goal.invariant-loop-step
invariant-loop-step g l = record {
  begun : steps_begun l.board ≡ l.step;
  drained : words_due l.board ≡ 0;
}
