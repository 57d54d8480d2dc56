use Rattle.std.proofs.Common.{arith}
use Rattle.rv_devices.proofs.SendLaws.{sends_nothing}
use Rattle.rv_devices.proofs.transfer.Transfer.none.Goals as goal

pub returns-clause-sends : goal.returns-clause-sends
returns-clause-sends c = sends_nothing _ (omega arith) (omega arith)
