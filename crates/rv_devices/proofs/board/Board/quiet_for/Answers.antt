-- What is quiet brings nothing.
use Rattle.std.proofs.Common.{arith}
use Rattle.rv_devices.proofs.StandLaws.{is_still}
use Rattle.rv_devices.proofs.board.Board.quiet_for.Goals as goal

pub returns-clause-still : goal.returns-clause-still
returns-clause-still c = λ script step words state stands k below. is_still script step k words state c.args.self.now stands (omega (arith, below))
