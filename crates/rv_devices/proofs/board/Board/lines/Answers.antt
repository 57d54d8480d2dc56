use Rattle.rv_devices.proofs.StandLaws.{lines_are}
use Rattle.rv_devices.proofs.board.Board.lines.Goals as goal

pub returns : goal.returns
returns c = λ script step words state stands. cc (lines_are script step words state c.args.self.now stands)
