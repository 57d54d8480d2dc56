use Rattle.std.proofs.Common.{[], ◌<◌, min, arith}
use Rattle.rv_devices.proofs.StandLaws.{no_words_before, same_state, quiet_step}
use Rattle.rv_devices.proofs.board.Board.begin.Goals as goal

pub returns-then-from-min-clause-stands : goal.returns-then-from-min-clause-stands
returns-then-from-min-clause-stands c = λ script state stands.
    let board = c.args.self.now in
    let below : c.args.step < min board.quiet board.timer.rise = omega (arith, c.from.ensures, c.min.ensures) in
    let quiet : c.args.step < board.quiet = omega (arith, below) in
    rw (no_words_before script c.args.step c.args.step [] state board stands quiet, same_state script c.args.step c.args.step [] state board stands quiet, c.from-then-from-min.ensures)
    (quiet_step script c.args.step state board stands below (omega arith))
