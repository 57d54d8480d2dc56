use Rattle.std.proofs.Common.{◌≡◌, ◌+◌, ◌-◌, ◌%◌, ◌^◌, arith}
use Rattle.machine_model.specs.Board as model
use Rattle.rv_devices.specs.Serves.{completes_before}
use Rattle.rv_devices.proofs.DueLaws.{latency_is}
use Rattle.rv_devices.proofs.StandLaws.{NotBefore-less, NotBefore-own, commanded_stands}
use Rattle.rv_devices.proofs.board.Board.command.Goals as goal

pub returns-clause-stands : goal.returns-clause-stands
returns-clause-stands c = λ script step words state s.
    let old = c.args.self.now in
    let at : (old.begun - 1 + c.from.result) % 2 ^ 64 ≡ step + model.latency script step =
    omega (arith, c.from.ensures, c.latency.ensures, s.begun_is, s.numbered, s.follows.latency_is, latency_is script step state.taken old.schedule s.follows) in
    commanded_stands script step words state old c.args.ram.now c.args.command c.min-self.result c.command.new.self s (c.command.ensures.serves script step words state at s.serves) (omega (arith, c.min-self.ensures)) (NotBefore-less c.min-self.result (completes_before c.command.new.self.activity) c.command.new.self.activity (omega (arith, c.min-self.ensures, c.due.ensures)) (NotBefore-own c.command.new.self.activity))
