use Rattle.std.proofs.Common.{◌∙◌, ap, sym}
use Rattle.memory_map.specs.Halves.{high_half, low_half}
use Rattle.machine_model.specs.Board as model
use Rattle.rv_devices.proofs.DueLaws.{waits_is}
use Rattle.rv_devices.proofs.StandLaws.{mtime_is}
use Rattle.rv_devices.proofs.board.Board.value_of.Goals as goal

pub returns-in-TimeLow : goal.returns-in-TimeLow
returns-in-TimeLow c = λ script step words state stands _.
    rw c.in-TimeLow.is (ap model.unmarked (c.low_half-in-TimeLow.ensures ∙ ap low_half (sym (mtime_is script step words state c.args.self.now stands))))

pub returns-in-TimeHigh : goal.returns-in-TimeHigh
returns-in-TimeHigh c = λ script step words state stands _.
    rw c.in-TimeHigh.is (ap model.unmarked (c.high_half-in-TimeHigh.ensures ∙ ap high_half (sym (mtime_is script step words state c.args.self.now stands))))

pub returns-in-SerialStatus : goal.returns-in-SerialStatus
returns-in-SerialStatus c = λ script step words state stands _.
    rw c.in-SerialStatus.is (ap model.unmarked (cc (waits_is script step state.taken c.args.self.now.schedule stands.follows)))
