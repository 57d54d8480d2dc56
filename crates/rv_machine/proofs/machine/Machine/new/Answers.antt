-- All items of the run are to come.
use Rattle.rv_machine.proofs.TurnLaws.{before_all}
use Rattle.rv_machine.proofs.machine.Machine.new.Goals as goal

pub returns : goal.returns
returns c =
    let a = c.args in
    before_all a.image.now a.script a.disk.items a.ram_kib a.limit c.in_ok-cpu.cpu c.in_ok-board.board c.in_ok-cpu.ensures.start c.in_ok-board.ensures.stands
