use Rattle.taint_marks.proofs.StandsLaws.{Stands_new}
use Rattle.taint_marks.proofs.taint.Taint.new.Goals as goal

pub returns-clause-seen : goal.returns-clause-seen
returns-clause-seen c = Stands_new c.in_ok-shadow.shadow c.args.ram_kib c.new-2.result c.in_ok-shadow.ensures.size c.in_ok-shadow.ensures.clear c.new-2.ensures
