use Rattle.std.proofs.Common.{arith}
use Rattle.redzones.proofs.StandsLaws.{Stands_new}
use Rattle.redzones.proofs.zones.Redzones.new.Goals as goal

pub returns-clause-seen : goal.returns-clause-seen
returns-clause-seen c =
    Stands_new c.in_ok-shadow.shadow c.paint.new.self c.args.ram_kib _ c.new-2.result (omega arith) (omega arith) c.in_ok-shadow.ensures.size c.paint.ensures.painted c.new-2.ensures
