-- One step settles the counters, and the others add to them.
use Rattle.std.proofs.Common.{◌<◌}
use Rattle.rv_cpu.proofs.BatchLaws.{counted_none, counted_some}
use Rattle.rv_cpu.proofs.batch.count_steps.Goals as goal

pub returns-then-count-gt0 : goal.returns-then-count-gt0
returns-then-count-gt0 c =
    let cycles : c.count.new.self.mcycle < 18446744073709551616 = assumption in
    let retired : c.count.new.self.minstret < 18446744073709551616 = assumption in
    counted_some _ _ _ _ c.if-count-gt0.true c.from-more.ensures c.count.ensures cycles retired

pub returns-else-count-gt0 : goal.returns-else-count-gt0
returns-else-count-gt0 c = counted_none _ _ c.if-count-gt0.false
