use Rattle.std.proofs.Common.{sym}
use Rattle.taint_marks.proofs.CalmLaws.{union_unmarked}
use Rattle.taint_marks.proofs.taint.Taint.bytes.Goals as goal

pub returns-then-is_unmarked : goal.returns-then-is_unmarked
returns-then-is_unmarked c = sym (union_unmarked c.args.self.now c.args.address c.args.width (c.is_unmarked.ensures c.if-is_unmarked.true c.args.width c.requires.few))
