use Rattle.std.proofs.Common.{Some, sym, ap, arith}
use Rattle.taint_marks.proofs.CalmLaws.{shade_same}
use Rattle.taint_marks.proofs.taint.Taint.put_bytes.Goals as goal

pub returns-else-not-is_unmarked : goal.returns-else-not-is_unmarked
returns-else-not-is_unmarked c =
    let none = c.is_unmarked.ensures c.if-not-is_unmarked.false c.args.width c.requires in
    ap (λ s. record c.args.self.now { shade = s }) (sym (shade_same c.args.self.now c.args.address c.args.width (Some c.args.mark) (omega (arith, c.if-mark-ne0.false), none)))
