-- Nothing is left after the end.
use Rattle.std.proofs.Common.{subst, sym, []}
use Rattle.rv_machine.specs.ToCome.{Awaits}
use Rattle.rv_machine.proofs.TurnLaws.{over}
use Rattle.rv_machine.proofs.machine.Machine.advance.Goals as goal

pub returns-in-Over-clause-next : goal.returns-in-Over-clause-next
returns-in-Over-clause-next c = λ items is.
    let o = c.args.self.now in
    let none = over o.left o.lines o.cpu o.board o.board items (subst (λ p. Awaits p o.left o.lines o.cpu o.board items) c.in-Over.is is) in
    (none.0, subst (λ p. Awaits p o.left o.lines o.cpu o.board []) (sym c.in-Over.is) none.1)
