-- The end is given once.
use Rattle.std.proofs.Common.{ap, subst, arith}
use Rattle.hart_model.specs.State.{State}
use Rattle.rv_devices.specs.Stands.{words_due}
use Rattle.rv_machine.specs.Phase.{items_at_most}
use Rattle.rv_machine.specs.ToCome.{Awaits}
use Rattle.rv_machine.proofs.EndLaws.{given_end}
use Rattle.rv_machine.proofs.TurnLaws.{ended}
use Rattle.rv_machine.proofs.machine.Machine.turn.Goals as goal

pub returns-in-Ending : goal.returns-in-Ending
returns-in-Ending c =
    let o = c.args.self.now in
    let n = c.end.new.self in
    let weight = ap (λ p. items_at_most p o.left (words_due o.board)) c.in-Ending.is in
    let after = ap (λ p. items_at_most p n.left (words_due n.board)) c.end.ensures.over in
    record {
      gives = λ items is.
          given_end o n items c.in-Ending.cause c.end.result c.end.ensures.item c.end.ensures.over c.end.ensures.same c.end.ensures.hart
          (ended o.left o.lines o.cpu o.board o.board items c.in-Ending.cause n.left n.lines (subst (λ p. Awaits p o.left o.lines o.cpu o.board items) c.in-Ending.is is));
      moves = record { few = omega (arith, ap (λ (s : State). s.step) c.end.ensures.hart); less = omega (arith, weight, after) };
    }
