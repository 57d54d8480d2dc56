-- A step begins, or the limit is reached.
use Rattle.std.proofs.Common.{◌≡◌, suc, [], ◌+◌, refl, sym, ap, subst, ◌-◌, arith}
use Rattle.run_events.specs.declared.record.EndCause.TheVariants.{Limit}
use Rattle.hart_model.specs.State.{State}
use Rattle.machine_model.specs.Board.{at_step, words_before}
use Rattle.rv_devices.specs.Stands.{Stands, words_due}
use Rattle.rv_machine.specs.Phase.{items_at_most}
use Rattle.rv_machine.specs.ToCome.{Awaits}
use Rattle.rv_machine.specs.declared.phase.Phase.TheVariants.{Between}
use Rattle.rv_machine.proofs.EndLaws.{given_end}
use Rattle.rv_machine.proofs.MoveLaws.{moves_from}
use Rattle.rv_machine.proofs.TurnLaws.{begun, limited}
use Rattle.rv_machine.proofs.machine.Machine.begin.Goals as goal

pub returns-then-self-eq0 : goal.returns-then-self-eq0
returns-then-self-eq0 c =
    let o = c.args.self.now in
    let weight = ap (λ p. items_at_most p o.left (words_due o.board)) c.requires in
    let n = c.end.new.self in
    let after = ap (λ p. items_at_most p n.left (words_due n.board)) c.end.ensures.over in
    record {
      gives = λ items is.
          given_end o n items Limit c.end.result c.end.ensures.item c.end.ensures.over c.end.ensures.same c.end.ensures.hart
          (limited o.left o.lines o.cpu o.board o.board items c.if-self-eq0.true n.left n.lines (subst (λ p. Awaits p o.left o.lines o.cpu o.board items) c.requires is));
      moves = record { few = omega (arith, ap (λ (s : State). s.step) c.end.ensures.hart); less = omega (arith, weight, after) };
    }

pub returns : goal.returns
returns c =
    let o = c.args.self.now in
    let weight = ap (λ p. items_at_most p o.left (words_due o.board)) c.requires in
    let one : suc (o.left - 1) ≡ o.left = omega (arith, c.if-self-eq0.false) in
    record {
      gives = λ items is.
          c.write_words.ensures.gives items
          (begun (o.left - 1) o.lines o.cpu o.board c.begin.new.self items
          (λ script state stands. subst (λ n. Stands script (n + 1) (words_before n state) (at_step n state) c.begin.new.self) c.steps.ensures (c.begin.ensures.stands script state (subst (λ n. Stands script n [] state o.board) (sym c.steps.ensures) stands)))
          (subst (λ n. Awaits Between n o.lines o.cpu o.board items) (sym one) (subst (λ p. Awaits p o.left o.lines o.cpu o.board items) c.requires is)));
      moves = moves_from c.write_words.result _ _ c.write_words.new.self refl (omega (arith, weight, one)) c.write_words.ensures.moves;
    }
