-- A word is told as long as one is due, and then the lines.
use Rattle.std.proofs.Common.{ℕ, refl, sym, ap, subst, ◌∙◌, ◌∷◌, ◌≤◌, arith}
use Rattle.any_machine.specs.Log.{plain_item, word_record}
use Rattle.rv_devices.specs.Stands.{words_due}
use Rattle.rv_machine.specs.Phase.{items_at_most}
use Rattle.rv_machine.specs.ToCome.{Awaits}
use Rattle.rv_machine.proofs.MoveLaws.{moves_from}
use Rattle.rv_machine.proofs.TurnLaws.{written, word_out}
use Rattle.rv_machine.proofs.machine.Machine.write_words.Goals as goal

pub returns-in-Some : goal.returns-in-Some
returns-in-Some c =
    let o = c.args.self.now in
    let weight = ap (λ p. items_at_most p o.left (words_due o.board)) c.requires in
    let after = ap (λ p. items_at_most p o.left (words_due c.due.new.self)) c.requires in
    let one : 1 ≤ words_due o.board = c.in-Some.ensures.some.0 refl in
    let item = c.word_item.ensures ∙ ap (λ (n : ℕ). plain_item (word_record n c.in-Some.word)) (c.steps.ensures ∙ c.write_word.ensures.step) in
    record {
      gives = λ items is.
          let f = word_out o.left o.lines o.cpu o.board c.due.new.self items c.in-Some.word c.in-Some.ensures.next c.due.ensures.stands c.write_word.new.cpu c.write_word.ensures.word c.write_word.ensures.step c.write_word.ensures.size
          (subst (λ p. Awaits p o.left o.lines o.cpu o.board items) c.requires is) in
          record { rest = f.rest; first = f.are ∙ ap (λ i. i ∷ f.rest) (sym item); to_come = subst (λ p. Awaits p o.left o.lines c.write_word.new.cpu c.due.new.self f.rest) (sym c.requires) f.after };
      moves = record { few = omega arith; less = omega (arith, weight, after, one, c.due.ensures.left) };
    }

pub returns-in-None : goal.returns-in-None
returns-in-None c =
    let o = c.args.self.now in
    let weight = ap (λ p. items_at_most p o.left (words_due o.board)) c.requires in
    record {
      gives = λ items is.
          c.tell_lines.ensures.gives items (written o.left o.lines o.cpu o.board c.due.new.self items c.in-None.ensures.next c.due.ensures.stands (subst (λ p. Awaits p o.left o.lines o.cpu o.board items) c.requires is));
      moves = moves_from c.tell_lines.result _ _ c.tell_lines.new.self refl (omega (arith, weight)) c.tell_lines.ensures.moves;
    }
