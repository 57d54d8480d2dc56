-- The lines are told where they differ from those that are held; else the step goes on.
use Rattle.std.proofs.Common.{ℕ, refl, sym, ap, subst, ◌∙◌, ◌∷◌, arith}
use Rattle.run_events.specs.declared.record.Record.TheVariants.{Lines as LinesRecord}
use Rattle.any_machine.specs.Log.{plain_item}
use Rattle.rv_devices.specs.Stands.{words_due}
use Rattle.rv_machine.specs.Phase.{items_at_most}
use Rattle.rv_machine.specs.ToCome.{Awaits}
use Rattle.rv_machine.proofs.MoveLaws.{moves_from}
use Rattle.rv_machine.proofs.TurnLaws.{unchanged, told}
use Rattle.rv_machine.proofs.machine.Machine.tell_lines.Goals as goal

pub returns-then-bits-self : goal.returns-then-bits-self
returns-then-bits-self c =
    let o = c.args.self.now in
    let weight = ap (λ p. items_at_most p o.left (words_due o.board)) c.requires in
    record {
      gives = λ items is. c.run_on.ensures.gives items (unchanged o.left o.lines o.cpu o.board o.board items c.lines-bits.result c.lines-bits.ensures c.if-bits-self.true (subst (λ p. Awaits p o.left o.lines o.cpu o.board items) c.requires is));
      moves = moves_from c.run_on.result _ _ c.run_on.new.self refl (omega (arith, weight)) c.run_on.ensures.moves;
    }

pub returns-else-bits-self : goal.returns-else-bits-self
returns-else-bits-self c =
    let o = c.args.self.now in
    let weight = ap (λ p. items_at_most p o.left (words_due o.board)) c.requires in
    let item = c.plain.ensures ∙ ap (λ (n : ℕ). plain_item (LinesRecord n c.lines-bits.result)) c.steps.ensures in
    record {
      gives = λ items is.
          let f = told o.left o.lines o.cpu o.board o.board items c.lines-bits.result c.lines-bits.ensures c.if-bits-self.false (subst (λ p. Awaits p o.left o.lines o.cpu o.board items) c.requires is) in
          record { rest = f.rest; first = f.are ∙ ap (λ i. i ∷ f.rest) (sym item); to_come = f.after };
      moves = record { few = omega arith; less = omega (arith, weight) };
    }
