-- What a step needs is at a register, and what the board gives of it is told.
use Rattle.std.proofs.Common.{ℕ, sym, ap, subst, ◌∙◌, ◌∷◌, arith}
use Rattle.run_events.specs.declared.record.Record.TheVariants.{Load as LoadRecord}
use Rattle.any_machine.specs.Log.{plain_item}
use Rattle.hart_model.proofs.DeviceLaws.{needs_at}
use Rattle.rv_devices.specs.Stands.{words_due}
use Rattle.rv_machine.specs.Phase.{items_at_most}
use Rattle.rv_machine.specs.ToCome.{Awaits}
use Rattle.rv_machine.proofs.ComingLaws.{register_there}
use Rattle.rv_machine.proofs.TurnLaws.{loaded}
use Rattle.rv_machine.proofs.machine.Machine.ask_need.Goals as goal

pub load-supplied-requires-clause-register : goal.load-supplied-requires-clause-register
load-supplied-requires-clause-register c = register_there _ (needs_at _ _ _ _ (sym c.in-Load.ensures))

pub returns-in-Load : goal.returns-in-Load
returns-in-Load c =
    let o = c.args.self.now in
    let weight = ap (λ p. items_at_most p o.left (words_due o.board)) c.requires in
    let given = c.load-supplied.result in
    let item = c.plain.ensures ∙ ap (λ (n : ℕ). plain_item (LoadRecord n given.value given.mark)) c.steps.ensures in
    record {
      gives = λ items is.
          let f = loaded o.left o.lines o.cpu o.board c.load-supplied.new.self items given c.in-Load.address c.in-Load.width (sym c.in-Load.ensures) c.load-supplied.ensures.value c.load-supplied.ensures.stands
          (subst (λ p. Awaits p o.left o.lines o.cpu o.board items) c.requires is) in
          record { rest = f.rest; first = f.are ∙ ap (λ i. i ∷ f.rest) (sym item); to_come = f.after };
      moves = record { few = omega arith; less = omega (arith, weight) };
    }
