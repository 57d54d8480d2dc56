-- A step accesses no device but at a register.
use Rattle.std.proofs.Common.{◌≡◌, ◌+◌, refl, subst, sym, arith}
use Rattle.run_events.specs.declared.event.Event.{Event}
use Rattle.hart_model.specs.State.{State}
use Rattle.hart_model.proofs.DeviceLaws.{IsAtRegister, cpu_at}
use Rattle.any_machine.specs.Log.{reach_items}
use Rattle.any_machine.specs.Machine.{power_status}
use Rattle.board_model.specs.TheBoard.{after_event}
use Rattle.rv_devices.specs.Stands.{Stands}
use Rattle.rv_machine.specs.Phase.{items_of, phase_after}
use Rattle.rv_machine.specs.ToCome.{Awaits}
use Rattle.rv_machine.proofs.FinishLaws.{Behind, IsOutside, after_outside, counted_by, finished, gives_behind, moves_finished}
use Rattle.rv_machine.proofs.machine.Machine.finish.Goals as goal

pub store_outside-requires-clause-at : goal.store_outside-requires-clause-at
store_outside-requires-clause-at c = subst (λ (r : Event × State). IsAtRegister r.0) c.step_given-event.ensures.step (cpu_at _ _ _)

pub invariant_of-self : goal.invariant_of-self
invariant_of-self c =
    let o = c.args.self.now in
    let counted = counted_by o.cpu c.step_given-event.new.cpu o.lines c.args.supplied c.step_given-event.result c.step_given-event.ensures.step in
    let out : IsOutside c.after_power-self.result = subst IsOutside (sym c.after_power-self.ensures) (after_outside (power_status c.step_given-event.result)) in
    record {
      begun = omega (arith, counted, out.outside, o.begun, c.requires.inside, c.store_outside.ensures.begun);
      drained = omega (arith, o.drained, c.requires.quiet, c.store_outside.ensures.left);
      room = omega (arith, counted, out.outside, o.room, c.requires.inside);
      given = out.ready _;
      size = omega (arith, o.size, c.step_given-event.ensures.size);
    }

pub returns : goal.returns
returns c =
    let o = c.args.self.now in
    let event = c.step_given-event.result in
    record {
      gives = λ items is.
          gives_behind c.reach_item.result items (reach_items c.steps-step.result event) _ c.reach_item.ensures
          (subst (λ p. Behind items (reach_items c.steps-step.result event) (λ rest. Awaits p o.left o.lines c.step_given-event.new.cpu c.store_outside.new.board rest)) (sym c.after_power-self.ensures)
          (subst (λ n. Behind items (reach_items n event) (λ rest. Awaits (phase_after (power_status event)) o.left o.lines c.step_given-event.new.cpu c.store_outside.new.board rest)) (sym c.steps-step.ensures)
          (finished o.phase c.args.supplied o.left o.lines o.cpu c.step_given-event.new.cpu o.board c.store_outside.new.board items event c.requires.inside c.requires.given c.step_given-event.ensures.step c.step_given-event.ensures.size
          (λ script step words state stands. subst (λ ram. Stands script (step + 1) words (after_event script step ram state event) c.store_outside.new.board) c.ram.ensures (c.store_outside.ensures.stands script step words state stands))
          is)));
      moves = moves_finished o _ event c.reach_item.result c.requires.inside c.requires.quiet (subst (λ n. items_of c.reach_item.result ≡ reach_items n event) c.steps-step.ensures c.reach_item.ensures) (counted_by o.cpu c.step_given-event.new.cpu o.lines c.args.supplied event c.step_given-event.ensures.step) c.after_power-self.ensures refl;
    }
