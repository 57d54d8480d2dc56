-- Plain steps make no item but at a multiple of 256.
use Rattle.std.proofs.Common.{◌≡◌, suc, true, ◌+◌, ◌-◌, ◌/◌, refl, sym, ap, subst, ◌∙◌, arith}
use Rattle.any_machine.specs.Machine.{is_load}
use Rattle.hart_model.specs.State.{State}
use Rattle.hart_model.specs.Step.{needs}
use Rattle.rv_cpu.specs.PlainRun.{are_plain, plain_after}
use Rattle.rv_devices.specs.Stands.{words_due}
use Rattle.rv_machine.specs.Phase.{awaits, inside, items_at_most, items_of, mark_items, sends}
use Rattle.rv_machine.specs.ToCome.{Awaits}
use Rattle.rv_machine.proofs.BatchLaws.{moves_ran, plain_counts, ran, ran_into}
use Rattle.rv_machine.proofs.FinishLaws.{gives_behind}
use Rattle.rv_machine.proofs.MoveLaws.{moves_past}
use Rattle.rv_machine.proofs.machine.Machine.run_on.Goals as goal

-- the next step is no plain one
pub invariant_of-self : goal.invariant_of-self
invariant_of-self c =
    let o = c.args.self.now in
    let run = c.run_plain-done in
    let counted : run.new.self.step ≡ o.cpu.step + run.result = ap (λ (s : State). s.step) (sym run.ensures.state) ∙ plain_counts o.lines run.result o.cpu in
    record {
      begun = omega (arith, o.begun, counted, c.pass.ensures.begun);
      drained = omega (arith, o.drained, c.pass.ensures.left);
      room = omega (arith, o.room, counted, c.if-done-more.true, c.min.ensures, c.min-more.ensures);
      given = ap (λ p. awaits p (is_load (needs run.new.self o.lines))) c.requires;
      size = omega (arith, o.size, run.ensures.size);
    }

pub returns-then-done-more : goal.returns-then-done-more
returns-then-done-more c =
    let o = c.args.self.now in
    let run = c.run_plain-done in
    let board = c.pass.new.self in
    let left = o.left - run.result in
    let counted : run.new.self.step ≡ o.cpu.step + run.result = ap (λ (s : State). s.step) (sym run.ensures.state) ∙ plain_counts o.lines run.result o.cpu in
    let enough : o.left ≡ left + run.result = omega (arith, c.if-done-more.true, c.min.ensures, c.min-more.ensures) in
    let block : o.cpu.step / 256 ≡ (o.cpu.step + run.result) / 256 = omega (arith, c.steps-step.ensures, c.if-done-more.true, c.min.ensures, c.min-more.ensures) in
    let before = ap (λ p. items_at_most p o.left (words_due o.board)) c.requires in
    let after = ap (λ p. items_at_most p left (words_due board)) c.requires in
    record {
      gives = λ items is.
          c.ask_need.ensures.gives items
          (subst (λ p. Awaits p left o.lines run.new.self board items) (sym c.requires)
          (ran_into o.left left o.lines run.result o.cpu run.new.self o.board board items enough block run.ensures.plain run.ensures.state run.ensures.size
          (λ script step words state stands k below. c.quiet_for.ensures.still script step words state stands k (omega (arith, below, c.if-done-more.true, c.min.ensures, c.min-more.ensures)))
          c.pass.ensures.stands
          (subst (λ p. Awaits p o.left o.lines o.cpu o.board items) c.requires is)));
      moves = moves_past c.ask_need.result _ _ c.ask_need.new.self (omega (arith, counted)) (omega (arith, counted, block)) (omega (arith, before, after)) c.ask_need.ensures.moves;
    }

-- all of them were plain
pub invariant_of-self-2 : goal.invariant_of-self-2
invariant_of-self-2 c =
    let o = c.args.self.now in
    let run = c.run_plain-done in
    let counted : run.new.self.step ≡ o.cpu.step + run.result = ap (λ (s : State). s.step) (sym run.ensures.state) ∙ plain_counts o.lines run.result o.cpu in
    let within = ap inside c.requires in
    record {
      begun = omega (arith, o.begun, counted, within, c.if-done-more.false, run.ensures.few, c.pass-2.ensures.begun);
      drained = omega (arith, o.drained, ap sends c.requires, c.pass-2.ensures.left);
      room = omega (arith, o.room, counted, within, c.if-done-more.false, c.min.ensures, c.min-more.ensures, run.ensures.few);
      given = refl;
      size = omega (arith, o.size, run.ensures.size);
    }

pub returns : goal.returns
returns c =
    let o = c.args.self.now in
    let run = c.run_plain-done in
    let more = c.min-more.result in
    let whole : run.result ≡ suc more = omega (arith, c.if-done-more.false, run.ensures.few) in
    let enough : o.left ≡ o.left - more + more = omega (arith, c.min.ensures, c.min-more.ensures) in
    let block : o.cpu.step / 256 ≡ (o.cpu.step + more) / 256 = omega (arith, c.steps-step.ensures, c.min.ensures, c.min-more.ensures) in
    let to : c.steps-step.result + run.result ≡ o.cpu.step + suc more = omega (arith, c.steps-step.ensures, whole) in
    let made : items_of c.mark_item.result ≡ mark_items (o.cpu.step + suc more) = c.mark_item.ensures ∙ ap mark_items to in
    let does : plain_after o.lines (suc more) o.cpu ≡ run.new.self = subst (λ n. plain_after o.lines n o.cpu ≡ run.new.self) whole run.ensures.state in
    record {
      gives = λ items is.
          gives_behind c.mark_item.result items (mark_items (o.cpu.step + suc more)) _ made
          (ran o.left (o.left - more) o.lines more o.cpu run.new.self o.board c.pass-2.new.self items enough block (subst (λ n. are_plain o.lines n o.cpu ≡ true) whole run.ensures.plain) does run.ensures.size
          (λ script step words state stands k below. c.quiet_for.ensures.still script step words state stands k (omega (arith, below, c.min.ensures, c.min-more.ensures)))
          c.pass-2.ensures.stands
          (subst (λ p. Awaits p o.left o.lines o.cpu o.board items) c.requires is));
      moves = moves_ran c.mark_item.result more o _ made (ap (λ (s : State). s.step) (sym does) ∙ plain_counts o.lines (suc more) o.cpu) block c.requires refl enough;
    }
