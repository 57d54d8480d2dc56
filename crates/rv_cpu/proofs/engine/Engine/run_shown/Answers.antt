-- Each turn of the loop is one more plain step, shown.
use Rattle.std.proofs.Common.{◌≡◌, ◌+◌, ◌-◌, ◌*◌, ◌<◌, true, false, refl, sym, ap, ◌∙◌, subst, arith}
use Rattle.any_machine.specs.Running.{RunSoFar, unfed}
use Rattle.any_machine.proofs.RunningLaws.{loop_first}
use Rattle.hart_model.specs.Aligned.{IsAligned}
use Rattle.hart_model.specs.Machine.{hart}
use Rattle.hart_model.specs.State.{State}
use Rattle.rv_cpu.specs.Batch.{caught_up, from}
use Rattle.rv_cpu.specs.Plain.{is_plain}
use Rattle.rv_cpu.specs.PlainRun.{are_plain, plain_after}
use Rattle.rv_cpu.proofs.BatchLaws.{after_at_first, after_so_far, free_by, plain_at_first, plain_so_far, waiting_plain}
use Rattle.rv_cpu.proofs.ShownLaws.{Standing, steps_of, aligned_ahead, goes_on, stays, stands_first, stands_next, stands_still, told_fits}
use Rattle.rv_cpu.proofs.engine.Engine.run_shown.Given.{Over}
use Rattle.rv_cpu.proofs.engine.Engine.run_shown.Goals as goal
use Rattle.rv_cpu.proofs.engine.Engine.run_shown.Goals.{else-steps-test, then-steps-test+then-not-show_next}

pub steps-init : goal.steps-init
steps-init g c = record {
  stands = stands_first c.args.lines c.args.number c.args.self.now (g.W.Watcher.has_seen c.args.seen.now) c.requires.aligned
      (free_by _ (grind (arith, c.self.view_is, c.pending.ensures, c.is_some.ensures, c.if-is_some.false)));
  few = omega (arith);
  size = refl;
  made = refl;
}

pub show_next-requires-clause-fits : goal.show_next-requires-clause-fits
show_next-requires-clause-fits g c =
    let stands = c.steps.invariant.stands in
    told_fits c.args.lines c.steps.behind (g.W.Watcher.ram_kib c.steps.seen) c.steps.self stands.ran.free stands.aligned
    (stands.ram ∙ c.requires.size ∙ ap (λ k. 1024 * k) (sym c.steps.invariant.size))

pub steps-preserved : goal.steps-preserved
steps-preserved g c =
    let stands = c.steps.invariant.stands in
    let room : c.steps.self.step + c.steps.behind < c.args.number = grind (arith, c.self.view_is, c.steps-test.true, stands.ran.step, c.if-self-number.false) in
    let on =
    goes_on c.args.lines c.steps.behind c.steps.self c.show_next.new.self (g.W.Watcher.has_seen c.steps.seen) (g.W.Watcher.has_seen c.show_next.new.seen) c.show_next.ensures.state c.show_next.ensures.seen
    stands.ran.free (sym c.show_next.ensures.answer ∙ c.if-not-show_next.false)
    in
    record {
      stands = stands_next c.args.lines c.args.number c.steps.behind c.args.self.now c.steps.self c.show_next.new.self (g.W.Watcher.has_seen c.args.seen.now) (g.W.Watcher.has_seen c.steps.seen) (g.W.Watcher.has_seen c.show_next.new.seen) stands room on;
      few = omega (arith, c.steps-test.true);
      size = c.show_next.ensures.size ∙ c.steps.invariant.size;
      made = c.show_next.ensures.made ∙ c.steps.invariant.made;
    }

-- where the loop ends
left : (g : Over) (c : goal.After-catch_up-2 g) → Standing c.args.lines c.args.number c.steps.behind c.args.self.now c.steps-test.self (g.W.Watcher.has_seen c.args.seen.now) (g.W.Watcher.has_seen c.steps-test.seen)
left g c = elim c.steps-test.branch [
  | else-steps-test w ↦ rw (w.self-is, w.seen-is) c.steps.invariant.stands
  | then-steps-test+then-not-show_next w ↦
      rw (w.self-is, w.seen-is)
      (stands_still c.args.lines c.args.number c.steps.behind c.args.self.now c.steps.self w.show_next.new.self (g.W.Watcher.has_seen c.args.seen.now) (g.W.Watcher.has_seen c.steps.seen) (g.W.Watcher.has_seen w.show_next.new.seen) c.steps.invariant.stands
      (stays c.args.lines c.steps.behind c.steps.self w.show_next.new.self (g.W.Watcher.has_seen c.steps.seen) (g.W.Watcher.has_seen w.show_next.new.seen) w.show_next.ensures.state w.show_next.ensures.seen c.steps.invariant.stands.ran.free (sym w.show_next.ensures.answer ∙ w.if-not-show_next.true)))
]

caught : (g : Over) (c : goal.After-catch_up-2 g) → c.catch_up-2.new.self ≡ caught_up c.steps.behind c.steps-test.self
caught g c = c.catch_up-2.ensures ∙ ap (λ (u : State). caught_up c.steps.behind (from c.steps-test.self u.pc)) c.catch_up.view_is

pub returns-clause-runs : goal.returns-clause-runs
returns-clause-runs g c =
    subst (λ (s : State). RunSoFar hart c.args.number (unfed steps_of c.args.lines c.args.self.now) (unfed steps_of c.args.lines s) (g.W.Watcher.has_seen c.args.seen.now) (g.W.Watcher.has_seen c.steps-test.seen)) (sym (caught g c)) (left g c).so_far

pub returns-clause-plain : goal.returns-clause-plain
returns-clause-plain g c =
    subst (λ (s : State). are_plain c.args.lines (s.step - c.args.self.now.step) c.args.self.now ≡ true) (sym (caught g c)) (plain_so_far c.args.lines c.args.self.now c.steps-test.self c.steps.behind (left g c).ran)

pub returns-clause-state : goal.returns-clause-state
returns-clause-state g c =
    subst (λ (s : State). plain_after c.args.lines (s.step - c.args.self.now.step) c.args.self.now ≡ s) (sym (caught g c)) (after_so_far c.args.lines c.args.self.now c.steps-test.self c.steps.behind (left g c).ran)

pub returns-clause-aligned : goal.returns-clause-aligned
returns-clause-aligned g c = subst (λ (s : State). IsAligned s) (sym (caught g c)) (aligned_ahead c.steps.behind c.steps-test.self (left g c).aligned)

-- a step to come that is no plain one ends it, or the number is reached
last : (g : Over) (c : goal.After-catch_up-2 g) → c.steps-test.self.step + c.steps.behind < c.args.number → is_plain (caught_up c.steps.behind c.steps-test.self) c.args.lines ≡ false
last g c = elim c.steps-test.branch [
  | else-steps-test w ↦ λ fewer. absurd (grind (arith, fewer, w.self-is, c.steps.invariant.stands.ran.step, c.self.view_is, w.steps-test.false, c.if-self-number.false))
  | then-steps-test+then-not-show_next w ↦
      let still =
      stays c.args.lines c.steps.behind c.steps.self w.show_next.new.self (g.W.Watcher.has_seen c.steps.seen) (g.W.Watcher.has_seen w.show_next.new.seen) w.show_next.ensures.state w.show_next.ensures.seen
      c.steps.invariant.stands.ran.free (sym w.show_next.ensures.answer ∙ w.if-not-show_next.true)
      in
      λ fewer. ap (λ (u : State). is_plain (caught_up c.steps.behind u) c.args.lines) (w.self-is ∙ still.state) ∙ still.plain
]

pub returns-clause-stops : goal.returns-clause-stops
returns-clause-stops g c = λ fewer. ap (λ (u : State). is_plain u c.args.lines) (caught g c) ∙ last g c (subst (λ (u : State). u.step < c.args.number) (caught g c) fewer)

pub returns-then-is_some-clause-stops : goal.returns-then-is_some-clause-stops
returns-then-is_some-clause-stops g c = λ fewer. waiting_plain _ _ (grind (arith, c.self.view_is, c.pending.ensures, c.is_some.ensures, c.if-is_some.true))

-- no step is done
pub returns-then-self-number-clause-runs : goal.returns-then-self-number-clause-runs
returns-then-self-number-clause-runs g c = loop_first hart c.args.number (unfed steps_of c.args.lines c.args.self.now) (g.W.Watcher.has_seen c.args.seen.now)

pub returns-then-is_some-clause-runs : goal.returns-then-is_some-clause-runs
returns-then-is_some-clause-runs g c = loop_first hart c.args.number (unfed steps_of c.args.lines c.args.self.now) (g.W.Watcher.has_seen c.args.seen.now)

pub returns-then-self-number-clause-plain : goal.returns-then-self-number-clause-plain
returns-then-self-number-clause-plain g c = plain_at_first c.args.lines c.args.self.now

pub returns-then-self-number-clause-state : goal.returns-then-self-number-clause-state
returns-then-self-number-clause-state g c = after_at_first c.args.lines c.args.self.now

pub returns-then-is_some-clause-plain : goal.returns-then-is_some-clause-plain
returns-then-is_some-clause-plain g c = plain_at_first c.args.lines c.args.self.now

pub returns-then-is_some-clause-state : goal.returns-then-is_some-clause-state
returns-then-is_some-clause-state g c = after_at_first c.args.lines c.args.self.now
