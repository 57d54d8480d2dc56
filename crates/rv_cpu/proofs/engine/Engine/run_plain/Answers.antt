-- Each turn of the loop is one more plain step.
use Rattle.std.proofs.Common.{◌∙◌, refl, sym, ap, arith}
use Rattle.hart_model.specs.State.{State}
use Rattle.rv_cpu.specs.Batch.{from, caught_up}
use Rattle.rv_cpu.specs.Plain.{is_plain}
use Rattle.rv_cpu.specs.PlainRun.{are_plain, plain_after}
use Rattle.rv_cpu.proofs.BatchLaws.{ran_first, ran_next, stays_plain, waiting_plain, free_by}
use Rattle.rv_cpu.proofs.engine.Engine.run_plain.Goals as goal
use Rattle.rv_cpu.proofs.engine.Engine.run_plain.Goals.{else-steps-test, then-steps-test+in-None}

pub returns-then-is_some-clause-plain : goal.returns-then-is_some-clause-plain
unfolding are_plain
returns-then-is_some-clause-plain c = refl

pub returns-then-is_some-clause-state : goal.returns-then-is_some-clause-state
unfolding plain_after
returns-then-is_some-clause-state c = refl

pub returns-then-is_some-clause-stops : goal.returns-then-is_some-clause-stops
returns-then-is_some-clause-stops c = λ some. waiting_plain _ _ (grind (arith, c.self.view_is, c.pending.ensures, c.is_some.ensures, c.if-is_some.true))

pub steps-init : goal.steps-init
steps-init c = record {
  ran = ran_first _ _ _ (ap (λ (s : State). s.pc) (sym c.self.view_is)) (free_by _ (grind (arith, c.self.view_is, c.pending.ensures, c.is_some.ensures, c.if-is_some.false)));
  few = omega arith;
}

pub steps-preserved : goal.steps-preserved
steps-preserved c = record { ran = ran_next _ _ _ (from c.go_from.new.self c.steps.pc) _ c.steps.invariant.ran _ c.in-Some.ensures; few = omega (arith, c.steps-test.true) }

pub returns-clause-stops : goal.returns-clause-stops
returns-clause-stops c = elim c.steps-test.branch [
  | else-steps-test w ↦ λ fewer. absurd (omega (arith, fewer, w.steps-test.false))
  | then-steps-test+in-None w ↦ λ fewer.
      let stays = stays_plain c.args.lines c.args.self.now (from c.steps.self c.steps.pc) (from w.go_from.new.self c.steps.pc) c.steps.done c.steps.invariant.ran w.in-None.ensures in
      ap (λ (s : State). is_plain s c.args.lines) (c.catch_up.ensures ∙ ap (λ (s : State). caught_up c.steps.done (from s c.steps.pc)) w.self-is) ∙ stays
]
