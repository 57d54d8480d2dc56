use Rattle.std.proofs.Common.{not, is_some, refl, sym, ap, ◌∙◌, arith}
use Rattle.any_machine.specs.Held.{held_event}
use Rattle.any_machine.proofs.RunningLaws.{loop_first, loop_next, loop_joins}
use Rattle.any_replay.specs.Standing.{held_of}
use Rattle.any_replay.proofs.RunLaws.{RunEnds, loop_done, loop_off, loop_waits, may_by}
use Rattle.any_replay.proofs.running.run_to.Given.{Over}
use Rattle.any_replay.proofs.running.run_to.Goals as goal

pub turns-init : goal.turns-init
turns-init g c = record {
  so_far = loop_first g.H.Hart.machine c.args.number (held_of g.H.Hart.done c.args.standing.now) (g.W.Watcher.has_seen c.args.seen.now);
  ram = refl;
  size = refl;
  made = refl;
}

-- all steps are done once the fast ones are
done : (g : Over) (c : goal.Then-steps-number g)
    → RunEnds g.H.Hart.machine c.args.number (held_of g.H.Hart.done c.args.standing.now) (held_of g.H.Hart.done c.run_fast.new.standing) (g.W.Watcher.has_seen c.args.seen.now) (g.W.Watcher.has_seen c.run_fast.new.seen)
done g c =
    loop_done g.H.Hart.machine c.args.number (held_of g.H.Hart.done c.args.standing.now) (held_of g.H.Hart.done c.run_fast.new.standing) (g.W.Watcher.has_seen c.args.seen.now) (g.W.Watcher.has_seen c.run_fast.new.seen)
    (loop_joins g.H.Hart.machine c.args.number (held_of g.H.Hart.done c.args.standing.now) (held_of g.H.Hart.done c.turns.standing) (held_of g.H.Hart.done c.run_fast.new.standing)
    (g.W.Watcher.has_seen c.args.seen.now) (g.W.Watcher.has_seen c.turns.seen) (g.W.Watcher.has_seen c.run_fast.new.seen) c.turns.invariant.so_far c.run_fast.ensures.runs)
    (omega (arith, c.steps.ensures, c.if-steps-number.true))

pub returns-then-steps-number-clause-held : goal.returns-then-steps-number-clause-held
returns-then-steps-number-clause-held g c = (done g c).held

pub returns-then-steps-number-clause-shown : goal.returns-then-steps-number-clause-shown
returns-then-steps-number-clause-shown g c = (done g c).shown

-- the step to come cannot be done
waits : (g : Over) (c : goal.Then-is_some g)
    → RunEnds g.H.Hart.machine c.args.number (held_of g.H.Hart.done c.args.standing.now) (held_of g.H.Hart.done c.run_fast.new.standing) (g.W.Watcher.has_seen c.args.seen.now) (g.W.Watcher.has_seen c.run_fast.new.seen)
waits g c =
    loop_waits g.H.Hart.machine c.args.number (held_of g.H.Hart.done c.args.standing.now) (held_of g.H.Hart.done c.run_fast.new.standing) (g.W.Watcher.has_seen c.args.seen.now) (g.W.Watcher.has_seen c.run_fast.new.seen)
    (loop_joins g.H.Hart.machine c.args.number (held_of g.H.Hart.done c.args.standing.now) (held_of g.H.Hart.done c.turns.standing) (held_of g.H.Hart.done c.run_fast.new.standing)
    (g.W.Watcher.has_seen c.args.seen.now) (g.W.Watcher.has_seen c.turns.seen) (g.W.Watcher.has_seen c.run_fast.new.seen) c.turns.invariant.so_far c.run_fast.ensures.runs)
    (ap not (ap is_some (sym c.wait.ensures) ∙ sym c.is_some.ensures ∙ c.if-is_some.true))

pub returns-then-is_some-clause-held : goal.returns-then-is_some-clause-held
returns-then-is_some-clause-held g c = (waits g c).held

pub returns-then-is_some-clause-shown : goal.returns-then-is_some-clause-shown
returns-then-is_some-clause-shown g c = (waits g c).shown

pub turns-preserved : goal.turns-preserved
turns-preserved g c = record {
  so_far =
      loop_next g.H.Hart.machine c.args.number (held_of g.H.Hart.done c.args.standing.now) (held_of g.H.Hart.done c.run_fast.new.standing) (held_of g.H.Hart.done c.step.new.standing)
      (held_event g.H.Hart.machine (held_of g.H.Hart.done c.run_fast.new.standing))
      (g.W.Watcher.has_seen c.args.seen.now) (g.W.Watcher.has_seen c.run_fast.new.seen) (g.W.Watcher.has_seen c.step.new.seen)
      (loop_joins g.H.Hart.machine c.args.number (held_of g.H.Hart.done c.args.standing.now) (held_of g.H.Hart.done c.turns.standing) (held_of g.H.Hart.done c.run_fast.new.standing)
      (g.W.Watcher.has_seen c.args.seen.now) (g.W.Watcher.has_seen c.turns.seen) (g.W.Watcher.has_seen c.run_fast.new.seen) c.turns.invariant.so_far c.run_fast.ensures.runs)
      (omega (arith, c.steps.ensures, c.if-steps-number.false))
      (may_by g.H.Hart.machine c.args.number (held_of g.H.Hart.done c.run_fast.new.standing) (ap is_some c.run_fast.ensures.power) (ap not (ap is_some (sym c.wait.ensures) ∙ sym c.is_some.ensures ∙ c.if-is_some.false)))
      c.step.ensures.held refl c.step.ensures.shown;
  ram = c.step.ensures.ram ∙ c.run_fast.ensures.ram ∙ c.turns.invariant.ram;
  size = c.step.ensures.size ∙ c.run_fast.ensures.size ∙ c.turns.invariant.size;
  made = c.step.ensures.made ∙ c.run_fast.ensures.made ∙ c.turns.invariant.made;
}

-- a power store ended the run
off : (g : Over) (c : goal.After-turns g)
    → RunEnds g.H.Hart.machine c.args.number (held_of g.H.Hart.done c.args.standing.now) (held_of g.H.Hart.done c.turns.standing) (g.W.Watcher.has_seen c.args.seen.now) (g.W.Watcher.has_seen c.turns.seen)
off g c =
    loop_off g.H.Hart.machine c.args.number (held_of g.H.Hart.done c.args.standing.now) (held_of g.H.Hart.done c.turns.standing) (g.W.Watcher.has_seen c.args.seen.now) (g.W.Watcher.has_seen c.turns.seen) c.turns.invariant.so_far
    (c.is_none.ensures ∙ ap not c.turns-test.false)

pub returns-clause-held : goal.returns-clause-held
returns-clause-held g c = (off g c).held

pub returns-clause-shown : goal.returns-clause-shown
returns-clause-shown g c = (off g c).shown
