-- The event is that of the step.
use Rattle.std.proofs.Common.{◌≡◌, ◌++◌, ◌∷◌, [], true, Some, sym, ap, subst}
use Rattle.memory_map.specs.declared.TheConstants.{POWER}
use Rattle.run_events.specs.declared.event.Event.{Event}
use Rattle.any_machine.specs.Machine.{is_load}
use Rattle.hart_model.specs.Machine.{hart}
use Rattle.hart_model.specs.State.{State}
use Rattle.hart_model.specs.Step.{needs}
use Rattle.rv_cpu.proofs.CpuLaws.{step_fits, step_sized, step_sound}
use Rattle.rv_cpu.proofs.FedLaws.{fed_stores}
use Rattle.rv_cpu.proofs.engine.Engine.feed_shown.Goals as goal

pub show-requires : goal.show-requires
show-requires g c = step_fits c.args.self.now c.step_fed.new.self c.args.lines (Some c.args.supplied) c.in-Some.event c.in-Some.ensures.step _ c.requires.aligned c.requires.size

pub returns-in-Some-clause-fed : goal.returns-in-Some-clause-fed
unfolding hart
returns-in-Some-clause-fed g c = λ _.
    let s = c.args.self.now in
    let loads : is_load (needs s c.args.lines) ≡ true = sym c.in-Some.ensures.loads in
    record {
      loads = loads;
      state = ap (λ (x : Event × State). x.1) c.in-Some.ensures.step;
      runs = fed_stores s c.args.lines (Some c.args.supplied) loads POWER;
      seen = λ h was.
          subst (λ (e : Event). g.W.Watcher.has_seen c.show.new.seen (h ++ e ∷ [])) (sym (ap (λ (x : Event × State). x.0) c.in-Some.ensures.step)) (c.show.ensures.seen h was);
    }

pub returns-in-Some-clause-aligned : goal.returns-in-Some-clause-aligned
returns-in-Some-clause-aligned g c =
    (step_sound c.args.self.now c.step_fed.new.self c.args.lines (Some c.args.supplied) c.in-Some.event c.in-Some.ensures.step (record { aligned = c.requires.aligned })).aligned

pub returns-in-Some-clause-ram : goal.returns-in-Some-clause-ram
returns-in-Some-clause-ram g c = step_sized c.args.self.now c.step_fed.new.self c.args.lines (Some c.args.supplied) c.in-Some.event c.in-Some.ensures.step
