use Rattle.any_machine.proofs.law.prefix_fits.Goals as goal
use Rattle.any_machine.proofs.Determinism as determinism
use Rattle.any_machine.proofs.ShownBySteps.{shown_by_steps}

pub returns-clause-fits : goal.returns-clause-fits
returns-clause-fits g c = λ start run prefix runs is. record {
  fits = determinism.prefix_fits g.H.Hart.machine start run prefix runs is;
  executes = determinism.prefix_executed g.H.Hart.machine start run prefix runs is;
  shows = determinism.shown_first g.H.Hart.machine start run prefix runs is;
}

pub returns-clause-by_steps : goal.returns-clause-by_steps
returns-clause-by_steps g c = λ start run prefix first runs is. shown_by_steps g.H.Hart.machine g.H.Hart.done g.met.H.Hart.counts start run prefix first runs is

pub returns-clause-whole : goal.returns-clause-whole
returns-clause-whole g c = λ start run runs. determinism.shown_whole g.H.Hart.machine start run runs
