-- The laws of a step, of the engine inside.
use Rattle.rv_cpu.proofs.FedLaws.{fed_sized, fed_sound}
use Rattle.rv_cpu.proofs.cpu.Cpu.step_fed.Goals as goal

pub invariant_of-self : goal.invariant_of-self
invariant_of-self c = fed_sound _ _ _ _ c.step_fed.result c.step_fed.ensures.step c.step_fed.ensures.none c.self.invariant

pub returns-clause-size : goal.returns-clause-size
returns-clause-size c = rw (← c.self.view_is) (fed_sized _ _ _ _ c.step_fed.result c.step_fed.ensures.step c.step_fed.ensures.none)
