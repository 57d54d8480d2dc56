-- The laws of a step, of the engine inside.
use Rattle.rv_cpu.proofs.CpuLaws.{step_sound, step_sized, step_fits}
use Rattle.rv_cpu.proofs.cpu.Cpu.step.Goals as goal

pub invariant_of-self : goal.invariant_of-self
invariant_of-self c = step_sound _ _ _ _ _ c.step.ensures c.self.invariant

pub returns-clause-size : goal.returns-clause-size
returns-clause-size c = rw (← c.self.view_is) (step_sized _ _ _ _ _ c.step.ensures)

pub returns-clause-fits : goal.returns-clause-fits
returns-clause-fits c = λ kib size. step_fits _ _ _ _ _ c.step.ensures kib c.self.invariant.aligned (rw c.self.view_is size)
