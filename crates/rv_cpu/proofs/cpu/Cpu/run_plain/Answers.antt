-- The laws of several steps, of the engine inside.
use Rattle.std.proofs.Common.{◌≡◌, length, subst}
use Rattle.rv_cpu.specs.Sound.{IsSound}
use Rattle.hart_model.specs.State.{State}
use Rattle.rv_cpu.proofs.CpuLaws.{after_sound, after_sized}
use Rattle.rv_cpu.proofs.cpu.Cpu.run_plain.Goals as goal

pub invariant_of-self : goal.invariant_of-self
invariant_of-self c = subst (λ (s : State). IsSound s) c.run_plain.ensures.state (after_sound _ _ _ c.self.invariant)

pub returns-clause-size : goal.returns-clause-size
returns-clause-size c =
    rw (← c.self.view_is) (subst (λ (s : State). length s.ram ≡ length c.self.inside.engine.ram) c.run_plain.ensures.state (after_sized _ _ _))
