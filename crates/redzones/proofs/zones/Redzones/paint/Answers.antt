use Rattle.std.proofs.Common.{◌∙◌}
use Rattle.shadow_state.proofs.SizeLaws.{length_painted}
use Rattle.redzones.proofs.zones.Redzones.paint.Goals as goal

pub invariant_of-self : goal.invariant_of-self
invariant_of-self c = length_painted _ _ _ _ _ c.paint-in-Some-Allocate.ensures.painted ∙ length_painted _ _ _ _ _ c.paint.ensures.painted ∙ c.self.invariant
