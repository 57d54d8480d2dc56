use Rattle.std.proofs.Common.{◌∙◌}
use Rattle.shadow_state.proofs.SizeLaws.{length_painted}
use Rattle.taint_marks.proofs.taint.Taint.paint.Goals as goal

pub invariant_of-self : goal.invariant_of-self
invariant_of-self c = (c.self.invariant.0, length_painted _ _ _ _ _ c.paint.ensures.painted ∙ c.self.invariant.1, c.self.invariant.2)
