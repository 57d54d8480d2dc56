use Rattle.std.proofs.Common.{refl, sym, ◌∙◌}
use Rattle.shadow_state.proofs.SizeLaws.{length_painted}
use Rattle.lock_rules.proofs.ShadedLaws.{AreShaded-more}
use Rattle.lock_rules.proofs.locks.Locks.add_guard.Goals as goal

pub invariant_of-self : goal.invariant_of-self
invariant_of-self c = (
  c.self.invariant.0,
  c.push_reserved.ensures.capacity ∙ c.self.invariant.1,
  length_painted _ _ _ _ _ c.paint.ensures.painted ∙ c.self.invariant.2,
  rw (c.push_reserved.ensures.items, c.paint.ensures.painted) (AreShaded-more c.self.inside.guarded _ _ c.self.inside.guards.items _ (sym c.from-from.ensures) refl c.self.invariant.3),
)
