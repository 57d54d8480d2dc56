-- A calm event leaves all as it is.
use Rattle.std.proofs.Common.{◌++◌, ◌∷◌, [], subst}
use Rattle.lock_rules.specs.State.{Stands}
use Rattle.lock_rules.proofs.StateLaws.{Stands-more}
use Rattle.lock_rules.proofs.locks.LocksWatcher.try_see.Goals as goal

pub returns-clause-seen : goal.returns-clause-seen
returns-clause-seen c h calm stands = subst (λ s. Stands s (h ++ c.args.event.now ∷ [])) (c.is_calm.ensures calm) (Stands-more c.args.self.now c.args.event.now h stands)
