-- A calm event leaves all as it is.
use Rattle.std.proofs.Common.{◌++◌, ◌∷◌, [], subst}
use Rattle.redzones.specs.Zones.{Stands}
use Rattle.redzones.proofs.StandsLaws.{Stands-more}
use Rattle.redzones.proofs.zones.RedzonesWatcher.try_see.Goals as goal

pub returns-clause-seen : goal.returns-clause-seen
returns-clause-seen c h calm stands = subst (λ s. Stands s (h ++ c.args.event.now ∷ [])) (c.is_calm.ensures calm) (Stands-more c.args.self.now c.args.event.now h c.requires stands)
