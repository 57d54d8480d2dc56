use Rattle.redzones.proofs.StandsLaws.{Stands-more}
use Rattle.redzones.proofs.zones.RedzonesWatcher.see.Goals as goal

pub returns-clause-seen : goal.returns-clause-seen
returns-clause-seen c h stands = rw c.take_in.ensures (Stands-more c.args.self.now c.args.event.now h c.requires stands)
