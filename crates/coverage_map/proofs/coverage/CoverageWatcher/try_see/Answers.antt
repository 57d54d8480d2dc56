use Rattle.coverage_map.proofs.StandsLaws.{Stands-more}
use Rattle.coverage_map.proofs.coverage.CoverageWatcher.try_see.Goals as goal

pub returns-clause-seen : goal.returns-clause-seen
returns-clause-seen c h done stands = rw c.take_in.ensures (Stands-more c.args.self.now c.args.event.now h c.requires stands)
