use Rattle.coverage_map.proofs.ExecutedLaws.{Stands-AreExecuted}
use Rattle.coverage_map.proofs.coverage.Coverage.ranges.Goals as goal

pub returns-clause-executed : goal.returns-clause-executed
returns-clause-executed c h stands = Stands-AreExecuted c.args.self.now h stands
