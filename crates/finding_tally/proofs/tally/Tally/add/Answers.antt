use Rattle.std.proofs.Common.{rules}
use Rattle.finding_tally.proofs.TalliedLaws.{tallied_more}
use Rattle.finding_tally.proofs.tally.Tally.add.Goals as goal

pub returns-clause-tallied : goal.returns-clause-tallied
returns-clause-tallied c = tallied_more c.args.self.now _ c.args.finding (search rules)
