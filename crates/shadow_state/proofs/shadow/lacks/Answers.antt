use Rattle.shadow_state.proofs.WordLaws.{lacks_marked}
use Rattle.shadow_state.proofs.shadow.lacks.Goals as goal

pub returns-clause-marked : goal.returns-clause-marked
returns-clause-marked c = lacks_marked c.args.four c.args.set c.requires c.ranges.set.fits c.from_le_bytes.result c.from_le_bytes-2.result c.from_le_bytes.ensures c.from_le_bytes-2.ensures
