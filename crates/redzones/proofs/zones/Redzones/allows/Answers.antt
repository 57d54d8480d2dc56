use Rattle.list_laws.specs.Least.{least_from}
use Rattle.std.proofs.Common.{refl}
use Rattle.redzones.proofs.zones.Redzones.allows.Goals as goal

pub returns-in-Quiet : goal.returns-in-Quiet
unfolding least_from
returns-in-Quiet c is = rw c.in-Quiet.is refl
