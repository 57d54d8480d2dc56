use Rattle.gate_core.proofs.FinishLaws.{releases_all}
use Rattle.gate_core.proofs.core_law.core_releases_all.Goals as goal

pub returns : goal.returns
returns c = releases_all
