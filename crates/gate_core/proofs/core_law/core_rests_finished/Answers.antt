use Rattle.gate_core.proofs.RestLaws.{rests_finished}
use Rattle.gate_core.proofs.core_law.core_rests_finished.Goals as goal

pub returns : goal.returns
returns c = rests_finished
