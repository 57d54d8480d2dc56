use Rattle.gate_core.proofs.LaterLaws.{nothing_back}
use Rattle.gate_core.proofs.core_law.core_takes_nothing_back.Goals as goal

pub returns : goal.returns
returns c = nothing_back
