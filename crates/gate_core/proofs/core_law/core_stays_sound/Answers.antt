use Rattle.gate_core.proofs.CoreLaws.{stays_IsSound}
use Rattle.gate_core.proofs.core_law.core_stays_sound.Goals as goal

pub returns : goal.returns
returns c = stays_IsSound
