use Rattle.std.proofs.Common.{◌≡◌, length}
use Rattle.format_model.specs.ScriptReading.{pairs_at}
use Rattle.format_model.proofs.ScriptSteps.{with_front}
use Rattle.in_script.proofs.hex.pairs_at.Given as goal

abbrev pub invariant-loop-rest : goal.invariant-loop-rest
invariant-loop-rest l = with_front l.bytes.items (pairs_at l.rest) ≡ pairs_at l.text

abbrev pub decreases-loop-rest : goal.decreases-loop-rest
decreases-loop-rest l = length l.rest
