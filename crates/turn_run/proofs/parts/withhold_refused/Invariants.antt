use Rattle.std.proofs.Common.{◌≡◌, take}
use Rattle.turn_run.specs.Gates.{refusals, withheld_from}
use Rattle.turn_run.proofs.parts.withhold_refused.Given as goal

abbrev pub invariant-loop-reader : goal.invariant-loop-reader
invariant-loop-reader l = l.gate ≡ withheld_from (refusals l.hub (take l.reader-index l.required)) l.fn.gate
