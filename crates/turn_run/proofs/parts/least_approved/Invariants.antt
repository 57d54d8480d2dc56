use Rattle.std.proofs.Common.{◌≡◌, take}
use Rattle.gate_core.specs.Follow.{approvals}
use Rattle.turn_run.specs.Gates.{least_approved}
use Rattle.turn_run.proofs.parts.least_approved.Given as goal

abbrev pub invariant-loop-reader : goal.invariant-loop-reader
invariant-loop-reader l = l.least ≡ least_approved (approvals l.hub.verdicts) (take l.reader-index l.required)
