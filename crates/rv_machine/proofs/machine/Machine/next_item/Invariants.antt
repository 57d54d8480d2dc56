-- The turns so far gave no item, and did steps before the next multiple of 256.
use Rattle.rv_machine.proofs.MoveLaws.{GoneOn}
use Rattle.rv_machine.proofs.machine.Machine.next_item.Given as goal

abbrev pub invariant-turns : goal.invariant-turns
invariant-turns l = GoneOn l._turn l.fn.self l.self
