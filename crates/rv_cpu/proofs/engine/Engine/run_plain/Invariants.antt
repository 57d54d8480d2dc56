use Rattle.std.proofs.Common.{◌-◌, ◌≤◌}
use Rattle.rv_cpu.specs.Batch.{from}
use Rattle.rv_cpu.proofs.BatchLaws.{Ran}
use Rattle.rv_cpu.proofs.engine.Engine.run_plain.Given as goal

-- so many plain steps were done
abbrev pub invariant-steps : goal.invariant-steps
invariant-steps l = record { ran : Ran l.lines l.fn.self (from l.self l.pc) l.done; few : l.done ≤ l.at_most }

abbrev pub decreases-steps : goal.decreases-steps
decreases-steps l = l.at_most - l.done
