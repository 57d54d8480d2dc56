use Rattle.std.proofs.Common.{◌≡◌, true}
use Rattle.run_settings.specs.Patterns.{has_reads}
use Rattle.run_settings.proofs.turns.has_reads.Given as goal

abbrev pub invariant-loop-reader : goal.invariant-loop-reader
invariant-loop-reader l = has_reads l.reader l.turns ≡ true
