use Rattle.std.proofs.Common.{◌≡◌, ◌+◌, length}
use Rattle.format_model.specs.Script.{texts_of}
use Rattle.format_model.specs.ScriptReading.{nothing, lines_at}
use Rattle.in_script.proofs.reading.lines_of.Given as goal

abbrev pub invariant-loop-rest : goal.invariant-loop-rest
invariant-loop-rest l = record {
  numbered : l.number + length (texts_of l.rest) ≡ length (texts_of l.file);
  so_far : lines_at l.draft (l.number + 1) (texts_of l.rest) ≡ lines_at nothing 1 (texts_of l.file);
}

abbrev pub decreases-loop-rest : goal.decreases-loop-rest
decreases-loop-rest l = length (texts_of l.rest)
