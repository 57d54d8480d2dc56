use Rattle.std.proofs.Common.{◌≡◌, ◌∷◌}
use Rattle.run_settings.specs.declared.letter.Letter.TheVariants.{Record}
use Rattle.run_settings.specs.Patterns.{reads_below}
use Rattle.run_settings.proofs.turns.Turns.plain.Given as goal

abbrev pub invariant-loop-reader : goal.invariant-loop-reader
invariant-loop-reader l = l.turns ≡ Record ∷ reads_below l.reader
