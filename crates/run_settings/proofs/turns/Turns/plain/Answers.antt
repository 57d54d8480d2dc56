use Rattle.std.proofs.Common.{◌≡◌, refl, ap, length, arith}
use Rattle.run_settings.specs.Patterns.{reads_below}
use Rattle.run_settings.proofs.PatternLaws.{length-reads, reads_more, plain_pattern}
use Rattle.run_settings.proofs.turns.Turns.plain.Goals as goal

pub loop-reader-init : goal.loop-reader-init
unfolding reads_below
loop-reader-init c = rw (c.add.ensures, c.new-turns.ensures) refl

pub add-requires-in-loop-reader : goal.add-requires-in-loop-reader
add-requires-in-loop-reader c = omega (arith, ap length c.loop-reader.invariant, length-reads c.loop-reader.reader)

pub loop-reader-preserved : goal.loop-reader-preserved
loop-reader-preserved c = rw (c.add-in-loop-reader.ensures, c.loop-reader.invariant, reads_more) refl

pub add-requires-2 : goal.add-requires-2
add-requires-2 c = omega (arith, ap length c.loop-reader.invariant, length-reads c.loop-reader.reader)

pub returns-clause-pattern : goal.returns-clause-pattern
returns-clause-pattern c =
    let whole : c.loop-reader.reader ≡ c.args.readers = omega arith in
    rw (c.add-2.ensures, c.loop-reader.invariant, whole) (plain_pattern c.args.readers)
