use Rattle.std.proofs.Common.{◌≡◌, false, sym, ◌∙◌}
use Rattle.std.specs.List.{list_any}
use Rattle.run_settings.specs.Patterns.{is_read}
use Rattle.run_settings.proofs.PatternLaws.{reads_missing}
use Rattle.run_settings.proofs.turns.has_reads.Goals as goal

pub returns-then-not-has_read : goal.returns-then-not-has_read
returns-then-not-has_read c =
    let missing : list_any (is_read c.loop-reader.reader) c.args.turns.now ≡ false = sym c.has_read.ensures ∙ c.if-not-has_read.true in
    sym (reads_missing c.args.readers c.loop-reader.reader c.args.turns.now c.loop-reader-test.true missing)
