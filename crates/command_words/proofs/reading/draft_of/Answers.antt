use Rattle.std.proofs.Common.{map, string_bytes}
use Rattle.std.proofs.lemmas.List.{length-map}
use Rattle.command_words.proofs.RoleLaws.{has_read_all, refused_more}
use Rattle.command_words.proofs.reading.draft_of.Goals as goal

pub returns-in-Err-clause-err : goal.returns-in-Err-clause-err
returns-in-Err-clause-err c =
    let read = c.loop-index.invariant.so_far in
    refused_more c.args.command (map string_bytes c.args.words.now) c.loop-index.index c.loop-index.draft c.in-Err.fault read (c.in-Err.ensures.refused read.before read.holds)

pub returns-clause-ok : goal.returns-clause-ok
returns-clause-ok c = has_read_all c.args.command (map string_bytes c.args.words.now) c.loop-index.index c.loop-index.draft (rw length-map c.loop-index-test.false) c.loop-index.invariant.so_far
