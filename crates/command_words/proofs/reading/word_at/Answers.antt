use Rattle.std.proofs.Common.{sym, ◌∙◌}
use Rattle.command_words.proofs.RoleLaws.{word_of}
use Rattle.command_words.proofs.reading.word_at.Goals as goal

pub returns : goal.returns
returns c = word_of c.args.words.now c.args.index _ c.requires c.index-words-index.is ∙ sym c.as_str.ensures.value
