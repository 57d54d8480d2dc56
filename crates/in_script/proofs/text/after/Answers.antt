use Rattle.in_script.proofs.Stripped.{stripped_by}
use Rattle.in_script.proofs.text.after.Goals as goal

pub returns : goal.returns
returns c = stripped_by c.strip_prefix.result c.args.word.now c.args.text.now c.strip_prefix.ensures.cases
