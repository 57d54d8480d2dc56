use Rattle.in_script.proofs.Readings.{again_of}
use Rattle.in_script.proofs.writing.print.Goals as goal

pub returns-clause-again : goal.returns-clause-again
returns-clause-again c = again_of c.args.script.now c.canonical_text.result c.requires c.canonical_text.ensures
