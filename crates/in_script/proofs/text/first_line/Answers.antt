use Rattle.std.proofs.Common.{sym, ap, ◌∙◌}
use Rattle.format_model.proofs.ScriptSteps.{texts_by, lines_parted}
use Rattle.in_script.proofs.text.first_line.Goals as goal

pub returns-in-Some : goal.returns-in-Some
returns-in-Some c = texts_by c.args.file.now c.requires ∙ sym (ap (lines_parted c.args.file.now) c.in-Some.ensures)

pub returns-in-None : goal.returns-in-None
returns-in-None c = texts_by c.args.file.now c.requires ∙ sym (ap (lines_parted c.args.file.now) c.in-None.ensures)
