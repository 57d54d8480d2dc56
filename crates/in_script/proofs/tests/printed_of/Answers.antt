use Rattle.in_script.proofs.tests.printed_of.Goals as goal

pub print-requires : goal.print-requires
print-requires c = (c.args.text.now, c.in-Ok.ensures)
