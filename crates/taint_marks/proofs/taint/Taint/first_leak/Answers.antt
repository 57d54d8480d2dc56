use Rattle.std.proofs.Common.{arith}
use Rattle.std.proofs.lemmas.Grind.{common_steps}
use Rattle.analysis_model.specs.Taint.{most_checked}
use Rattle.taint_marks.proofs.taint.Taint.first_leak.Goals as goal

pub returns-in-Some-Check : goal.returns-in-Some-Check
unfolding most_checked
returns-in-Some-Check c = grind (arith, common_steps)
