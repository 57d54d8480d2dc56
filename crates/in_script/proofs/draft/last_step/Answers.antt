use Rattle.std.proofs.Common.{sym, ap, ◌∙◌, arith}
use Rattle.machine_model.specs.Script.{Entry}
use Rattle.format_model.proofs.ScriptSteps.{last_step_at}
use Rattle.in_script.proofs.draft.last_step.Goals as goal

pub returns-in-len1-up : goal.returns-in-len1-up
returns-in-len1-up c =
    ap (λ (e : Entry). e.at) c.last.view_is ∙ sym (last_step_at c.args.entries.now _ c.last-item.result (omega arith) c.last-item.is)
