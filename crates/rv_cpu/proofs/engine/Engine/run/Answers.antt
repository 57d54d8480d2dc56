-- What is left of an instruction, concluded, is its step.
use Rattle.rv_cpu.proofs.MidwayLaws.{whole_end}
use Rattle.rv_cpu.proofs.engine.Engine.run.Goals as goal

pub returns : goal.returns
returns c = whole_end _ _ _ _ _ _ c.execute-done.ensures c.argument_registers-told.ensures c.conclude.ensures
