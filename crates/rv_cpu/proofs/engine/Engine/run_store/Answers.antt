-- What is left of an instruction, concluded, is its step.
use Rattle.rv_cpu.proofs.MidwayLaws.{whole_end}
use Rattle.rv_cpu.proofs.engine.Engine.run_store.Goals as goal

pub returns : goal.returns
returns c = whole_end _ _ _ _ _ _ c.store-done.ensures c.argument_registers-told.ensures c.conclude.ensures
