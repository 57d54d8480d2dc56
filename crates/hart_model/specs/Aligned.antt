-- Where instructions can begin.
use Rattle.std.specs.Prelude.{◌≡◌, ◌%◌}
use Rattle.memory_map.specs.declared.TheConstants.{GRAIN}
use Rattle.hart_model.specs.State.{State}

-- instructions can begin at the pc, and where a trap returns to
pub record IsAligned (s : State) : Type 0 where
  pub pc : s.pc % GRAIN ≡ 0
  pub mepc : s.csrs.mepc % GRAIN ≡ 0
