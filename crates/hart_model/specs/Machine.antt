-- The hart as a machine.
use Rattle.std.specs.Prelude.{ℕ, ◌%◌, Bool, ◌&&◌, ◌==◌, length}
use Rattle.any_machine.specs.Machine.{Machine}
use Rattle.memory_map.specs.Ram.{in_ram}
use Rattle.hart_model.specs.State.{State}
use Rattle.hart_model.specs.Step.{cpu, needs, touch}

-- the address is that of an aligned word in RAM
abbrev pub holds_word : State → ℕ → Bool
holds_word s address = address % 4 == 0 && in_ram (length s.ram) address 4

unfoldable pub hart : Machine State
hart = record { needs = needs; step = cpu; touch = touch; holds = holds_word }
