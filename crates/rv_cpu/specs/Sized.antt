-- Which words RAM holds depends on its size alone.
use Rattle.std.specs.Prelude.{◌≡◌, ℕ, ◌%◌, ◌==◌, ◌&&◌, length}
use Rattle.std.proofs.Common.{ap}
use Rattle.memory_map.specs.Ram.{in_ram}
use Rattle.hart_model.specs.Machine.{hart}
use Rattle.hart_model.specs.State.{State}

pub hart_sized : (s t : State) (address : ℕ) → length s.ram ≡ length t.ram → hart.holds s address ≡ hart.holds t address
unfolding hart
hart_sized s t address same = ap (λ (size : ℕ). address % 4 == 0 && in_ram size address 4) same
