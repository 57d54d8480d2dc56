-- A command of the disk that is begun.
use Rattle.std.proofs.Common.{◌≡◌, ℕ, ◌+◌, ◌<◌, ◌≤◌, Bool, true, false, List, [], length, refl, arith}
use Rattle.std.specs.Prelude.{◌==◌, if◌then◌else◌}
use Rattle.memory_map.specs.declared.TheConstants.{RAM_START}
use Rattle.machine_model.specs.Script.{Script}
use Rattle.machine_model.specs.Board as model

-- a status other than 1 is not busy
pub not_busy : (a : model.Activity) → (model.status_of a ≡ 1 → ⊥) → model.is_busy a ≡ false
not_busy model.Idle other = refl
not_busy (model.Busy command) other = absurd (other refl)
not_busy model.Done other = refl
not_busy model.Refused other = refl

-- an accepted command's bytes are in RAM
pub accepted_below : (size count command sector address : ℕ) → model.is_accepted size count command sector address ≡ true → address + 512 ≤ RAM_START + size
accepted_below size count command sector address is = grind (arith, is)

-- which of four a command does
chosen_write : {X : Type 0} (busy accepted reads : Bool) (same read write refused : X) → busy ≡ false → accepted ≡ true → reads ≡ false → (if busy then same else (if accepted then (if reads then read else write) else refused)) ≡ write
chosen_write busy accepted reads same read write refused b a r = rw (b, a, r) refl

pub writing : (script : Script) (step : ℕ) (ram : List ℕ) (command : ℕ) (b : model.BoardState) → model.is_busy b.activity ≡ false → model.is_accepted (length ram) (model.sector_count b.bytes) command b.sector b.address ≡ true → (command == 1) ≡ false → model.commanded script step ram command b ≡ record b { activity = model.busy_until (step + model.latency script step) []; bytes = model.with_sector ram b }
writing script step ram command b idle accepted writes = chosen_write (model.is_busy b.activity) _ (command == 1) b _ _ _ idle accepted writes

-- it names a sector that is there
pub accepted_sector : (size count command sector address : ℕ) → model.is_accepted size count command sector address ≡ true → sector < count
accepted_sector size count command sector address is = grind (arith, is)
