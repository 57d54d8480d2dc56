-- Where an event finds no mark that it could move.
use Rattle.std.specs.Prelude.{◌≡◌, ℕ, ◌+◌, ◌≤◌, ◌<◌, false}
use Rattle.run_events.specs.declared.access.Access.{Access}
use Rattle.run_events.specs.Access.{touched_from, touched_len, is_of_device}
use Rattle.analysis_model.specs.Taint.{Register, Scratch, Byte}
use Rattle.rv_decode.specs.Fields.{rd_of, rs1_of, rs2_of}
use Rattle.taint_marks.specs.Marks.{Marks, mark_now}

-- neither mscratch has a mark nor a register that a field of the word names, whether the instruction has that field or not
pub record AreUnmarked (m : Marks) (word : ℕ) : Type 0 where
  pub rd : mark_now m (Register (rd_of word)) ≡ 0
  pub rs1 : mark_now m (Register (rs1_of word)) ≡ 0
  pub rs2 : mark_now m (Register (rs2_of word)) ≡ 0
  pub scratch : mark_now m Scratch ≡ 0

-- none of so many bytes from an address on has one
abbrev pub NoneMarked : Marks → ℕ → ℕ → Type 0
NoneMarked m address width = (a : ℕ) → address ≤ a → a < address + width → mark_now m (Byte a) ≡ 0

-- an access touches no marked byte, and no device
pub record IsUnmarked (m : Marks) (access : Access) : Type 0 where
  pub in_ram : is_of_device access ≡ false
  pub bytes : NoneMarked m (touched_from access) (touched_len access)
