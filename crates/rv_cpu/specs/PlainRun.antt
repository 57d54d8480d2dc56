-- Plain steps, one after the other.
use Rattle.std.proofs.Common.{zero, suc}
use Rattle.std.specs.Prelude.{ℕ, Bool, true, ◌&&◌, None}
use Rattle.hart_model.specs.State.{State}
use Rattle.hart_model.specs.Step.{cpu}
use Rattle.rv_cpu.specs.Plain.{is_plain}

-- the state after a step with these lines that is given nothing
abbrev pub plain_next : (lines : ℕ) → State → State
plain_next lines s = (cpu s lines None).1

-- the state after so many of them
unfoldable pub plain_after : (lines count : ℕ) → State → State
plain_after lines zero s = s
plain_after lines (suc count) s = plain_after lines count (plain_next lines s)

-- each of the next so many is a plain one
unfoldable pub are_plain : (lines count : ℕ) → State → Bool
are_plain lines zero s = true
are_plain lines (suc count) s = is_plain s lines && are_plain lines count (plain_next lines s)
