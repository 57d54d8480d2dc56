-- Plain steps: an instruction is executed that is no fence, no atomic and none of the privileged manual, and accesses no
-- device.
use Rattle.std.specs.Prelude.{ℕ, Bool, true, false, not, ◌&&◌, Option, None, Some, is_none}
use Rattle.run_events.specs.Access.{is_of_device}
use Rattle.rv_decode.specs.declared.instruction.Instr.{Instr}
use Rattle.rv_decode.specs.declared.instruction.Instr.TheVariants as instr
use Rattle.rv_csr.specs.Traps.{pending}
use Rattle.hart_model.specs.Effect.{Outcome, Does, Raises}
use Rattle.hart_model.specs.Fetch.{Fetch, Found, Outside, fetched}
use Rattle.hart_model.specs.State.{State}
use Rattle.hart_model.specs.Step.{outcome}

-- the instructions of plain steps
abbrev pub is_plain_instr : Instr → Bool
is_plain_instr (instr.Fence op rd rs1 imm) = false
is_plain_instr (instr.Atomic op rd rs1 rs2 order) = false
is_plain_instr (instr.Csr op rd source csr) = false
is_plain_instr instr.Ecall = false
is_plain_instr instr.Ebreak = false
is_plain_instr instr.Mret = false
is_plain_instr instr.Wfi = false
is_plain_instr _ = true

-- what they come to in a plain step: no exception, and no device
abbrev pub is_plain_outcome : Outcome → Bool
is_plain_outcome (Does e) = not (is_of_device e.access)
is_plain_outcome (Raises cause value) = false

abbrev pub is_plain_decoded : State → (lines word size : ℕ) → Option Instr → Bool
is_plain_decoded s lines word size None = false
is_plain_decoded s lines word size (Some i) = is_plain_instr i && is_plain_outcome (outcome s lines None word size i)

abbrev pub is_plain_fetched : State → (lines : ℕ) → Fetch → Bool
is_plain_fetched s lines (Found f) = is_plain_decoded s lines f.word f.size f.instr
is_plain_fetched s lines (Outside address) = false

-- the next step, with these interrupt lines, is a plain one
unfoldable pub is_plain : State → (lines : ℕ) → Bool
is_plain s lines = is_none (pending s.csrs lines) && is_plain_fetched s lines (fetched s.ram s.pc)
