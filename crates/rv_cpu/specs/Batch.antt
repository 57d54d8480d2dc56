-- A plain instruction at a pc that is kept beside the hart, whose counters rise later.
use Rattle.std.proofs.Common.{zero, suc}
use Rattle.std.specs.Prelude.{ℕ, ◌+◌, true, Option, None, Some, if◌then◌else◌}
use Rattle.rv_csr.specs.declared.csrs.Csrs.{Csrs}
use Rattle.rv_csr.specs.Traps.{counted}
use Rattle.rv_decode.specs.declared.instruction.Instr.{Instr}
use Rattle.hart_model.specs.Effect.{Outcome, Does, Raises}
use Rattle.hart_model.specs.Fetch.{Fetch, Found, Outside}
use Rattle.hart_model.specs.State.{State}
use Rattle.hart_model.specs.Step.{outcome}
use Rattle.rv_cpu.specs.Midway.{settled}
use Rattle.rv_cpu.specs.Plain.{is_plain_instr, is_plain_outcome}

-- the hart at another pc
abbrev pub from : State → (pc : ℕ) → State
from s pc = record s { pc = pc }

-- where a plain instruction goes on, none where nothing was done; and the state once it wrote what it writes
pub record Going : Type 0 where
  pub next : Option ℕ
  pub state : State

abbrev pub going : Option ℕ → State → Going
going next s = record { next = next; state = s }

abbrev pub goes : State → Outcome → Going
goes s (Does e) = going (Some e.next) (settled s e)
goes s (Raises cause value) = going None s

-- only where the outcome, the instruction and the fetch are plain ones
abbrev pub goes_plainly : State → Outcome → Going
goes_plainly s o = if is_plain_outcome o then goes s o else going None s

-- a plain instruction sees neither the lines nor its own word
abbrev pub goes_by : State → (size : ℕ) → Instr → Going
goes_by s size i = if is_plain_instr i then goes_plainly s (outcome s 0 None 0 size i) else going None s

abbrev pub goes_decoded : State → (size : ℕ) → Option Instr → Going
goes_decoded s size None = going None s
goes_decoded s size (Some i) = goes_by s size i

abbrev pub goes_fetched : State → Fetch → Going
goes_fetched s (Found f) = goes_decoded s f.size f.instr
goes_fetched s (Outside address) = going None s

-- the registers of control and status after so many steps that retired an instruction
unfoldable pub counted_times : (count : ℕ) → Csrs → Csrs
counted_times zero c = c
counted_times (suc count) c = counted (counted_times count c) true

-- the hart after so many of them, of which this is what they wrote
abbrev pub caught_up : (count : ℕ) → State → State
caught_up count s = record s { csrs = counted_times count s.csrs; step = s.step + count }
