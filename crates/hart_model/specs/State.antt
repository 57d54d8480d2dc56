-- The state of the hart and of its RAM.
use Rattle.std.specs.Prelude.{ℕ, ◌==◌, List, Option, None, slice_index, slice_set, replicate, if◌then◌else◌}
use Rattle.run_events.specs.declared.access.Told.{Told}
use Rattle.rv_csr.specs.declared.csrs.Csrs.{Csrs}
use Rattle.rv_csr.specs.Csrs.{reset}

pub record State : Type 0 where
  -- x0 to x31, of which x0 is always 0
  pub registers : List ℕ
  -- the address of the next instruction
  pub pc : ℕ
  pub csrs : Csrs
  -- the bytes of RAM
  pub ram : List ℕ
  -- the address of the reserved word
  pub reservation : Option ℕ
  -- the number of steps done
  pub step : ℕ

-- what a register holds
abbrev pub register : State → ℕ → ℕ
register s index = slice_index s.registers index

-- what a register takes of a value: x0 takes 0. (Unprivileged manual, 2.1.)
abbrev pub taken : ℕ → ℕ → ℕ
taken rd value = if rd == 0 then 0 else value

-- the registers after a value was written to rd
abbrev pub with_register : List ℕ → ℕ → ℕ → List ℕ
with_register registers rd value = slice_set registers rd (taken rd value)

-- x10, x11 and x12
abbrev pub told_by : List ℕ → Told
told_by registers = record {
  a0 = slice_index registers 10;
  a1 = slice_index registers 11;
  a2 = slice_index registers 12;
}

-- the hart at step 0 over this RAM
abbrev pub reset_state : List ℕ → ℕ → State
reset_state ram entry = record {
  registers = replicate 32 0;
  pc = entry;
  csrs = reset;
  ram = ram;
  reservation = None;
  step = 0;
}
