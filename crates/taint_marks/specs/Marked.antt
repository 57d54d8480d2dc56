-- The marks that an event gives.
use Rattle.std.specs.Prelude.{ℕ, false, Option, None, Some}
use Rattle.std.specs.Option.{option_map}
use Rattle.run_events.specs.declared.access.Access.{Access}
use Rattle.run_events.specs.declared.access.Access.TheVariants as access
use Rattle.analysis_model.specs.Taint.{Place, mark_of}
use Rattle.analysis_model.specs.Taint as model

-- The marks that an event gives: to the register `rd`, to mscratch, and to `width` bytes from an address on. Where there
-- is none, they keep theirs.
pub record GivenMarks : Type 0 where
  pub rd : ℕ
  pub result : Option ℕ
  pub scratch : Option ℕ
  pub address : ℕ
  pub width : ℕ
  pub stored : Option ℕ

abbrev pub given_none : GivenMarks
given_none = record { rd = 0; result = None; scratch = None; address = 0; width = 0; stored = None }

abbrev pub given_result : ℕ → Option ℕ → GivenMarks → GivenMarks
given_result rd mark given = record given { rd = rd; result = mark }

abbrev pub given_bytes : ℕ → ℕ → ℕ → GivenMarks → GivenMarks
given_bytes address width mark given = record given { address = address; width = width; stored = Some mark }

-- the mark of the bytes of RAM that an access stores
abbrev pub given_stored : Access → ℕ → GivenMarks
given_stored (access.Store address width value false) mark = given_bytes address width mark given_none
given_stored (access.Swap address old new) mark = given_bytes address 4 mark given_none
given_stored _ mark = given_none

-- the marks that come from the sources of what is written
abbrev pub marked_by : (Place → ℕ) → model.Writes → GivenMarks
marked_by marks writes = record {
  rd = writes.rd;
  result = option_map (mark_of marks) writes.result;
  scratch = option_map (mark_of marks) writes.scratch;
  address = writes.address;
  width = writes.width;
  stored = option_map (mark_of marks) writes.stored;
}
