-- What marked input keeps, and what it stands for.
use Rattle.std.specs.Prelude.{◌≡◌, ℕ, ◌+◌, ◌*◌, List, [], ◌∷◌, length, reverse, slice_index, slice_set, Option, None, Some, unwrap_or, if◌then◌else◌}
use Rattle.std.specs.Option.{option_map}
use Rattle.run_events.specs.declared.event.Event.{Event}
use Rattle.run_events.specs.declared.finding.Finding.{Finding}
use Rattle.run_events.specs.declared.finding.Kind.TheVariants as kind
use Rattle.analysis_model.specs.Complaints.{Guest, findings}
use Rattle.analysis_model.specs.Look.{finding_of}
use Rattle.analysis_model.specs.Made.{guest_made_of}
use Rattle.analysis_model.specs.Taint.{Place, Register, Scratch, Byte, IsPlace, is_general, writes_of, mark_after, taint_by}
use Rattle.finding_tally.specs.Tallied.{Tallied, Tallies, tallied_with}
use Rattle.shadow_state.specs.Shade.{Shade, shade, painted}
use Rattle.taint_marks.specs.Marked.{GivenMarks, marked_by}

-- what it keeps: the RAM size in KiB, the marks of the registers, of mscratch and of each byte of RAM, and the findings
pub record Marks : Type 0 where
  pub ram_kib : ℕ
  pub registers : List ℕ
  pub scratch : ℕ
  pub shade : Shade
  pub found : Tallied

-- the mark of a place
abbrev pub mark_now : Marks → Place → ℕ
mark_now m (Register n) = slice_index m.registers n
mark_now m Scratch = m.scratch
mark_now m (Byte address) = shade m.shade address

-- what it was made of
abbrev pub make_now : Marks → List ℕ
make_now m = 1 ∷ []

-- the guest that it is made for
abbrev pub guest_now : Marks → Guest
guest_now m = guest_made_of m.ram_kib (make_now m)

-- it stands for these events: each place has the mark that the events gave it, and the findings are theirs
pub record Stands (m : Marks) (events : List Event) : Type 0 where
  pub whole : length m.shade.bytes ≡ 1024 * m.ram_kib
  pub general : length m.registers ≡ 32
  pub marks : (place : Place) → IsPlace m.ram_kib place → mark_now m place ≡ mark_after (reverse events) place
  pub tallied : Tallies m.found (findings kind.Taint (guest_now m) events)

-- a mark for a register, for mscratch, for a range of bytes
abbrev pub registers_with : List ℕ → ℕ → Option ℕ → List ℕ
registers_with registers rd None = registers
registers_with registers rd (Some mark) = if is_general rd then slice_set registers rd mark else registers

abbrev pub shade_with : Shade → ℕ → ℕ → Option ℕ → Shade
shade_with s address width None = s
shade_with s address width (Some mark) = painted s address (address + width) mark

abbrev pub with_given : Marks → GivenMarks → Marks
with_given m given = record {
  ram_kib = m.ram_kib;
  registers = registers_with m.registers given.rd given.result;
  scratch = unwrap_or given.scratch m.scratch;
  shade = shade_with m.shade given.address given.width given.stored;
  found = m.found;
}

-- what there is to find at an event
abbrev pub found_now : Marks → Event → Option Finding
found_now m event = option_map (finding_of event) (taint_by m.ram_kib (mark_now m) event)

-- after one event more
abbrev pub after : Marks → Event → Marks
after m event = record (with_given m (marked_by (mark_now m) (writes_of event))) { found = tallied_with m.found (found_now m event) }
