-- What redzones keep, and what they stand for.
use Rattle.std.specs.Prelude.{◌≡◌, ℕ, ◌+◌, ◌-◌, ◌*◌, ◌%◌, ◌==◌, true, List, [], ◌∷◌, length, reverse, Option, Some, if◌then◌else◌}
use Rattle.std.specs.Option.{option_map}
use Rattle.run_events.specs.declared.announcement.Announcement.{Announcement}
use Rattle.run_events.specs.declared.announcement.Announcement.TheVariants.{Allocate, Free}
use Rattle.run_events.specs.declared.event.Event.{Event}
use Rattle.run_events.specs.declared.finding.Finding.{Finding}
use Rattle.run_events.specs.declared.finding.Kind.TheVariants as kind
use Rattle.run_events.specs.Announcement.{announced}
use Rattle.analysis_model.specs.Complaints.{Guest, findings}
use Rattle.analysis_model.specs.Heap.{ByteUse, Plain, Live, Red, Freed, use_after, heap_by}
use Rattle.analysis_model.specs.Look.{finding_of}
use Rattle.analysis_model.specs.Made.{guest_made_of}
use Rattle.finding_tally.specs.Tallied.{Tallied, Tallies, tallied_with}
use Rattle.shadow_state.specs.Shade.{Shade, shade, has_byte, painted}
use Rattle.redzones.specs.declared.zones.TheConstants.{LIVE, RED, FREED}

-- what redzones keep: the RAM size in KiB, a value for each byte of RAM, and their findings
pub record Zones : Type 0 where
  pub ram_kib : ℕ
  pub shade : Shade
  pub found : Tallied

-- the use that a value stands for, by its bits
abbrev pub use_coded : ℕ → ByteUse
use_coded value =
    if value % 8 == 0 then Live
    else if value % 4 == 0 then Plain
    else if value % 2 == 0 then Freed
    else Red

-- the use of a byte
abbrev pub use_in : Shade → ℕ → ByteUse
use_in s address = use_coded (shade s address)

-- what they were made of
abbrev pub make_now : Zones → List ℕ
make_now z = 0 ∷ []

-- the guest that they are made for
abbrev pub guest_now : Zones → Guest
guest_now z = guest_made_of z.ram_kib (make_now z)

-- they stand for these events: each byte of RAM has the use that the events gave it, and the findings are theirs
pub record Stands (z : Zones) (events : List Event) : Type 0 where
  pub whole : length z.shade.bytes ≡ 1024 * z.ram_kib
  pub uses : (address : ℕ) → has_byte z.shade address ≡ true → use_in z.shade address ≡ use_after (reverse events) address
  pub tallied : Tallies z.found (findings kind.Heap (guest_now z) events)

-- an announcement paints: a block with its redzones, or a freed block
abbrev pub painted_by : Shade → Option Announcement → Shade
painted_by s (Some (Allocate start size)) = painted (painted s (start - 16) (start + size + 16) RED) start (start + size) LIVE
painted_by s (Some (Free start size)) = painted s start (start + size) FREED
painted_by s _ = s

-- what there is to find at an event
abbrev pub found_now : Zones → Event → Option Finding
found_now z event = option_map (finding_of event) (heap_by z.ram_kib (use_in z.shade) event)

-- after one event more
abbrev pub after : Zones → Event → Zones
after z event = record {
  ram_kib = z.ram_kib;
  shade = painted_by z.shade (announced event);
  found = tallied_with z.found (found_now z event);
}
