-- The heap: redzones beside its blocks, and blocks that were freed.
use Rattle.std.specs.Prelude.{ℕ, ◌+◌, ◌-◌, Bool, true, false, not, List, [], ◌∷◌, Option, None, Some, unwrap_or, if◌then◌else◌}
use Rattle.std.specs.Option.{option_map, option_or}
use Rattle.list_laws.specs.Least.{is_between, least_from}
use Rattle.run_events.specs.declared.access.Access.{Access}
use Rattle.run_events.specs.declared.announcement.Announcement.{Announcement}
use Rattle.run_events.specs.declared.announcement.Announcement.TheVariants.{Allocate, Free}
use Rattle.run_events.specs.declared.event.Event.{Event}
use Rattle.run_events.specs.declared.event.Event.TheVariants.{Exec}
use Rattle.run_events.specs.declared.finding.FindingKind.{FindingKind}
use Rattle.run_events.specs.declared.finding.FindingKind.TheVariants as finding
use Rattle.run_events.specs.Access.{touched_from, touched_len, is_of_device}
use Rattle.run_events.specs.Announcement.{announced_by, announced}
use Rattle.analysis_model.specs.InRam.{least_in_ram}
use Rattle.analysis_model.specs.Look.{Complaint}

-- what a byte is used for
pub data ByteUse : Type 0 where
  Plain : ByteUse
  Live : ByteUse
  Red : ByteUse
  Freed : ByteUse

-- what an announcement makes of a byte. A block that is allocated is live, and 16 bytes on either side of it are red.
abbrev pub use_made : Option Announcement → ℕ → Option ByteUse
use_made (Some (Allocate start size)) address =
    if is_between start (start + size) address then Some Live
    else if is_between (start - 16) (start + size + 16) address then Some Red
    else None
use_made (Some (Free start size)) address =
    if is_between start (start + size) address then Some Freed else None
use_made _ address = None

-- the use of a byte after these events, the newest first: what the last announcement made of it that covers it
abbrev pub use_after : List Event → ℕ → ByteUse
use_after [] address = Plain
use_after (last ∷ before) address =
    unwrap_or (use_made (announced last) address) (use_after before address)

-- no access may touch the byte
abbrev pub is_forbidden : ByteUse → Bool
is_forbidden Plain = false
is_forbidden Live = false
is_forbidden Red = true
is_forbidden Freed = true

-- only a live byte may be freed
abbrev pub is_live : ByteUse → Bool
is_live Plain = false
is_live Live = true
is_live Red = false
is_live Freed = false

-- an access that touches a forbidden byte
abbrev pub touch_kind : ByteUse → FindingKind
touch_kind Plain = finding.Red
touch_kind Live = finding.Red
touch_kind Red = finding.Red
touch_kind Freed = finding.Freed

abbrev pub bad_touch : (ℕ → ByteUse) → ℕ → Complaint
bad_touch use_of address = record { kind = touch_kind (use_of address); address = address }

-- the least forbidden byte of an access to RAM
abbrev pub touch : (ℕ → ByteUse) → Access → Option Complaint
touch use_of access =
    if is_of_device access then None
    else option_map (bad_touch use_of) (least_from (λ address. is_forbidden (use_of address)) (touched_from access) (touched_len access))

abbrev pub bad_free : ℕ → Complaint
bad_free address = record { kind = finding.BadFree; address = address }

-- the least byte of RAM in a freed block that was not live
abbrev pub free : ℕ → (ℕ → ByteUse) → Option Announcement → Option Complaint
free kib use_of (Some (Free start size)) =
    option_map bad_free
    (least_in_ram kib (λ address. not (is_live (use_of address))) start (start + size))
free kib use_of _ = None

-- what there is to complain of an event, where bytes have these uses before it
abbrev pub heap_by : ℕ → (ℕ → ByteUse) → Event → Option Complaint
heap_by kib use_of (Exec step pc word next result access told) =
    option_or (free kib use_of (announced_by word told)) (touch use_of access)
heap_by kib use_of _ = None

-- of a RAM of so many KiB: an access that touches a red or a freed byte, and the freeing of bytes that were not live
abbrev pub heap : ℕ → List Event → Event → Option Complaint
heap kib before event = heap_by kib (use_after before) event
