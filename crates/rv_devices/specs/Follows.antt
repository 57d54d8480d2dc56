-- What a schedule stands for.
use Rattle.std.specs.Prelude.{◌≡◌, ℕ, ◌≤◌, ◌<◌, List, drop, length, slice_get, Option, None, if◌then◌else◌, nat_lt}
use Rattle.std.specs.List.{flat_map}
use Rattle.machine_model.specs.Script.{Entry}
use Rattle.machine_model.specs.Board.{Arrival, arrivals_of}
use Rattle.rv_devices.specs.Entries.{AreDue, AreLater, latency_before, arrivals_at}
use Rattle.rv_devices.specs.declared.schedule.Schedule.{Schedule}

-- the serial bytes that it has still to give
abbrev pub left_of : Schedule → List Arrival
left_of schedule =
    drop schedule.taken (flat_map arrivals_of (drop schedule.source schedule.entries.items))

-- and the one that waits
abbrev pub next_byte : Schedule → Option Arrival
next_byte schedule =
    if nat_lt schedule.source schedule.place
    then slice_get (arrivals_at schedule.source schedule.entries.items) schedule.taken
    else None

-- A schedule of these entries, where so many steps have begun and so many serial bytes were taken.
pub record Follows (entries : List Entry) (begun taken : ℕ) (schedule : Schedule) : Type 0 where
  pub entries_are : schedule.entries.items ≡ entries
  pub due : AreDue begun schedule.place entries
  pub later : AreLater begun (drop schedule.place entries)
  pub latency_is : schedule.latency ≡ latency_before schedule.place entries
  pub within : schedule.source ≤ schedule.place
  pub left : drop taken (flat_map arrivals_of entries) ≡ left_of schedule
  pub clear : schedule.source < schedule.place
      → schedule.taken < length (arrivals_at schedule.source entries)
  pub fresh : schedule.place ≤ schedule.source → schedule.taken ≡ 0
