-- Entries of a script that are due, and what those before a place say.
use Rattle.std.proofs.Common.{zero, suc}
use Rattle.std.specs.Prelude.{ℕ, ◌-◌, ◌^◌, ◌≤◌, ◌<◌, List, [], ◌∷◌, take, sum_by, slice_get}
use Rattle.std.specs.Option.{option_map_or}
use Rattle.std.specs.List.{filter_map}
use Rattle.machine_model.specs.Script.{Entry}
use Rattle.machine_model.specs.Board.{Arrival, arrivals_of, ticks_by, first_latency, latency_by, last_or}

-- the first so many entries are due once so many steps have begun
abbrev pub AreDue : ℕ → ℕ → List Entry → Type 0
AreDue begun zero entries = Unit {0}
AreDue begun (suc place) [] = ⊥
AreDue begun (suc place) (entry ∷ entries) = (entry.at < begun) × AreDue begun place entries

-- none of these is due before this step
abbrev pub AreLater : ℕ → List Entry → Type 0
AreLater step [] = Unit {0}
AreLater step (entry ∷ entries) = (step ≤ entry.at) × AreLater step entries

-- the step before which the entry at this place is due; where there is none, one that no run reaches
abbrev pub entry_due : List Entry → ℕ → ℕ
entry_due entries place = option_map_or (λ entry. entry.at) (slice_get entries place) (2 ^ 64 - 1)

-- the ticks of the entries before a place, and the latency that they leave in force
abbrev pub ticks_of : Entry → ℕ
ticks_of entry = ticks_by entry.what

abbrev pub ticks_before : ℕ → List Entry → ℕ
ticks_before place entries = sum_by ticks_of (take place entries)

abbrev pub latency_before : ℕ → List Entry → ℕ
latency_before place entries =
    last_or first_latency (filter_map (λ entry. latency_by entry.what) (take place entries))

-- the serial bytes of the entry at a place
abbrev pub arrivals_at : ℕ → List Entry → List Arrival
arrivals_at place entries = option_map_or arrivals_of (slice_get entries place) []
