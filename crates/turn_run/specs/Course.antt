-- What a run is to come to: the records of its log, and what its replicas will say of them.
use Rattle.memory_map.specs.declared.TheConstants.{MOST_STEPS}
use Rattle.std.specs.Prelude.{◌≡◌, ℕ, ◌+◌, ◌≤◌, ◌<◌, ◌^◌, true, false, List, [], ◌∷◌, length, map, min, slice_index, IfSome}
use Rattle.std.specs.List.{All}
use Rattle.run_events.specs.declared.record.Record.{Record}
use Rattle.run_events.specs.declared.record.Record.TheVariants.{Reach}
use Rattle.run_events.specs.Record.{IsRecord, is_ordered, reach}
use Rattle.run_events.specs.declared.item.Item.{Item}
use Rattle.any_machine.specs.Log.{before_step, bytes_of, SentByte, steps_of, bytes_in}
use Rattle.gate_core.specs.declared.verdict.Verdict.{Verdict}
use Rattle.gate_core.specs.Core.{Plan, reached}
use Rattle.output_gate.specs.Gate.{Climbs}

-- the records, each with the byte that it lets go; the places of the log; below which step each replica approves once it
-- has seen all; and the numbers of the replicas that have to approve
pub record Course : Type 0 where
  pub items : List Item
  pub cap : ℕ
  pub limits : List ℕ
  pub required : List ℕ

abbrev pub log_of : Course → List Record
log_of c = map (λ (i : Item). i.item) c.items

-- the bytes of the output
abbrev pub output_of : Course → List SentByte
output_of c = bytes_of c.items

-- how many steps the run has
abbrev pub end_of : Course → ℕ
end_of c = reach (log_of c)

-- the least limit of these replicas, and of none the end
abbrev pub least_limit : List ℕ → ℕ → List ℕ → ℕ
least_limit limits end [] = end
least_limit limits end (reader ∷ readers) = min (slice_index limits reader) (least_limit limits end readers)

-- the first step that a required replica refuses, or the number of steps
abbrev pub stop_of : Course → ℕ
stop_of c = least_limit c.limits (end_of c) c.required

-- the bytes of the output that are let out
abbrev pub released_bytes : Course → List ℕ
released_bytes c = bytes_in (before_step (stop_of c) (output_of c))

abbrev pub plan_of : Course → Plan
plan_of c = record { items = log_of c; outputs = steps_of (output_of c); cap = c.cap; limits = c.limits; required = c.required }

-- an item with a byte is the mark that the step is done which sent it
abbrev pub IsMarked : Item → Type 0
IsMarked i = IfSome i.byte (λ byte. (k : ℕ) × (i.item ≡ Reach (k + 1)) × (k < MOST_STEPS))

-- the records are those of a run, and the steps of its output rise
pub record IsCourse (c : Course) : Type 0 where
  pub ordered : is_ordered (log_of c) ≡ true
  pub records : All IsRecord (log_of c)
  pub marked : All IsMarked c.items
  pub climbs : Climbs 0 (steps_of (output_of c)) (end_of c)
  pub within : end_of c ≤ MOST_STEPS
  pub short : length c.items ≤ 2 ^ 61
  pub cap : 1 ≤ c.cap
  pub readers : length c.limits ≤ 8
  pub required : All (λ reader. reader < length c.limits) c.required

-- A verdict of a replica that has taken so many of the records: it approves up to its limit, as far as they reach; where it
-- refuses the rest it has come to its limit, and where it does not its limit is further than they reach.
pub record Agrees (c : Course) (reader count : ℕ) (verdict : Verdict) : Type 0 where
  pub approved : verdict.approved ≡ min (slice_index c.limits reader) (reached (plan_of c) count)
  pub refused : verdict.refused ≡ true → slice_index c.limits reader ≤ reached (plan_of c) count
  pub passed : verdict.refused ≡ false → reached (plan_of c) count ≤ slice_index c.limits reader
