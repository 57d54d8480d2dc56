-- What a call of a replay answers and leaves.
use Rattle.std.specs.Prelude.{◌≡◌, ℕ, ◌+◌, ◌-◌, ◌^◌, min, List, ◌∷◌, Option, None, Some, Result, Ok, Err}
use Rattle.run_events.specs.declared.event.Event.{Event}
use Rattle.run_events.specs.declared.fault.Diverged.{Diverged}
use Rattle.run_events.specs.declared.record.Record.{Record}
use Rattle.run_events.specs.Sequence.{InOrder}
use Rattle.any_machine.specs.Machine.{Machine}
use Rattle.any_machine.specs.Held.{held_take, take_shown}
use Rattle.any_replay.specs.declared.replay.Replay.{Replay}
use Rattle.any_replay.specs.Standing.{held_of, SeesMore}

-- a record after these has this fault, and leaves this
pub record Judges {H : Type 0} (m : Machine H) (done : H → ℕ) (start : H) (before : List Record) (item : Record) (old new' : Replay H) (fault : Option Diverged) : Type 0 where
  pub taken : held_take m start before item (held_of done old.standing) ≡ (fault, held_of done new'.standing)
  pub order : fault ≡ None → InOrder (item ∷ before) new'.order

-- after any records in order, and from any start with a RAM of the same size
abbrev pub JudgesAll : {H : Type 0} → Machine H → (H → ℕ) → (H → ℕ) → Record → Replay H → Replay H → Option Diverged → Type 0
JudgesAll {H = H} m done ram_size item old new' fault =
    (start : H) (before : List Record) → InOrder before old.order → ram_size start ≡ ram_size old.standing.hart → Judges m done start before item old new' fault

-- and what it shows
abbrev pub ShowsAll : {H : Type 0} → Machine H → (H → ℕ) → (H → ℕ) → Record → Replay H → (List Event → Type 0) → (List Event → Type 0) → Type 0
ShowsAll {H = H} m done ram_size item old Seen SeenNow =
    (start : H) (before : List Record) → InOrder before old.order → ram_size start ≡ ram_size old.standing.hart
    → SeesMore Seen SeenNow (take_shown m start before item (held_of done old.standing))

abbrev pub answer_of : Option Diverged → Result Unit Diverged
answer_of None = Ok tt
answer_of (Some diverged) = Err diverged

-- the number of records accepted, which stops at the largest number of its type
abbrev pub takes_after : ℕ → Option Diverged → ℕ
takes_after takes None = min (takes + 1) (2 ^ 64 - 1)
takes_after takes (Some diverged) = takes
