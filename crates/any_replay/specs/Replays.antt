-- What a replay stands for: the list of the records that it was fed, of which the last is given first.
use Rattle.std.specs.Prelude.{◌≡◌, ℕ, List, ◌∷◌, ◌++◌, Option, None}
use Rattle.run_events.specs.declared.event.Event.{Event}
use Rattle.run_events.specs.declared.fault.Diverged.{Diverged}
use Rattle.run_events.specs.declared.record.Record.{Record}
use Rattle.run_events.specs.Sequence.{InOrder}
use Rattle.any_machine.specs.Machine.{Machine, touched}
use Rattle.any_machine.specs.Tape.{tape_of}
use Rattle.any_machine.specs.Replay.{Outcome, state_at, outcome, shown_by}
use Rattle.any_machine.specs.Carries.{Carries}
use Rattle.any_replay.specs.declared.replay.Replay.{Replay}
use Rattle.any_replay.specs.Standing.{held_of}

-- where its hart stands
abbrev pub hart_in : {H : Type 0} → Replay H → H
hart_in replay = replay.standing.hart

-- the first fault of the list, and how many records were accepted
abbrev pub fault_in : {H : Type 0} → Replay H → Option Diverged
fault_in replay = replay.diverged

abbrev pub takes_in : {H : Type 0} → Replay H → ℕ
takes_in replay = replay.takes

-- the state that a list comes to: all its steps are done, and the words of the step to come are written
abbrev pub state_in : {H : Type 0} → Machine H → H → Outcome → H
state_in m start o = touched m (state_at m start (tape_of o.taken) o.done) (tape_of o.taken o.done).words

-- a replay from this start was fed these records
pub record Replays {H : Type 0} (m : Machine H) (done ram_size : H → ℕ) (start : H) (items : List Record) (replay : Replay H) : Type 0 where
  pub carries : Carries m start (outcome m start items) (held_of done replay.standing)
  pub fault : fault_in replay ≡ (outcome m start items).fault
  pub order : fault_in replay ≡ None → InOrder items replay.order
  pub ram : ram_size start ≡ ram_size (hart_in replay)

-- one record more, whatever list it was fed before
abbrev pub KeepsReplaying : {H : Type 0} → Machine H → (H → ℕ) → (H → ℕ) → Record → Replay H → Replay H → Type 0
KeepsReplaying {H = H} m done ram_size item old new' =
    (start : H) (before : List Record) → Replays m done ram_size start before old → Replays m done ram_size start (item ∷ before) new'

-- and what was shown of that list is followed by what the record shows
abbrev pub KeepsShowing : {H : Type 0} → Machine H → (H → ℕ) → (H → ℕ) → Record → Replay H → (List Event → Type 0) → (List Event → Type 0) → Type 0
KeepsShowing {H = H} m done ram_size item old Seen SeenNow =
    (start : H) (before : List Record) (h : List Event) → Replays m done ram_size start before old
    → Seen (h ++ shown_by m start (outcome m start before)) → SeenNow (h ++ shown_by m start (outcome m start (item ∷ before)))
