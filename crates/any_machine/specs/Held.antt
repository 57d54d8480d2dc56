-- What a replay that is fed record by record carries along, and what each record makes of it.
use Rattle.std.proofs.Common.{zero, suc}
use Rattle.std.specs.Prelude.{◌≡◌, ℕ, ◌-◌, ◌<◌, Bool, not, ◌&&◌, nat_lt, List, [], ◌∷◌, ◌++◌, Option, None, Some, is_some, if◌then◌else◌}
use Rattle.std.specs.Option.{option_map, option_or}
use Rattle.run_events.specs.declared.event.Event.{Event}
use Rattle.run_events.specs.declared.fault.Diverged.{Diverged}
use Rattle.run_events.specs.declared.fault.Why.{Why}
use Rattle.run_events.specs.declared.fault.Why.TheVariants.{StepFalls, EndsElsewhere}
use Rattle.run_events.specs.declared.record.Record.{Record}
use Rattle.run_events.specs.declared.record.Record.TheVariants.{Load, Lines, Dma, Reach, End}
use Rattle.run_events.specs.declared.supply.Supplied.{Supplied}
use Rattle.run_events.specs.Record.{number, is_admitted}
use Rattle.any_machine.specs.Machine.{Machine, Input, power_status, touched}
use Rattle.any_machine.specs.Replay.{fault_at, load_fault, is_after_power, own_fault, state_at, last_power, load_fault_at, power_at}

-- the state, with the words of the step to come that were taken; the number of steps done; the lines; the value for the
-- step to come; and the status where the last step was a power store
pub record Held (S : Type 0) : Type 0 where
  pub state : S
  pub step : ℕ
  pub lines : ℕ
  pub load : Option Supplied
  pub power : Option ℕ

-- before the first record
abbrev pub held_first : {S : Type 0} → S → Held S
held_first start = record { state = start; step = 0; lines = 0; load = None; power = None }

module _ {S : Type 0} (m : Machine S) where
  -- why the step to come cannot be done
  abbrev pub wait_fault : Held S → Option Why
  wait_fault h = load_fault (m.needs h.state h.lines) h.load

  -- the step to come: what it shows, and what is held after it
  abbrev pub held_event : Held S → Event
  held_event h = (m.step h.state h.lines h.load).0

  abbrev pub held_next : Held S → Held S
  held_next h = record { state = (m.step h.state h.lines h.load).1; step = suc h.step; lines = h.lines; load = None; power = power_status (held_event h) }

  -- no power store ended the run, and the step to come has what it needs
  abbrev pub may_step : Held S → Bool
  may_step h = not (is_some h.power) && not (is_some (wait_fault h))

  -- at most this many steps, up to one that cannot be done or a power store: what is held after them, and their events
  unfoldable pub run_held : ℕ → Held S → Held S
  run_held zero h = h
  run_held (suc left) h = if may_step h then run_held left (held_next h) else h

  unfoldable pub run_shown : ℕ → Held S → List Event
  run_shown zero h = []
  run_shown (suc left) h = if may_step h then held_event h ∷ run_shown left (held_next h) else []

  -- a run up to a number of steps, and what it shows
  pub record RunsTo (number : ℕ) (first last : Held S) (events : List Event) : Type 0 where
    pub held : run_held (number - first.step) first ≡ last
    pub shown : run_shown (number - first.step) first ≡ events

  -- what is held once a record is taken, and what taking it shows
  abbrev pub held_with : Record → Held S → Held S
  held_with (Lines n bits) h = record h { lines = bits }
  held_with (Load n value mark) h = record h { load = Some (record { value = value; mark = mark }) }
  held_with (Dma n address word mark) h = record h { state = (m.touch h.state (record { address = address; word = word; mark = mark })).1 }
  held_with (Reach n) h = h
  held_with (End n cause) h = h

  abbrev pub word_shown : Record → Held S → List Event
  word_shown (Dma n address word mark) h = (m.touch h.state (record { address = address; word = word; mark = mark })).0 ∷ []
  word_shown (Lines n bits) h = []
  word_shown (Load n value mark) h = []
  word_shown (Reach n) h = []
  word_shown (End n cause) h = []

-- the fault of a record whose steps were not all done, or which does not follow the power store of the last one
abbrev pub halt_fault : ℕ → Option ℕ → Option Why → Record → Option Diverged
halt_fault steps (Some status) wait item = if is_after_power steps status item then None else Some (fault_at (steps - 1) EndsElsewhere)
halt_fault steps None wait item = if nat_lt steps (number item) then option_map (fault_at steps) wait else None

-- what is left of a record by its fault
abbrev pub kept_or_with : {X : Type 0} → Option Diverged → X → X → Option Diverged × X
kept_or_with (Some fault) kept with' = (Some fault, kept)
kept_or_with None kept with' = (None, with')

module _ {S : Type 0} (m : Machine S) (start : S) where
  -- the fault of a record once the steps below its number are done, as far as they can be
  abbrev pub held_fault : Record → Held S → Option Diverged
  held_fault item h = option_or (halt_fault h.step h.power (wait_fault m h) item) (own_fault m start item h.load h.power)

  -- the steps below a record's number
  abbrev pub held_at : Record → Held S → Held S
  held_at item h = run_held m (number item - h.step) h

  -- a record after these: its fault, and what is held after it
  abbrev pub held_take : List Record → Record → Held S → Option Diverged × Held S
  held_take before item h =
      if is_admitted before item
      then kept_or_with (held_fault item (held_at item h)) (held_at item h) (held_with m item (held_at item h))
      else (Some (fault_at (number item) StepFalls), h)

  -- and what it shows
  abbrev pub take_shown : List Record → Record → Held S → List Event
  take_shown before item h =
      if is_admitted before item
      then run_shown m (number item - h.step) h ++ (kept_or_with (held_fault item (held_at item h)) [] (word_shown m item (held_at item h))).1
      else []

  -- what is held agrees with a tape: all steps below its number have the value that they need, and none of them but the
  -- last may be a power store
  pub record IsAt (tape : ℕ → Input) (h : Held S) : Type 0 where
    pub state : h.state ≡ touched m (state_at m start tape h.step) (tape h.step).words
    pub lines : h.lines ≡ (tape h.step).lines
    pub load : h.load ≡ (tape h.step).supplied
    pub power : h.power ≡ last_power m start tape h.step
    pub supplied : (k : ℕ) → k < h.step → load_fault_at m start tape k ≡ None
    pub quiet : (k : ℕ) → suc k < h.step → power_at m start tape k ≡ None
