-- The replay of a list of records by a machine: what is executed and shown, and where the list does not fit.
use Rattle.std.proofs.Common.{zero, suc}
use Rattle.std.specs.Prelude.{ℕ, Bool, true, false, not, ◌&&◌, ◌==◌, List, [], ◌∷◌, ◌++◌, reverse, Option, None, Some, is_some, if◌then◌else◌}
use Rattle.std.specs.Option.{option_map, option_or}
use Rattle.run_events.specs.declared.event.Event.{Event}
use Rattle.run_events.specs.declared.fault.Diverged.{Diverged}
use Rattle.run_events.specs.declared.fault.Why.{Why}
use Rattle.run_events.specs.declared.fault.Why.TheVariants.{MissingLoad, UnusedLoad, BadDma, StepFalls, EndsElsewhere}
use Rattle.run_events.specs.declared.record.EndCause.{EndCause}
use Rattle.run_events.specs.declared.record.EndCause.TheVariants.{Power, Limit}
use Rattle.run_events.specs.declared.record.Record.{Record}
use Rattle.run_events.specs.declared.record.Record.TheVariants.{Load, Lines, Dma, Reach, End}
use Rattle.run_events.specs.declared.supply.Need.{Need}
use Rattle.run_events.specs.declared.supply.Supplied.{Supplied}
use Rattle.run_events.specs.Record.{number, is_admitted, reach_back}
use Rattle.any_machine.specs.Machine.{Machine, Input, Turn, power_status, is_load, writes_of, need_of, after, turn_of}
use Rattle.any_machine.specs.Run.{events_of}
use Rattle.any_machine.specs.Tape.{tape_of}

-- what goes wrong at a step
abbrev pub fault_at : ℕ → Why → Diverged
fault_at step why = record { step = step; why = why }

-- a step that needs a value of a device register and has none, or has one and needs none
abbrev pub supply_fault : Bool → Bool → Option Why
supply_fault true false = Some MissingLoad
supply_fault false true = Some UnusedLoad
supply_fault true true = None
supply_fault false false = None

abbrev pub load_fault : Need → Option Supplied → Option Why
load_fault need supplied = supply_fault (is_load need) (is_some supplied)

-- The steps of a machine from its start, each with its input from a tape.
module _ {S : Type 0} (m : Machine S) (start : S) (tape : ℕ → Input) where
  -- the state before a step and before the words of it
  unfoldable pub state_at : ℕ → S
  state_at zero = start
  state_at (suc k) = after m (state_at k) (tape k)

  abbrev pub turn_at : ℕ → Turn
  turn_at k = turn_of m (state_at k) (tape k)

  -- the turns of the steps below a number
  unfoldable pub turns_below : ℕ → List Turn
  turns_below zero = []
  turns_below (suc k) = turns_below k ++ turn_at k ∷ []

  -- the status of a power store at a step, and at the step before a number
  abbrev pub power_at : ℕ → Option ℕ
  power_at k = power_status (turn_at k).event

  abbrev pub last_power : ℕ → Option ℕ
  last_power zero = None
  last_power (suc k) = power_at k

  -- whether a step has the value that it needs and no other
  abbrev pub load_fault_at : ℕ → Option Why
  load_fault_at k = load_fault (need_of m (state_at k) (tape k)) (tape k).supplied

  -- the events of the steps below a number, and those of the words of the step that follows
  abbrev pub shown_on : ℕ → List Event
  shown_on k = events_of (turns_below k) ++ writes_of m (state_at k) (tape k).words

-- a fault, and the number of steps that are executed where it comes
pub record Stop : Type 0 where
  pub fault : Diverged
  pub done : ℕ

abbrev pub stopped : ℕ → Diverged → Stop
stopped done fault = record { fault = fault; done = done }

-- a record after a power store that ends a run of this many steps: the mark that they are done, or the end by power with
-- the status that was stored
abbrev pub is_after_power : ℕ → ℕ → Record → Bool
is_after_power steps status (Reach step) = step == steps
is_after_power steps status (End step (Power told)) = step == steps && told == status
is_after_power steps status (End step Limit) = false
is_after_power steps status (Load step value mark) = false
is_after_power steps status (Lines step bits) = false
is_after_power steps status (Dma step address word mark) = false

-- what a step k says to a record after it: the step is not executed where its value is missing or unused; it is executed
-- where it is a power store, which the record has to follow
abbrev pub power_stop : ℕ → Option ℕ → Record → Option Stop
power_stop k None item = None
power_stop k (Some status) item = if is_after_power (suc k) status item then None else Some (stopped (suc k) (fault_at k EndsElsewhere))

abbrev pub step_stop : ℕ → Option Why → Option ℕ → Record → Option Stop
step_stop k (Some why) power item = Some (stopped k (fault_at k why))
step_stop k None power item = power_stop k power item

-- an end agrees with the last step: by power after a power store with its status, by the limit after no power store
abbrev pub has_status : ℕ → Option ℕ → Bool
has_status told None = false
has_status told (Some status) = told == status

abbrev pub end_agrees : EndCause → Option ℕ → Bool
end_agrees (Power told) power = has_status told power
end_agrees Limit power = not (is_some power)

-- what is wrong with an end by itself: a value is kept for a step that never comes, or it does not agree
abbrev pub end_fault : ℕ → EndCause → Option Supplied → Option ℕ → Option Diverged
end_fault n cause (Some supplied) power = Some (fault_at n UnusedLoad)
end_fault n cause None power = if end_agrees cause power then None else Some (fault_at n EndsElsewhere)

module _ {S : Type 0} (m : Machine S) (start : S) where
  -- what is wrong with a record by itself, where all steps below its number are done: the value kept for the step that
  -- follows, and the status where the last step was a power store, decide of an end; the word of a Dma has to stand in RAM
  abbrev pub own_fault : Record → Option Supplied → Option ℕ → Option Diverged
  own_fault (End n cause) load power = end_fault n cause load power
  own_fault (Dma n address word mark) load power = if m.holds start address then None else Some (fault_at n BadDma)
  own_fault (Reach n) load power = None
  own_fault (Load n value mark) load power = None
  own_fault (Lines n bits) load power = None

  -- what step k says to a record after it, where this is the tape
  abbrev pub stop_at : (ℕ → Input) → Record → ℕ → Option Stop
  stop_at tape item k = step_stop k (load_fault_at m start tape k) (power_at m start tape k) item

  -- the first step below a number that stops the replay before a record
  unfoldable pub first_stop : (ℕ → Input) → Record → ℕ → Option Stop
  first_stop tape item zero = None
  first_stop tape item (suc k) = option_or (first_stop tape item k) (stop_at tape item k)

  -- what stops the replay at a record by itself, once the steps below its number are done
  abbrev pub own_stop : (ℕ → Input) → Record → ℕ → Option Stop
  own_stop tape item n = option_map (stopped n) (own_fault item (tape n).supplied (last_power m start tape n))

  -- What stops the replay at a record after these, of which the last is given first. A record that falls in the order
  -- executes nothing; the steps below its number know nothing of it but that it comes.
  abbrev pub stop_of : List Record → Record → Option Stop
  stop_of before item =
      if is_admitted before item
      then option_or (first_stop (tape_of before) item (number item)) (own_stop (tape_of before) item (number item))
      else Some (stopped (reach_back before) (fault_at (number item) StepFalls))

-- what becomes of a list: the records taken before its fault, the last one first; the number of steps executed; the fault
pub record Outcome : Type 0 where
  pub taken : List Record
  pub done : ℕ
  pub fault : Option Diverged

-- what becomes of one record more: it is taken and its steps are done, or the replay stops at it
abbrev pub taken_or_stopped : List Record → Record → Option Stop → Outcome
taken_or_stopped before item None = record { taken = item ∷ before; done = number item; fault = None }
taken_or_stopped before item (Some stop) = record { taken = before; done = stop.done; fault = Some stop.fault }

-- after a fault no record changes anything
abbrev pub unless_faulted : Outcome → Option Diverged → Outcome → Outcome
unless_faulted before (Some fault) judged = before
unless_faulted before None judged = judged

module _ {S : Type 0} (m : Machine S) (start : S) where
  -- one record more, and a list, which is given from the last record back
  abbrev pub judged : Outcome → Record → Outcome
  judged before item = unless_faulted before before.fault (taken_or_stopped before.taken item (stop_of m start before.taken item))

  unfoldable pub outcome : List Record → Outcome
  outcome [] = record { taken = []; done = 0; fault = None }
  outcome (last ∷ before) = judged (outcome before) last

  -- what is shown where a list has come to this
  abbrev pub shown_by : Outcome → List Event
  shown_by o = shown_on m start (tape_of o.taken) o.done

  -- of a list in order: its first fault, the number of steps that it executes, and the events that it shows
  abbrev pub first_fault : List Record → Option Diverged
  first_fault items = (outcome (reverse items)).fault

  abbrev pub executed : List Record → ℕ
  executed items = (outcome (reverse items)).done

  abbrev pub shown : List Record → List Event
  shown items = shown_by (outcome (reverse items))

  -- the list fits the machine
  abbrev pub fits : List Record → Bool
  fits items = not (is_some (first_fault items))
