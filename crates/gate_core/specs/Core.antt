-- The order in which records are appended, taken and approved and bytes are released, with no threads and no memory:
-- a machine over events, in numbers.
use Rattle.std.specs.Prelude.{◌≡◌, ℕ, ◌+◌, ◌≤◌, ◌<◌, Bool, true, false, ◌⊎◌, List, [], ◌∷◌, length, take, min, replicate, slice_index, slice_set}
use Rattle.run_events.specs.declared.record.Record.{Record}
use Rattle.run_events.specs.Record.{is_ordered, reach}

-- what is to be done: the records of a run, the steps of its output bytes, how many places the log has, below which step
-- each replica approves, and which replicas have to approve
pub record Plan : Type 0 where
  pub items : List Record
  pub outputs : List ℕ
  pub cap : ℕ
  pub limits : List ℕ
  pub required : List ℕ

-- how many records were appended, whether the log was closed, whether a put failed, how many records each replica has
-- taken, below which step it has approved, and how many bytes were released
pub record CoreState : Type 0 where
  pub appended : ℕ
  pub closed : Bool
  pub failed : Bool
  pub taken : List ℕ
  pub approved : List ℕ
  pub released : ℕ

-- the next record is appended; the log is closed; a replica takes its next record; a replica posts how far it approves;
-- so many bytes are released; a put of so many bytes fails after so many of them
pub data CoreEvent : Type 0 where
  Append : CoreEvent
  Close : CoreEvent
  TakeNext : ℕ → CoreEvent
  Post : ℕ → CoreEvent
  Release : ℕ → CoreEvent
  Break : ℕ → ℕ → CoreEvent

-- the step that the first so many records reach
abbrev pub reached : Plan → ℕ → ℕ
reached plan count = reach (take count plan.items)

-- each step is at least the one before it, which is given
abbrev pub StepsRise : ℕ → List ℕ → Type 0
StepsRise low [] = Unit {0}
StepsRise low (step ∷ steps) = (low ≤ step) × StepsRise step steps

-- a plan has records in their order, and output steps that rise and that the records reach
pub record IsPlan (plan : Plan) : Type 0 where
  pub items : is_ordered plan.items ≡ true
  pub rises : StepsRise 0 plan.outputs
  pub within : (byte : ℕ) → byte < length plan.outputs → slice_index plan.outputs byte < reach plan.items
  pub required : (place : ℕ) → place < length plan.required → slice_index plan.required place < length plan.limits

-- before the first event
abbrev pub opening : Plan → CoreState
opening plan = record {
  appended = 0;
  closed = false;
  failed = false;
  taken = replicate (length plan.limits) 0;
  approved = replicate (length plan.limits) 0;
  released = 0;
}

-- this replica has to approve
abbrev pub IsRequired : Plan → ℕ → Type 0
IsRequired plan reader = (place : ℕ) × (place < length plan.required) × (slice_index plan.required place ≡ reader)

-- each required replica has approved the step
abbrev pub IsApproved : Plan → CoreState → ℕ → Type 0
IsApproved plan s step = (reader : ℕ) → IsRequired plan reader → step < slice_index s.approved reader

-- the records that were appended reach beyond the step, and each required replica has approved it
pub record MayGoOut (plan : Plan) (s : CoreState) (step : ℕ) : Type 0 where
  pub reached : step < reached plan s.appended
  pub approved : IsApproved plan s step

-- so many of the next output bytes may be released, in one put
pub record IsReleasable (plan : Plan) (s : CoreState) (count : ℕ) : Type 0 where
  pub sound : s.failed ≡ false
  pub some : 1 ≤ count
  pub piece : count ≤ 4096
  pub there : s.released + count ≤ length plan.outputs
  pub may_go : (byte : ℕ) → s.released ≤ byte → byte < s.released + count → MayGoOut plan s (slice_index plan.outputs byte)

-- a record may be appended: the log is open, there is one, and each replica has a place for it
pub record MayAppend (plan : Plan) (s : CoreState) : Type 0 where
  pub «open» : s.closed ≡ false
  pub sound : s.failed ≡ false
  pub more : s.appended < length plan.items
  pub room : (reader : ℕ) → reader < length plan.limits → s.appended < slice_index s.taken reader + plan.cap

-- where each event may come
abbrev pub May : Plan → CoreState → CoreEvent → Type 0
May plan s Append = MayAppend plan s
May plan s Close = (s.closed ≡ false) × ((s.appended ≡ length plan.items) ⊎ (s.failed ≡ true))
May plan s (TakeNext reader) = (reader < length plan.limits) × (slice_index s.taken reader < s.appended)
May plan s (Post reader) = reader < length plan.limits
May plan s (Release count) = IsReleasable plan s count
May plan s (Break count done) = IsReleasable plan s count × (done ≤ count)

-- how far a replica approves: what the records reach that it has taken, but no further than its limit
abbrev pub approves : Plan → CoreState → ℕ → ℕ
approves plan s reader = min (slice_index plan.limits reader) (reached plan (slice_index s.taken reader))

-- what each event changes
abbrev pub core_after : Plan → CoreState → CoreEvent → CoreState
core_after plan s Append = record s { appended = s.appended + 1 }
core_after plan s Close = record s { closed = true }
core_after plan s (TakeNext reader) = record s { taken = slice_set s.taken reader (slice_index s.taken reader + 1) }
core_after plan s (Post reader) = record s { approved = slice_set s.approved reader (approves plan s reader) }
core_after plan s (Release count) = record s { released = s.released + count }
core_after plan s (Break count done) = record s { failed = true; released = s.released + done }

-- the events may come one after another from a state, and lead to the last one
abbrev pub Leads : Plan → CoreState → List CoreEvent → CoreState → Type 0
Leads plan from [] to = from ≡ to
Leads plan from (event ∷ events) to = May plan from event × Leads plan (core_after plan from event) events to

-- what is true of one replica: no record that it has still to take was dropped, and it has approved no more than it may
pub record IsSoundAt (plan : Plan) (s : CoreState) (reader : ℕ) : Type 0 where
  pub taken : slice_index s.taken reader ≤ s.appended
  pub room : s.appended ≤ slice_index s.taken reader + plan.cap
  pub limit : slice_index s.approved reader ≤ slice_index plan.limits reader
  pub seen : slice_index s.approved reader ≤ reached plan (slice_index s.taken reader)

-- a sound state
pub record IsSound (plan : Plan) (s : CoreState) : Type 0 where
  pub taken : length s.taken ≡ length plan.limits
  pub approved : length s.approved ≡ length plan.limits
  pub appended : s.appended ≤ length plan.items
  pub readers : (reader : ℕ) → reader < length plan.limits → IsSoundAt plan s reader
  pub released : s.released ≤ length plan.outputs
  pub may_go : (byte : ℕ) → byte < s.released → MayGoOut plan s (slice_index plan.outputs byte)
  pub closed : s.closed ≡ true → (s.appended ≡ length plan.items) ⊎ (s.failed ≡ true)

-- every list of events leads from the opening state to a sound one
abbrev pub StaysSound : Type 0
StaysSound = (plan : Plan) → IsPlan plan → (events : List CoreEvent) (s : CoreState) → Leads plan (opening plan) events s → IsSound plan s

-- no put has failed, all records were appended and taken, each required replica has approved all that it ever will, and
-- no byte may be released
pub record IsFinished (plan : Plan) (s : CoreState) : Type 0 where
  pub sound : s.failed ≡ false
  pub appended : s.appended ≡ length plan.items
  pub taken : (reader : ℕ) → reader < length plan.limits → slice_index s.taken reader ≡ s.appended
  pub approved : (reader : ℕ) → IsRequired plan reader → slice_index s.approved reader ≡ min (slice_index plan.limits reader) (reach plan.items)
  pub none : (count : ℕ) → IsReleasable plan s count → ⊥

-- each required replica approves the step of this byte in the end
abbrev pub IsAllowed : Plan → ℕ → Type 0
IsAllowed plan byte = (reader : ℕ) → IsRequired plan reader → slice_index plan.outputs byte < slice_index plan.limits reader

-- in a finished state the released bytes are exactly those that all required replicas approve
abbrev pub ReleasesAll : Type 0
ReleasesAll = (plan : Plan) → IsPlan plan → (s : CoreState) → IsSound plan s → IsFinished plan s → (byte : ℕ) → byte < length plan.outputs → (byte < s.released → IsAllowed plan byte) × (IsAllowed plan byte → byte < s.released)

-- what holds of a state and a later one: nothing is taken back; after a close no record is appended, and after a put that
-- failed no record is appended and no byte released
pub record IsLater (plan : Plan) (before now : CoreState) : Type 0 where
  pub appended : before.appended ≤ now.appended
  pub released : before.released ≤ now.released
  pub taken : (reader : ℕ) → reader < length plan.limits → slice_index before.taken reader ≤ slice_index now.taken reader
  pub approved : (reader : ℕ) → reader < length plan.limits → slice_index before.approved reader ≤ slice_index now.approved reader
  pub closed : before.closed ≡ true → (now.closed ≡ true) × (now.appended ≡ before.appended)
  pub failed : before.failed ≡ true → (now.failed ≡ true) × (now.appended ≡ before.appended) × (now.released ≡ before.released)

-- every list of events leads from a sound state to a later one
abbrev pub TakesNothingBack : Type 0
TakesNothingBack = (plan : Plan) → IsPlan plan → (events : List CoreEvent) (before now : CoreState) → IsSound plan before → Leads plan before events now → IsLater plan before now

-- no event that may come changes anything
abbrev pub IsAtRest : Plan → CoreState → Type 0
IsAtRest plan s = (event : CoreEvent) → May plan s event → core_after plan s event ≡ s

-- where the log has a place and no put has failed, a state at rest is finished, and the log is closed
abbrev pub RestsFinished : Type 0
RestsFinished = (plan : Plan) → IsPlan plan → 1 ≤ plan.cap → (s : CoreState) → IsSound plan s → s.failed ≡ false → IsAtRest plan s → IsFinished plan s × (s.closed ≡ true)
