-- A follower beside the hub, whatever it has taken; and the followers of a run, where the core stands.
use Rattle.std.specs.Prelude.{◌≡◌, ℕ, ◌<◌, ◌≤◌, true, false, List, [], ◌∷◌, ◌++◌, length, take, slice_index, slice_get, Some}
use Rattle.run_events.specs.declared.record.Record.{Record}
use Rattle.gate_core.specs.declared.take.Take.TheVariants.{Got}
use Rattle.gate_core.specs.Core.{CoreState, TakeNext, Post, core_after, IsSound}
use Rattle.gate_core.specs.Hub.{HubState, Gets, verdict_at, with_take, with_verdict}
use Rattle.gate_core.specs.Follow.{approvals, hub_of}
use Rattle.turn_run.specs.declared.reading.Turn.{Turn}
use Rattle.turn_run.specs.declared.reading.Turn.TheVariants.{Took, Empty, Closed}
use Rattle.turn_run.specs.Following.{Following, SaysSame}
use Rattle.turn_run.specs.Course.{Course, IsCourse, Agrees, log_of, plan_of}

-- the follower is the hub's reader of this number: it has taken these records, and what it says of them is posted
pub record IsReaderOf {F : Type 0} (f : Following F) (hub : HubState) (reader : ℕ) (follower : F) (items : List Record) : Type 0 where
  pub there : reader < length hub.taken
  pub taken : f.has_taken follower items
  pub posted : verdict_at hub reader ≡ f.verdict follower items

-- it has taken some records
pub record IsReader {F : Type 0} (f : Following F) (hub : HubState) (reader : ℕ) (follower : F) : Type 0 where
  pub items : List Record
  pub reads : IsReaderOf f hub reader follower items

-- a turn that took the next record, and posted what is said of the records up to it
pub record HasTaken {F : Type 0} (f : Following F) (hub hub' : HubState) (reader : ℕ) (old new : F) (items : List Record) : Type 0 where
  pub item : Record
  pub given : Gets hub reader (Got item)
  pub taken : f.has_taken new (items ++ item ∷ [])
  pub same : SaysSame f old new
  pub hub_is : hub' ≡ with_verdict (with_take hub reader) reader (f.verdict new (items ++ item ∷ []))

-- a turn that took none changed nothing
pub record HasTakenNone {F : Type 0} (hub hub' : HubState) (reader : ℕ) (old new : F) : Type 0 where
  pub all : slice_index hub.taken reader ≡ hub.appended
  pub same_hub : hub' ≡ hub
  pub same : new ≡ old

-- what a turn answers, and where it leads
abbrev pub Turned : {F : Type 0} → Following F → Turn → HubState → HubState → ℕ → F → F → List Record → Type 0
Turned f Took hub hub' reader old new items = HasTaken f hub hub' reader old new items
Turned f Empty hub hub' reader old new items = (hub.closed ≡ false) × HasTakenNone hub hub' reader old new
Turned f Closed hub hub' reader old new items = (hub.closed ≡ true) × HasTakenNone hub hub' reader old new

-- One follower of a run of which so many records are taken: it has taken them, and of every prefix of the records it says
-- what its limit says.
pub record IsFollower {F : Type 0} (f : Following F) (c : Course) (reader count : ℕ) (follower : F) : Type 0 where
  pub taken : f.has_taken follower (take count (log_of c))
  pub agrees : (n : ℕ) → n ≤ length c.items → Agrees c reader n (f.verdict follower (take n (log_of c)))

-- The hub stands where the core does, and each follower has taken what the core says and posted what it says of that.
pub record Follows {F : Type 0} (f : Following F) (c : Course) (core : CoreState) (hub : HubState) (followers : List F) : Type 0 where
  pub course : IsCourse c
  pub stands : hub ≡ hub_of (plan_of c) core hub.verdicts
  pub approved : approvals hub.verdicts ≡ core.approved
  pub sound : IsSound (plan_of c) core
  pub count : length followers ≡ length c.limits
  pub each : (reader : ℕ) (follower : F) → slice_get followers reader ≡ Some follower → IsFollower f c reader (slice_index core.taken reader) follower
  pub posted : (reader : ℕ) (follower : F) → slice_get followers reader ≡ Some follower → verdict_at hub reader ≡ f.verdict follower (take (slice_index core.taken reader) (log_of c))

-- where a turn of a follower leads that took a record
abbrev pub core_after_read : Course → CoreState → ℕ → CoreState
core_after_read c core reader = core_after (plan_of c) (core_after (plan_of c) core (TakeNext reader)) (Post reader)
