-- A run under way, where the core stands, and what each turn makes of it.
use Rattle.std.specs.Prelude.{◌≡◌, ◌⊎◌, ℕ, ◌+◌, ◌-◌, ◌*◌, ◌≤◌, ◌<◌, Bool, true, false, if◌then◌else◌, List, [], ◌∷◌, length, take, drop, is_some, sum_by, slice_get, slice_index, Some}
use Rattle.after_edge.specs.Fault.{Rose}
use Rattle.after_edge.specs.Sink.{Telling, Adds, Writes}
use Rattle.gate_core.specs.Core.{CoreState, Append, Close, Break, IsSound, May, core_after}
use Rattle.gate_core.specs.Hub.{HubState}
use Rattle.output_gate.specs.declared.gate.TheConstants.{ROOM}
use Rattle.output_gate.specs.Gate.{GateState, count_below, with_failure, with_release}
use Rattle.run_events.specs.declared.item.Item.{Item}
use Rattle.turn_run.specs.declared.parts.Parts.{Parts}
use Rattle.turn_run.specs.declared.parts.Recorded.{Recorded}
use Rattle.turn_run.specs.declared.parts.Recorded.TheVariants.{Appended, Closed, Waits, Over}
use Rattle.turn_run.specs.declared.reading.Turn.{Turn}
use Rattle.turn_run.specs.declared.reading.Turn.TheVariants as turn
use Rattle.any_machine.specs.Recording.{Recording}
use Rattle.turn_run.specs.Following.{Following}
use Rattle.turn_run.specs.Sources.{StillToCome, items_left}
use Rattle.turn_run.specs.Course.{Course, log_of, output_of, plan_of}
use Rattle.turn_run.specs.Replicas.{Follows, core_after_read}
use Rattle.turn_run.specs.Gates.{Gates, issued_by, least_approved, refusals, with_item, withheld_from}
use Rattle.turn_run.specs.Endings.{end_in}
use Rattle.any_machine.specs.Log.{bytes_in}

-- so many bytes are released
abbrev pub with_released : CoreState → ℕ → CoreState
with_released core count = record core { released = count }

-- the bytes of the output between two places
abbrev pub bytes_between : Course → ℕ → ℕ → List ℕ
bytes_between c from to = bytes_in (drop from (take to (output_of c)))

-- how many records each reader has still to take, together
abbrev pub unread : HubState → ℕ
unread hub = sum_by (λ count. hub.appended - count) hub.taken

-- each reader has taken all of the log
abbrev pub AllRead : HubState → Type 0
AllRead hub = (reader : ℕ) → reader < length hub.taken → slice_index hub.taken reader ≡ hub.appended

-- the next of these items carries a byte
abbrev pub next_has_byte : List Item → Bool
next_has_byte [] = false
next_has_byte (item ∷ items) = is_some item.byte

-- each follower has taken all that was appended
abbrev pub AllTaken : Course → CoreState → Type 0
AllTaken c core = (reader : ℕ) → reader < length c.limits → slice_index core.taken reader ≡ core.appended

-- A TURN OF A FOLLOWER

module _ {M F : Type 0} where
  -- all but the log and the followers is as before
  pub record IsBesides (before after : Parts M F) : Type 0 where
    pub source : after.source ≡ before.source
    pub required : after.required ≡ before.required
    pub gate : after.gate ≡ before.gate
    pub end : after.end ≡ before.end

  -- a record more is read, or nothing has changed
  abbrev pub LessensRead : Turn → Parts M F → Parts M F → Type 0
  LessensRead turn.Took before after = (unread after.hub < unread before.hub) × (after.hub.closed ≡ before.hub.closed) × (length after.hub.taken ≡ length before.hub.taken)
  LessensRead turn.Empty before after = (after.hub ≡ before.hub) × (after.followers.items ≡ before.followers.items)
  LessensRead turn.Closed before after = (after.hub ≡ before.hub) × (after.followers.items ≡ before.followers.items)

module _ {M F : Type 0} (f : Following F) where
  -- the followers stand where the core does
  abbrev pub IsFollowed : Course → CoreState → Parts M F → Type 0
  IsFollowed c core parts = Follows f c core parts.hub parts.followers.items

  pub record IsFollowedRun (parts : Parts M F) : Type 0 where
    pub of : Course
    pub core : CoreState
    pub follows : IsFollowed of core parts

  -- a follower took the next record, or there was none for it
  abbrev pub Reads : Course → CoreState → ℕ → Turn → Parts M F → Parts M F → Type 0
  Reads c core reader turn.Took before after = (slice_index core.taken reader < core.appended) × IsFollowed c (core_after_read c core reader) after
  Reads c core reader turn.Empty before after = (core.closed ≡ false) × (slice_index core.taken reader ≡ core.appended)
  Reads c core reader turn.Closed before after = (core.closed ≡ true) × (slice_index core.taken reader ≡ core.appended)

-- A put of bytes that might be released has failed, where so many records were appended; so many bytes had gone out then.
pub record HasFailed (c : Course) (count put : ℕ) : Type 0 where
  pub before : CoreState
  pub sound : IsSound (plan_of c) before
  pub piece : ℕ
  pub done : ℕ
  pub may : May (plan_of c) before (Break piece done)
  pub appended : before.appended ≡ count
  pub out : before.released + done ≡ put

module _ {M F : Type 0} (r : Recording M) (f : Following F) where
  -- No put has failed: the followers stand where the core does, the recorder has the items after those that were
  -- appended, and the gate their bytes.
  pub record IsAt (c : Course) (core : CoreState) (parts : Parts M F) : Type 0 where
    pub follows : Follows f c core parts.hub parts.followers.items
    pub rest : StillToCome r parts.source (drop core.appended c.items)
    pub gates : Gates c core parts.gate
    pub required : parts.required.items ≡ c.required
    pub end : parts.end ≡ end_in (take core.appended (log_of c))
    pub sound : core.failed ≡ false

  -- some course and some state of the core are those of the run
  pub record IsSoundRun (parts : Parts M F) : Type 0 where
    pub of : Course
    pub core : CoreState
    pub at : IsAt of core parts

  -- What is left of a run, in one number: each item counts for its append, for a take of each follower and for its byte;
  -- then the close, the records that are still to be taken, and the bytes that wait.
  abbrev pub turns_left : Parts M F → ℕ
  turns_left parts =
      items_left r parts.source * (length parts.hub.taken + 2) + (if parts.hub.closed then 0 else 1) + unread parts.hub + length parts.gate.steps

  -- A TURN OF THE RECORDER

  -- it appended the record of the next item, and its byte was issued to the gate
  pub record HasAppended (c : Course) (core : CoreState) (before after : Parts M F) : Type 0 where
    pub «open» : core.closed ≡ false
    pub item : Item
    pub next : slice_get c.items core.appended ≡ Some item
    pub at : IsAt c (core_after (plan_of c) core Append) after
    pub gate : after.gate ≡ with_item before.gate item
    pub followers : after.followers.items ≡ before.followers.items

  -- it closed the log after the last record
  pub record HasClosed (c : Course) (core : CoreState) (before after : Parts M F) : Type 0 where
    pub «open» : core.closed ≡ false
    pub all : core.appended ≡ length c.items
    pub at : IsAt c (core_after (plan_of c) core Close) after
    pub gate : after.gate ≡ before.gate
    pub followers : after.followers.items ≡ before.followers.items

  -- there is no place in the log, since some follower has a whole log still to take, or none in the gate for the byte of
  -- the next record
  abbrev pub HasNoRoom : Course → CoreState → ℕ → Type 0
  HasNoRoom c core waiting =
      ((reader : ℕ) × (reader < length c.limits) × (slice_index core.taken reader + c.cap ≡ core.appended))
      ⊎ ((waiting ≡ ROOM) × (next_has_byte (drop core.appended c.items) ≡ true))

  -- there is a next record, for which it found no room, and which waits
  pub record HasWaited (c : Course) (core : CoreState) (before after : Parts M F) : Type 0 where
    pub «open» : core.closed ≡ false
    pub more : core.appended < length c.items
    pub crowded : HasNoRoom c core (length before.gate.steps)
    pub at : IsAt c core after
    pub hub : after.hub ≡ before.hub
    pub gate : after.gate ≡ before.gate
    pub followers : after.followers.items ≡ before.followers.items

  -- what a turn of the recorder answers, and where it leads
  abbrev pub Records : Course → CoreState → Recorded → Parts M F → Parts M F → Type 0
  Records c core Appended before after = HasAppended c core before after
  Records c core Closed before after = HasClosed c core before after
  Records c core Waits before after = HasWaited c core before after
  Records c core Over before after = (core.closed ≡ true) × (after ≡ before)

  -- and what it leaves: less, where it appended or closed
  abbrev pub Lessens : Recorded → Parts M F → Parts M F → Type 0
  Lessens Appended before after = turns_left after < turns_left before
  Lessens Closed before after = turns_left after < turns_left before
  Lessens Waits before after = turns_left after ≤ turns_left before
  Lessens Over before after = turns_left after ≤ turns_left before

  -- A TURN OF THE GATE

  -- how many of the waiting bytes every required follower approves
  abbrev pub approved_count : Course → CoreState → GateState → ℕ
  approved_count c core gate = count_below (least_approved core.approved c.required) gate.steps

  -- It put exactly the waiting bytes that every required follower approves, and from then on withholds all from each step
  -- that one of them refuses. Where all records were taken, none waits any more.
  pub record HasReleased {S : Type 0} (c : Course) (core : CoreState) (before after : Parts M F) (sink : Telling S) (old new : S) : Type 0 where
    pub count : ℕ
    pub exact : count ≡ core.released + approved_count c core before.gate
    pub gate : after.gate ≡ withheld_from (refusals before.hub c.required) (with_release before.gate (approved_count c core before.gate))
    pub more : core.released ≤ count
    pub at : IsAt c (with_released core count) after
    pub put : Writes sink old new (bytes_between c core.released count)
    pub none : AllTaken c core → after.gate.steps ≡ []
    pub source : after.source ≡ before.source
    pub hub : after.hub ≡ before.hub
    pub followers : after.followers.items ≡ before.followers.items
    pub fewer : (after.gate.steps ≡ before.gate.steps) × (count ≡ core.released) ⊎ (length after.gate.steps < length before.gate.steps)

  -- what stands of a run whose put has failed
  pub record IsBroken (c : Course) (core : CoreState) (parts : Parts M F) : Type 0 where
    pub follows : Follows f c core parts.hub parts.followers.items
    pub end : parts.end ≡ end_in (take core.appended (log_of c))
    pub issued : parts.gate.issued ≡ length (issued_by c core.appended)
    pub released : parts.gate.released ≤ core.released
    pub there : core.released ≤ length (issued_by c core.appended)
    pub failed : core.failed ≡ true

  -- The put of the waiting bytes that every required follower approves failed after the first ones, which the sink got: a
  -- break of the core, of which the gate counts no byte as released.
  pub record HasBroken {S : Type 0} (c : Course) (core : CoreState) (before after : Parts M F) (sink : Telling S) (old new : S) : Type 0 where
    pub done : ℕ
    pub may : May (plan_of c) core (Break (approved_count c core before.gate) done)
    pub put : Adds sink.holds old new (bytes_between c core.released (core.released + done))
    pub rose : Rose (sink.faults old) (sink.faults new)
    pub gate : after.gate ≡ with_failure before.gate (approved_count c core before.gate)
    pub broken : IsBroken c (core_after (plan_of c) core (Break (approved_count c core before.gate) done)) after
    pub source : after.source ≡ before.source
    pub hub : after.hub ≡ before.hub
    pub followers : after.followers.items ≡ before.followers.items
    pub required : after.required ≡ before.required

  -- A PERIOD OF TURNS

  -- the run stands at some state of the core, and the bytes between were put
  pub record HasCome {S : Type 0} (c : Course) (from : ℕ) (after : Parts M F) (sink : Telling S) (old new : S) : Type 0 where
    pub next : CoreState
    pub at : IsAt c next after
    pub more : from ≤ next.released
    pub put : Writes sink old new (bytes_between c from next.released)

  -- it has come to a failed put
  pub record HasCrashed {S : Type 0} (c : Course) (from : ℕ) (after : Parts M F) (sink : Telling S) (old new : S) : Type 0 where
    pub next : CoreState
    pub broken : IsBroken c next after
    pub failed : HasFailed c next.appended next.released
    pub more : from ≤ next.released
    pub put : Adds sink.holds old new (bytes_between c from next.released)
    pub rose : Rose (sink.faults old) (sink.faults new)
