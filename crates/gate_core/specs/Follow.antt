-- The hub in the order of the core: what a hub holds where the core stands, and that each call is its event.
use Rattle.std.specs.Prelude.{◌≡◌, ℕ, ◌<◌, ◌⊎◌, true, false, List, length, take, map, replicate, slice_index, slice_get, slice_set, Some, None}
use Rattle.circular_buffer.specs.Buffer.{keep_last}
use Rattle.run_events.specs.declared.record.Record.{Record}
use Rattle.gate_core.specs.declared.full.Full.{Full}
use Rattle.gate_core.specs.declared.take.Take.TheVariants.{Got}
use Rattle.gate_core.specs.declared.verdict.Verdict.{Verdict}
use Rattle.gate_core.specs.Core.{Plan, CoreState, CoreEvent, Append, Close, TakeNext, Post, May, approves, core_after, opening, IsSound}
use Rattle.gate_core.specs.Hub.{HubState, hub_state, empty_hub, no_verdict, full_of, with_append, with_take, with_verdict, with_close, Gets}

-- the hub where the core stands: the last records of those that were appended, and the core's counts
abbrev pub hub_of : Plan → CoreState → List Verdict → HubState
hub_of plan s posted = hub_state plan.cap (keep_last plan.cap (take s.appended plan.items)) s.appended s.taken posted s.closed

-- the event may come, and the hub stands where it leads
pub record Does (plan : Plan) (s : CoreState) (event : CoreEvent) (posted : List Verdict) (left : HubState) : Type 0 where
  pub may : May plan s event
  pub after : left ≡ hub_of plan (core_after plan s event) posted

-- the event may not come, and the hub stands where it was
pub record Stays (plan : Plan) (s : CoreState) (event : CoreEvent) (posted : List Verdict) (left : HubState) : Type 0 where
  pub may_not : May plan s event → ⊥
  pub after : left ≡ hub_of plan s posted

-- a new hub stands at the opening
abbrev pub OpenFollows : Type 0
OpenFollows = (plan : Plan) → empty_hub plan.cap (length plan.limits) ≡ hub_of plan (opening plan) (replicate (length plan.limits) no_verdict)

-- the next record is appended exactly where the core may append
abbrev pub AppendFollows : Type 0
AppendFollows = (plan : Plan) (s : CoreState) (posted : List Verdict) (item : Record) → IsSound plan s → s.closed ≡ false → s.failed ≡ false → slice_get plan.items s.appended ≡ Some item
    → full_of (hub_of plan s posted) ≡ None → Does plan s Append posted (with_append (hub_of plan s posted) item)

abbrev pub RefusalFollows : Type 0
RefusalFollows = (plan : Plan) (s : CoreState) (posted : List Verdict) (item : Record) (full : Full) → IsSound plan s
    → full_of (hub_of plan s posted) ≡ Some full → Stays plan s Append posted (with_append (hub_of plan s posted) item)

-- a record that a reader gets is the next one of the plan for it
abbrev pub TakeFollows : Type 0
TakeFollows = (plan : Plan) (s : CoreState) (posted : List Verdict) (reader : ℕ) (item : Record) → IsSound plan s → reader < length plan.limits
    → Gets (hub_of plan s posted) reader (Got item) → Does plan s (TakeNext reader) posted (with_take (hub_of plan s posted) reader) × (slice_get plan.items (slice_index s.taken reader) ≡ Some item)

-- where a reader gets none, the core has none for it
abbrev pub WaitFollows : Type 0
WaitFollows = (plan : Plan) (s : CoreState) (posted : List Verdict) (reader : ℕ) → slice_index s.taken reader ≡ s.appended
    → Stays plan s (TakeNext reader) posted (with_take (hub_of plan s posted) reader)

-- a close after the last record, or after a put that failed, is the core's
abbrev pub CloseFollows : Type 0
CloseFollows = (plan : Plan) (s : CoreState) (posted : List Verdict) → s.closed ≡ false → (s.appended ≡ length plan.items) ⊎ (s.failed ≡ true)
    → Does plan s Close posted (with_close (hub_of plan s posted))

-- a verdict that approves as far as the replica may is posted: the board shows what the core approves
abbrev pub approvals : List Verdict → List ℕ
approvals posted = map (λ (verdict : Verdict). verdict.approved) posted

abbrev pub PostFollows : Type 0
PostFollows = (plan : Plan) (s : CoreState) (posted : List Verdict) (reader : ℕ) (verdict : Verdict) → reader < length plan.limits → approvals posted ≡ s.approved → verdict.approved ≡ approves plan s reader
    → Does plan s (Post reader) (slice_set posted reader verdict) (with_verdict (hub_of plan s posted) reader verdict) × (approvals (slice_set posted reader verdict) ≡ (core_after plan s (Post reader)).approved)
