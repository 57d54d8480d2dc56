-- The gate of a run, where the core stands.
use Rattle.memory_map.specs.declared.TheConstants.{MOST_STEPS}
use Rattle.std.specs.Prelude.{◌≡◌, ℕ, ◌-◌, ◌<◌, ◌≤◌, Bool, false, not, ◌&&◌, if◌then◌else◌, List, [], ◌∷◌, length, take, drop, slice_index, Option, Some, None, is_some}
use Rattle.run_events.specs.declared.record.Record.{Record}
use Rattle.run_events.specs.Record.{number}
use Rattle.run_events.specs.declared.item.Item.{Item}
use Rattle.any_machine.specs.Log.{before_step, bytes_of, SentByte, steps_of, bytes_in}
use Rattle.gate_core.specs.Core.{CoreState}
use Rattle.gate_core.specs.Follow.{approvals}
use Rattle.gate_core.specs.Hub.{HubState, approved_at, full_of, verdict_at, with_append}
use Rattle.output_gate.specs.declared.gate.TheConstants.{ROOM}
use Rattle.output_gate.specs.Gate.{GateState, passed_after, count_below, is_full, with_issue, with_release, with_withheld}
use Rattle.turn_run.specs.Course.{Course, least_limit, stop_of}

-- the bytes of the records that were appended, each with its step
abbrev pub issued_by : Course → ℕ → List SentByte
issued_by c count = bytes_of (take count c.items)

-- those of them that are let out
abbrev pub released_by : Course → ℕ → List ℕ
released_by c count = bytes_in (before_step (stop_of c) (issued_by c count))

-- those of them that are not withheld
abbrev pub not_withheld : Option ℕ → List SentByte → List SentByte
not_withheld None sent = sent
not_withheld (Some from) sent = before_step from sent

-- those of them that are not released either
abbrev pub still_waiting : Course → CoreState → Option ℕ → List SentByte
still_waiting c core from = drop core.released (not_withheld from (issued_by c core.appended))

-- a step is the limit of a replica that has to approve
pub record IsLimit (c : Course) (step : ℕ) : Type 0 where
  pub place : ℕ
  pub there : place < length c.required
  pub is : step ≡ slice_index c.limits (slice_index c.required place)

-- all from some step on is withheld only where a required replica refuses that step
abbrev pub IsWithheldFrom : Course → Option ℕ → Type 0
IsWithheldFrom c None = Unit {0}
IsWithheldFrom c (Some from) = IsLimit c from

-- below which step all of these readers approve, by what each approves; where there are none, all
abbrev pub least_approved : List ℕ → List ℕ → ℕ
least_approved approved readers = least_limit approved MOST_STEPS readers

-- The bytes of the appended records were issued. What is not released and not withheld waits, and what was put is
-- approved by each required replica.
pub record Gates (c : Course) (core : CoreState) (gate : GateState) : Type 0 where
  pub steps : gate.steps ≡ steps_of (still_waiting c core gate.from)
  pub bytes : gate.bytes ≡ bytes_in (still_waiting c core gate.from)
  pub issued : gate.issued ≡ length (issued_by c core.appended)
  pub released : gate.released ≡ core.released
  pub last : gate.next ≡ passed_after 0 (steps_of (issued_by c core.appended))
  pub passed : gate.passed ≤ least_approved core.approved c.required
  pub withheld : IsWithheldFrom c gate.from
  pub sound : gate.failed ≡ false
  pub there : core.released ≤ length (not_withheld gate.from (issued_by c core.appended))
  pub few : length gate.steps ≤ ROOM

-- how many of the waiting bytes are of steps that all of these readers approve
abbrev pub approved_in : HubState → List ℕ → GateState → ℕ
approved_in hub readers gate = count_below (least_approved (approvals hub.verdicts) readers) gate.steps

-- a gate after these were put
abbrev pub after_put : HubState → List ℕ → GateState → GateState
after_put hub readers gate = with_release gate (approved_in hub readers gate)

-- a gate after the byte of an item was issued to it
abbrev pub with_byte : GateState → ℕ → Option ℕ → GateState
with_byte gate step None = gate
with_byte gate step (Some byte) = with_issue gate step byte

abbrev pub with_item : GateState → Item → GateState
with_item gate i = with_byte gate (number i.item - 1) i.byte

-- the log has room for a record more, and the gate for the byte of this item, if it has one
abbrev pub has_room : HubState → GateState → Item → Bool
has_room hub gate i = not (is_some (full_of hub)) && not (is_some i.byte && is_full gate)

-- after the record of an item was appended, and after its byte was issued, if they were
abbrev pub with_append_if : Bool → HubState → Record → HubState
with_append_if placed hub item = if placed then with_append hub item else hub

abbrev pub with_item_if : Bool → GateState → Item → GateState
with_item_if placed gate i = if placed then with_item gate i else gate

-- from which steps on those of them refuse that refuse anything
abbrev pub refusals : HubState → List ℕ → List ℕ
refusals hub [] = []
refusals hub (reader ∷ readers) = if (verdict_at hub reader).refused then approved_at hub reader ∷ refusals hub readers else refusals hub readers

-- the gate after all from each of these steps on was withheld
abbrev pub withheld_from : List ℕ → GateState → GateState
withheld_from [] gate = gate
withheld_from (step ∷ steps) gate = withheld_from steps (with_withheld gate step)

-- the gate after all from the step on was withheld that this reader refuses, where it refuses one
abbrev pub withheld_for : HubState → ℕ → GateState → GateState
withheld_for hub reader gate = if (verdict_at hub reader).refused then with_withheld gate (approved_at hub reader) else gate
