-- What a hub holds, and what each call makes of it.
use Rattle.std.specs.Prelude.{◌≡◌, ℕ, ◌+◌, ◌-◌, ◌≤◌, ◌<◌, ◌^◌, Bool, true, false, nat_lt, ◌==◌, ◌||◌, if◌then◌else◌, List, [], ◌∷◌, ◌++◌, length, min, replicate, slice_index, slice_index_or, slice_set, slice_get, Option, Some, None, is_some, option_map}
use Rattle.std.specs.List.{All, position}
use Rattle.circular_buffer.specs.Buffer.{keep_last}
use Rattle.run_events.specs.declared.record.Record.{Record}
use Rattle.run_events.specs.Record.{IsRecord}
use Rattle.gate_core.specs.declared.full.Full.{Full}
use Rattle.gate_core.specs.declared.take.Take.{Take}
use Rattle.gate_core.specs.declared.take.Take.TheVariants.{Got, Empty, Closed}
use Rattle.gate_core.specs.declared.verdict.Verdict.{Verdict}

-- the number of places; the last records, oldest first; how many were appended; how many each reader has taken;
-- what each posted last; and whether the log was closed
pub record HubState : Type 0 where
  pub cap : ℕ
  pub stored : List Record
  pub appended : ℕ
  pub taken : List ℕ
  pub verdicts : List Verdict
  pub closed : Bool

abbrev pub hub_state : ℕ → List Record → ℕ → List ℕ → List Verdict → Bool → HubState
hub_state n items total counts posted ended =
    record { cap = n; stored = items; appended = total; taken = counts; verdicts = posted; closed = ended }

-- the powers of two from 16 to 65,536
abbrev pub is_cap : ℕ → Bool
is_cap n =
    n == 16 || n == 32 || n == 64 || n == 128 || n == 256 || n == 512 || n == 1024
    || n == 2048 || n == 4096 || n == 8192 || n == 16384 || n == 32768 || n == 65536

-- a reader has taken no more than there is, and no record that it has still to take was dropped
abbrev pub IsWithin : ℕ → ℕ → ℕ → Type 0
IsWithin n total count = (count ≤ total) × (total ≤ count + n)

-- what is true of every hub
pub record IsHub (h : HubState) : Type 0 where
  pub cap : h.cap ≤ 65536
  pub readers : length h.taken ≤ 8
  pub verdicts : length h.verdicts ≡ length h.taken
  pub stored : length h.stored ≡ min h.appended h.cap
  pub records : All IsRecord h.stored
  pub appended : h.appended ≤ 2 ^ 62
  pub taken : (reader : ℕ) → reader < length h.taken → IsWithin h.cap h.appended (slice_index h.taken reader)

-- the verdict of a reader that has posted none
abbrev pub no_verdict : Verdict
no_verdict = record { approved = 0; refused = false }

-- before the first call
abbrev pub empty_hub : ℕ → ℕ → HubState
empty_hub n readers = hub_state n [] 0 (replicate readers 0) (replicate readers no_verdict) false

-- the least reader that has a whole log still to take, with how many it has taken
abbrev pub full_at : List ℕ → ℕ → ℕ → Option Full
full_at counts total n =
    if nat_lt total n then None
    else option_map (λ reader. record { reader = reader; taken = total - n }) (position (λ count. count == total - n) counts)

abbrev pub full_of : HubState → Option Full
full_of h = full_at h.taken h.appended h.cap

-- after an append of this record: it stands after the others, of which only the last stay; nothing where the log is full
abbrev pub with_append : HubState → Record → HubState
with_append h item = record h {
  stored = (if is_some (full_of h) then h.stored else keep_last h.cap (h.stored ++ item ∷ []));
  appended = (if is_some (full_of h) then h.appended else h.appended + 1);
}

-- the record with this number, where it is stored
abbrev pub record_at : HubState → ℕ → Option Record
record_at h number = slice_get h.stored (length h.stored + number - h.appended)

-- what a reader gets
abbrev pub Gets : HubState → ℕ → Take → Type 0
Gets h reader (Got item) = (slice_index h.taken reader < h.appended) × (record_at h (slice_index h.taken reader) ≡ Some item) × IsRecord item
Gets h reader (Empty head) = (slice_index h.taken reader ≡ h.appended) × (h.closed ≡ false) × (head ≡ h.appended)
Gets h reader Closed = (slice_index h.taken reader ≡ h.appended) × (h.closed ≡ true)

-- after a reader took its next record, where there was one
abbrev pub with_take : HubState → ℕ → HubState
with_take h reader = record h {
  taken = (if nat_lt (slice_index h.taken reader) h.appended then slice_set h.taken reader (slice_index h.taken reader + 1) else h.taken);
}

-- what a reader posted last
abbrev pub verdict_at : HubState → ℕ → Verdict
verdict_at h reader = slice_index_or h.verdicts reader no_verdict

abbrev pub approved_at : HubState → ℕ → ℕ
approved_at h reader = (verdict_at h reader).approved

-- after a reader posted this verdict
abbrev pub with_verdict : HubState → ℕ → Verdict → HubState
with_verdict h reader verdict = hub_state h.cap h.stored h.appended h.taken (slice_set h.verdicts reader verdict) h.closed

-- after the log was closed
abbrev pub with_close : HubState → HubState
with_close h = hub_state h.cap h.stored h.appended h.taken h.verdicts true
