-- What is due at a step, read off the whole script, is what stands before the place of a schedule.
use Rattle.std.proofs.Common.{◌≡◌, ℕ, zero, suc, ◌+◌, ◌<◌, ◌≤◌, true, false, List, [], ◌∷◌, ◌++◌, length, take, drop, Option, None, is_some, slice_get, refl, sym, ◌∙◌, ap, arith, inl, inr}
use Rattle.std.specs.Prelude.{sum_by, nat_le, nat_lt, if◌then◌else◌}
use Rattle.std.specs.Option.{option_and_then}
use Rattle.std.specs.List.{filter_map, flat_map}
use Rattle.std.proofs.lemmas.Bool.{cases_lt}
use Rattle.std.proofs.lemmas.List.Sums.{sum_by-cons}
use Rattle.machine_model.specs.Script.{Script, Entry, What, Serial, Tick, Latency}
use Rattle.machine_model.specs.Board.{Arrival, arrivals_by, arrivals_of, arrivals, present_at, waiting, ticks_by, ticks_at, latency_by, latency_at, latency, last_or}
use Rattle.rv_devices.specs.declared.schedule.Schedule.{Schedule}
use Rattle.rv_devices.specs.Entries.{AreDue, AreLater, ticks_of, ticks_before, latency_before, arrivals_at}
use Rattle.rv_devices.specs.Follows.{Follows, next_byte}

-- the test of a step
is_due : (at step : ℕ) → at < step + 1 → nat_le at step ≡ true
is_due at step below = grind (arith, below)

not_due : (at step : ℕ) → step + 1 ≤ at → nat_le at step ≡ false
not_due at step far = grind (arith, far)

-- the ticks that are due
no_ticks : (step : ℕ) (entries : List Entry) → AreLater (step + 1) entries → sum_by (ticks_at step) entries ≡ 0
no_ticks step [] later = refl
no_ticks step (entry ∷ entries) later = rw (not_due entry.at step later.0) (no_ticks step entries later.1)

pub due_ticks : (step place : ℕ) (entries : List Entry) → AreDue (step + 1) place entries → AreLater (step + 1) (drop place entries) → sum_by (ticks_at step) entries ≡ ticks_before place entries
due_ticks step zero entries due later = no_ticks step entries later
due_ticks step (suc place) [] due later = refl
due_ticks step (suc place) (entry ∷ entries) due later =
    let one : ticks_at step entry ≡ ticks_by entry.what = rw (is_due entry.at step due.0) refl in
    sum_by-cons (ticks_at step) entry entries
    ∙ ap (λ n. n + sum_by (ticks_at step) entries) one
    ∙ ap (λ n. ticks_by entry.what + n) (due_ticks step place entries due.1 later)
    ∙ sym (sum_by-cons ticks_of entry (take place entries))

-- the latency in force
no_latency : (step : ℕ) (entries : List Entry) → AreLater (step + 1) entries → filter_map (latency_at step) entries ≡ []
no_latency step [] later = refl
no_latency step (entry ∷ entries) later = rw (not_due entry.at step later.0) (no_latency step entries later.1)

due_latencies : (step place : ℕ) (entries : List Entry) → AreDue (step + 1) place entries → AreLater (step + 1) (drop place entries) → filter_map (latency_at step) entries ≡ filter_map (λ (e : Entry). latency_by e.what) (take place entries)
due_latencies step zero entries due later = no_latency step entries later
due_latencies step (suc place) [] due later = refl
due_latencies step (suc place) (entry ∷ entries) due later = rw (is_due entry.at step due.0, due_latencies step place entries due.1 later) refl

pub latency_is : (script : Script) (step taken : ℕ) (s : Schedule) → Follows script.entries (step + 1) taken s → latency script step ≡ latency_before s.place script.entries
latency_is script step taken s f = ap (last_or 1000) (due_latencies step s.place script.entries f.due f.later)

-- no byte of what comes later is there
late_by : (step at : ℕ) (what : What) (rest : List Arrival) → step + 1 ≤ at → option_and_then (present_at step) (slice_get rest 0) ≡ None → option_and_then (present_at step) (slice_get (arrivals_by at what ++ rest) 0) ≡ None
late_by step at (Serial [] mark) rest far none = none
late_by step at (Serial (byte ∷ bytes) mark) rest far none = rw (not_due at step far) refl
late_by step at (Tick count) rest far none = none
late_by step at (Latency steps) rest far none = none

late : (step : ℕ) (entries : List Entry) → AreLater (step + 1) entries → option_and_then (present_at step) (slice_get (flat_map arrivals_of entries) 0) ≡ None
late step [] later = refl
late step (entry ∷ entries) later = late_by step entry.at entry.what (flat_map arrivals_of entries) later.0 (late step entries later.1)

-- each byte of an entry that is due is there
bytes_there : (step at mark : ℕ) (bytes : List ℕ) (k : ℕ) → at < step + 1 → option_and_then (present_at step) (slice_get (arrivals_by at (Serial bytes mark)) k) ≡ slice_get (arrivals_by at (Serial bytes mark)) k
bytes_there step at mark [] k below = refl
bytes_there step at mark (byte ∷ bytes) zero below = rw (is_due at step below) refl
bytes_there step at mark (byte ∷ bytes) (suc k) below = bytes_there step at mark bytes k below

there : (step at : ℕ) (what : What) (k : ℕ) → at < step + 1 → option_and_then (present_at step) (slice_get (arrivals_by at what) k) ≡ slice_get (arrivals_by at what) k
there step at (Serial bytes mark) k below = bytes_there step at mark bytes k below
there step at (Tick count) k below = refl
there step at (Latency steps) k below = refl

there_at : (step place source : ℕ) (entries : List Entry) (k : ℕ) → AreDue (step + 1) place entries → source < place → option_and_then (present_at step) (slice_get (arrivals_at source entries) k) ≡ slice_get (arrivals_at source entries) k
there_at step zero source entries k due below = absurd (omega (arith, below))
there_at step (suc place) source [] k due below = absurd due
there_at step (suc place) zero (entry ∷ entries) k due below = there step entry.at entry.what k due.0
there_at step (suc place) (suc source) (entry ∷ entries) k due below = there_at step place source entries k due.1 (omega (arith, below))

-- the bytes from a place on begin with those of the entry there
first_bytes : {X : Type 0} (xs ys : List X) (k : ℕ) → k < length xs → slice_get (xs ++ ys) k ≡ slice_get xs k
first_bytes [] ys k below = absurd (omega (arith, below))
first_bytes (x ∷ xs) ys zero below = refl
first_bytes (x ∷ xs) ys (suc k) below = first_bytes xs ys k (omega (arith, below))

bytes_here : (source k : ℕ) (entries : List Entry) → k < length (arrivals_at source entries) → slice_get (flat_map arrivals_of (drop source entries)) k ≡ slice_get (arrivals_at source entries) k
bytes_here zero k [] below = refl
bytes_here zero k (entry ∷ entries) below = first_bytes (arrivals_of entry) (flat_map arrivals_of entries) k below
bytes_here (suc source) k [] below = refl
bytes_here (suc source) k (entry ∷ entries) below = bytes_here source k entries below

-- what is left after some is read from there
pub read_after : {X : Type 0} (k : ℕ) (xs : List X) → slice_get xs k ≡ slice_get (drop k xs) 0
read_after zero xs = refl
read_after (suc k) [] = refl
read_after (suc k) (x ∷ xs) = read_after k xs

-- the byte that waits
waits_here : (script : Script) (step taken : ℕ) (s : Schedule) → Follows script.entries (step + 1) taken s → slice_get (arrivals script) taken ≡ slice_get (flat_map arrivals_of (drop s.source script.entries)) s.taken
waits_here script step taken s f =
    read_after taken (arrivals script)
    ∙ ap (λ l. slice_get l 0) f.left
    ∙ sym (read_after s.taken (flat_map arrivals_of (drop s.source s.entries.items)))
    ∙ ap (λ l. slice_get (flat_map arrivals_of (drop s.source l)) s.taken) f.entries_are

next_is : (s : Schedule) (o : Option Arrival) → s.source < s.place → (if nat_lt s.source s.place then o else None) ≡ o
next_is s o below = let t : nat_lt s.source s.place ≡ true = grind (arith, below) in rw t refl

none_is : (s : Schedule) (o : Option Arrival) → s.place ≤ s.source → (if nat_lt s.source s.place then o else None) ≡ None
none_is s o past = let t : nat_lt s.source s.place ≡ false = grind (arith, past) in rw t refl

waiting_now : (script : Script) (step taken : ℕ) (s : Schedule) → Follows script.entries (step + 1) taken s → s.source < s.place → waiting script step taken ≡ next_byte s
waiting_now script step taken s f below =
    ap (option_and_then (present_at step)) (waits_here script step taken s f ∙ bytes_here s.source s.taken script.entries (f.clear below))
    ∙ there_at step s.place s.source script.entries s.taken f.due below
    ∙ ap (λ l. slice_get (arrivals_at s.source l) s.taken) (sym f.entries_are)
    ∙ sym (next_is s (slice_get (arrivals_at s.source s.entries.items) s.taken) below)

waiting_none : (script : Script) (step taken : ℕ) (s : Schedule) → Follows script.entries (step + 1) taken s → s.place ≤ s.source → waiting script step taken ≡ next_byte s
waiting_none script step taken s f past =
    let same : s.source ≡ s.place = omega (arith, f.within, past) in
    ap (option_and_then (present_at step)) (waits_here script step taken s f ∙ ap (λ k. slice_get (flat_map arrivals_of (drop s.source script.entries)) k) (f.fresh past) ∙ ap (λ n. slice_get (flat_map arrivals_of (drop n script.entries)) 0) same)
    ∙ late step (drop s.place script.entries) f.later
    ∙ sym (none_is s (slice_get (arrivals_at s.source s.entries.items) s.taken) past)

pub waiting_is : (script : Script) (step taken : ℕ) (s : Schedule) → Follows script.entries (step + 1) taken s → waiting script step taken ≡ next_byte s
waiting_is script step taken s f = elim (cases_lt s.source s.place) [ inl below ↦ waiting_now script step taken s f below | inr past ↦ waiting_none script step taken s f past ]

-- and whether one does
some_below : {X : Type 0} (xs : List X) (k : ℕ) → k < length xs → is_some (slice_get xs k) ≡ true
some_below [] k below = absurd (omega (arith, below))
some_below (x ∷ xs) zero below = refl
some_below (x ∷ xs) (suc k) below = some_below xs k (omega (arith, below))

pub waits_is : (script : Script) (step taken : ℕ) (s : Schedule) → Follows script.entries (step + 1) taken s → is_some (waiting script step taken) ≡ nat_lt s.source s.place
waits_is script step taken s f =
    ap is_some (waiting_is script step taken s f)
    ∙ elim (cases_lt s.source s.place) [
      | inl below ↦ ap is_some (next_is s (slice_get (arrivals_at s.source s.entries.items) s.taken) below) ∙ some_below (arrivals_at s.source s.entries.items) s.taken (let c : s.taken < length (arrivals_at s.source script.entries) = f.clear below in rw f.entries_are c) ∙ grind (arith, below)
      | inr past ↦ ap is_some (none_is s (slice_get (arrivals_at s.source s.entries.items) s.taken) past) ∙ grind (arith, past)
    ]
