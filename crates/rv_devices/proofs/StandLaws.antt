-- What a board shows at a step, and what it keeps.
use Rattle.std.proofs.Common.{◌≡◌, ℕ, zero, suc, ◌+◌, ◌-◌, ◌*◌, ◌/◌, ◌%◌, ◌^◌, ◌<◌, ◌≤◌, Bool, true, false, List, [], Some, drop, refl, sym, ◌∙◌, ap, subst, arith}
use Rattle.std.specs.Prelude.{min, ◌&&◌, ◌||◌, ◌==◌, nat_le, nat_lt, if◌then◌else◌}
use Rattle.std.proofs.lemmas.Nat.{div-mul-add}
use Rattle.memory_map.specs.declared.TheConstants.{SERIAL_DATA}
use Rattle.run_events.specs.declared.supply.DmaWord.{DmaWord}
use Rattle.machine_model.specs.Script.{Script}
use Rattle.machine_model.specs.Board as model
use Rattle.machine_model.specs.Board.{BoardState, elapsed, mtime, board_lines, completed, words_before, at_step}
use Rattle.rv_devices.specs.declared.board.Board.{Board}
use Rattle.rv_devices.specs.declared.disk.Activity.{Activity}
use Rattle.rv_devices.specs.declared.disk.Activity.TheVariants as code
use Rattle.rv_devices.specs.declared.disk.Disk.{Disk}
use Rattle.rv_devices.specs.declared.schedule.Schedule.{Schedule}
use Rattle.rv_devices.specs.declared.timer.Timer.{Timer}
use Rattle.rv_devices.specs.declared.transfer.Transfer.{Transfer}
use Rattle.rv_devices.specs.Entries.{AreLater, ticks_before}
use Rattle.rv_devices.specs.Follows.{Follows}
use Rattle.rv_devices.specs.Serves.{Serves, NotBefore, activity_of, completes_before}
use Rattle.rv_devices.specs.Stands.{Stands, quiet_ahead}
use Rattle.rv_devices.specs.Still.{IsStill}
use Rattle.rv_devices.specs.Times.{Times, passed, steady_until}
use Rattle.rv_devices.proofs.DueLaws.{due_ticks, waits_is}
use Rattle.rv_devices.proofs.EntryLaws.{AreDue-more, AreLater-less}
use Rattle.rv_devices.proofs.TimeLaws.{steady_line, times_passed}

-- a timer has risen by its clock as often as the steps hold its clock
risen : (clock step ticks offset : ℕ) (t : Timer) (times : Times clock (step + 1) ticks offset t) → step / clock ≡ times.rises
risen clock step ticks offset t times =
    let over = step - times.rises * clock in
    let same : step ≡ times.rises * clock + over = omega (arith, times.since) in
    let below : over < clock = omega (arith, times.since, times.until, times.rise_is) in
    ap (λ n. n / clock) same ∙ div-mul-add times.rises clock over below

pub elapsed_is : (script : Script) (step : ℕ) (words : List DmaWord) (state : BoardState) (board : Board) (s : Stands script (step + 1) words state board) → elapsed script step ≡ s.times.rises + ticks_before board.schedule.place script.entries
elapsed_is script step words state board s =
    cc (risen script.clock step (ticks_before board.schedule.place script.entries) state.offset board.timer s.times, due_ticks step board.schedule.place script.entries s.follows.due s.follows.later)

pub mtime_is : (script : Script) (step : ℕ) (words : List DmaWord) (state : BoardState) (board : Board) → Stands script (step + 1) words state board → mtime script step state ≡ board.timer.count
mtime_is script step words state board s = ap (λ n. (n + state.offset) % 2 ^ 64) (elapsed_is script step words state board s) ∙ sym s.times.count_is

-- the lines, as a board shows them
pub lines_are : (script : Script) (step : ℕ) (words : List DmaWord) (state : BoardState) (board : Board) → Stands script (step + 1) words state board → board_lines script step state ≡ (if nat_le board.timer.compare board.timer.count then 1 else 0) + (if (nat_lt board.schedule.source board.schedule.place && board.serial_control == 1) || (nat_le 2 (model.status_of (activity_of board.disk.activity board.disk.pending)) && board.disk.control == 1) then 2 else 0)
lines_are script step words state board s =
    let time = mtime_is script step words state board s in
    let waits = waits_is script step state.taken board.schedule s.follows in
    rw (time, waits, s.compare_is, s.serial_is, s.serves.activity_is, s.serves.control_is) refl

-- where no command completes
not_completed : (step quiet : ℕ) (a : Activity) (pending : Transfer) → NotBefore quiet a → step < quiet → completed step (activity_of a pending) ≡ ([], activity_of a pending)
not_completed step quiet code.Idle pending far below = refl
not_completed step quiet (code.Busy before) pending far below = let t : nat_le before step ≡ false = grind (arith, far, below) in rw t refl
not_completed step quiet code.Done pending far below = refl
not_completed step quiet code.Refused pending far below = refl

still : (script : Script) (step begun : ℕ) (words : List DmaWord) (state : BoardState) (board : Board) → Stands script begun words state board → step < board.quiet → completed step state.activity ≡ ([], state.activity)
still script step begun words state board s below = subst (λ a. completed step a ≡ ([], a)) s.serves.activity_is (not_completed step board.quiet board.disk.activity board.disk.pending s.is_quiet.disk below)

pub no_words_before : (script : Script) (step begun : ℕ) (words : List DmaWord) (state : BoardState) (board : Board) → Stands script begun words state board → step < board.quiet → words_before step state ≡ []
no_words_before script step begun words state board s below = ap (λ p. p.0) (still script step begun words state board s below)

pub same_state : (script : Script) (step begun : ℕ) (words : List DmaWord) (state : BoardState) (board : Board) → Stands script begun words state board → step < board.quiet → at_step step state ≡ state
same_state script step begun words state board s below = ap (λ p. record state { activity = p.1 }) (still script step begun words state board s below)

-- steps before which neither the script nor the disk brings anything
pub quiet_to : (script : Script) (begun to : ℕ) (words : List DmaWord) (state : BoardState) (board : Board) (timer : Timer) → Stands script begun words state board → begun ≤ to → to ≤ 2 ^ 32 → AreLater to (drop board.schedule.place script.entries)
    → Times script.clock to (ticks_before board.schedule.place script.entries) state.offset timer → timer.compare ≡ board.timer.compare → Stands script to words state (record board { begun = to; timer = timer })
quiet_to script begun to words state board timer s more numbered later times compare = record {
  playable = s.playable;
  begun_is = refl;
  numbered = numbered;
  follows = record {
    entries_are = s.follows.entries_are;
    due = AreDue-more begun to board.schedule.place script.entries more s.follows.due;
    later = later;
    latency_is = s.follows.latency_is;
    within = s.follows.within;
    left = s.follows.left;
    clear = s.follows.clear;
    fresh = s.follows.fresh;
  };
  times = times;
  compare_is = compare ∙ s.compare_is;
  serial_is = s.serial_is;
  serves = s.serves;
  is_quiet = record { entries_later = s.is_quiet.entries_later; disk = s.is_quiet.disk };
}

-- one step, before which the timer does not rise
pub quiet_step : (script : Script) (step : ℕ) (state : BoardState) (board : Board) → Stands script step [] state board → step < min board.quiet board.timer.rise → step + 1 ≤ 2 ^ 32 → Stands script (step + 1) [] state (record board { begun = step + 1 })
quiet_step script step state board s below numbered =
    quiet_to script step (step + 1) [] state board board.timer s (omega arith) numbered
    (AreLater-less (step + 1) board.quiet (drop board.schedule.place script.entries) (omega (arith, below)) s.is_quiet.entries_later)
    (record { rises = s.times.rises; clock_is = s.times.clock_is; rise_is = s.times.rise_is; since = omega (arith, s.times.since); until = omega (arith, below); count_is = s.times.count_is }) refl

-- several steps, in which it does
timer_to : (script : Script) (begun to : ℕ) (words : List DmaWord) (state : BoardState) (board : Board) → Stands script begun words state board → begun ≤ to → Times script.clock to (ticks_before board.schedule.place script.entries) state.offset (passed board.timer to)
timer_to script begun to words state board s more = times_passed script.clock begun to (ticks_before board.schedule.place script.entries) state.offset board.timer s.playable.clock more s.times

pub stands_passed : (script : Script) (begun count : ℕ) (words : List DmaWord) (state : BoardState) (board : Board) → Stands script begun words state board → count ≤ quiet_ahead board
    → Stands script (begun + count) words state (record board { begun = begun + count; timer = passed board.timer (begun + count) })
stands_passed script begun zero words state board s within =
    quiet_to script begun (begun + 0) words state board (passed board.timer (begun + 0)) s (omega arith) (omega (arith, s.numbered)) (AreLater-less (begun + 0) begun (drop board.schedule.place script.entries) (omega arith) s.follows.later) (timer_to script begun (begun + 0) words state board s (omega arith)) refl
stands_passed script begun (suc count) words state board s within =
    quiet_to script begun (begun + suc count) words state board (passed board.timer (begun + suc count)) s (omega arith) (omega (arith, within, s.begun_is))
    (AreLater-less (begun + suc count) board.quiet (drop board.schedule.place script.entries) (omega (arith, within, s.begun_is)) s.is_quiet.entries_later) (timer_to script begun (begun + suc count) words state board s (omega arith)) refl

-- they bring nothing, and keep the lines
pub is_still : (script : Script) (step k : ℕ) (words : List DmaWord) (state : BoardState) (board : Board) → Stands script (step + 1) words state board → k < quiet_ahead board → IsStill script (board_lines script step state) (step + 1 + k) state
is_still script step k words state board s below =
    let at = step + 1 + k in
    let quiet : at < board.quiet = omega (arith, below, s.begun_is) in
    let steady : at < steady_until board.timer = omega (arith, below, s.begun_is) in
    let later =
    quiet_to script (step + 1) (at + 1) words state board (passed board.timer (at + 1)) s (omega arith) (omega (arith, below, s.begun_is))
    (AreLater-less (at + 1) board.quiet (drop board.schedule.place script.entries) (omega (arith, quiet)) s.is_quiet.entries_later) (timer_to script (step + 1) (at + 1) words state board s (omega arith)) refl in
    let line : nat_le board.timer.compare (passed board.timer (at + 1)).count ≡ nat_le board.timer.compare board.timer.count =
    steady_line script.clock (step + 1) (ticks_before board.schedule.place script.entries) state.offset at board.timer s.playable.clock s.times steady in
    record {
      none = no_words_before script at (step + 1) words state board s quiet;
      same = same_state script at (step + 1) words state board s quiet;
      lines_stay =
          lines_are script at words state (record board { begun = at + 1; timer = passed board.timer (at + 1) }) later
          ∙ ap
          (λ b.
          (if b then 1 else 0)
          + (if (nat_lt board.schedule.source board.schedule.place && board.serial_control == 1) || (nat_le 2 (model.status_of (activity_of board.disk.activity board.disk.pending)) && board.disk.control == 1) then 2 else 0))
          line
          ∙ sym (lines_are script step words state board s);
    }

-- an earlier step
pub NotBefore-less : (low high : ℕ) (a : Activity) → low ≤ high → NotBefore high a → NotBefore low a
NotBefore-less low high code.Idle less far = tt
NotBefore-less low high (code.Busy before) less far = omega (arith, far, less)
NotBefore-less low high code.Done less far = tt
NotBefore-less low high code.Refused less far = tt

pub NotBefore-own : (a : Activity) → NotBefore (completes_before a) a
NotBefore-own code.Idle = tt
NotBefore-own (code.Busy before) = omega arith
NotBefore-own code.Done = tt
NotBefore-own code.Refused = tt

pub NotBefore-zero : (a : Activity) → NotBefore 0 a
NotBefore-zero code.Idle = tt
NotBefore-zero (code.Busy before) = omega arith
NotBefore-zero code.Done = tt
NotBefore-zero code.Refused = tt

-- the disk does not look at the serial line and the timer
served : (script : Script) (words : List DmaWord) (state : BoardState) (disk : Disk) (taken offset : ℕ) → Serves script words state disk → Serves script words (record state { taken = taken; offset = offset }) disk
served script words state disk taken offset s = record {
  bytes_are = s.bytes_are;
  small = s.small;
  sectors_are = s.sectors_are;
  sector_is = s.sector_is;
  address_is = s.address_is;
  control_is = s.control_is;
  activity_is = s.activity_is;
  below = s.below;
  sending = s.sending;
}

-- a value that the timer is set to
set_to : (elapsed value : ℕ) → value < 2 ^ 64 → value ≡ (elapsed + (value + (2 ^ 64 - elapsed % 2 ^ 64)) % 2 ^ 64) % 2 ^ 64
set_to elapsed value below = omega (arith, below)

pub time_set : (script : Script) (step : ℕ) (words : List DmaWord) (state : BoardState) (board : Board) (value : ℕ) → Stands script (step + 1) words state board → value < 2 ^ 64 → Stands script (step + 1) words (record state { offset = model.offset_for script step value }) (record board { timer = record board.timer { count = value } })
time_set script step words state board value s below = record {
  playable = s.playable;
  begun_is = s.begun_is;
  numbered = s.numbered;
  follows = s.follows;
  times = record {
    rises = s.times.rises;
    clock_is = s.times.clock_is;
    rise_is = s.times.rise_is;
    since = s.times.since;
    until = s.times.until;
    count_is =
        set_to (s.times.rises + ticks_before board.schedule.place script.entries) value below
        ∙ ap (λ n. (s.times.rises + ticks_before board.schedule.place script.entries + (value + (2 ^ 64 - n % 2 ^ 64)) % 2 ^ 64) % 2 ^ 64) (sym (elapsed_is script step words state board s));
  };
  compare_is = s.compare_is;
  serial_is = s.serial_is;
  serves = served script words state board.disk state.taken (model.offset_for script step value) s.serves;
  is_quiet = record { entries_later = s.is_quiet.entries_later; disk = s.is_quiet.disk };
}

-- a load of the serial data
one_more : (waits : Bool) (state : BoardState) → (if waits then record state { taken = state.taken + 1 } else state) ≡ record state { taken = if waits then state.taken + 1 else state.taken }
one_more true state = refl
one_more false state = refl

pub loaded : (script : Script) (step : ℕ) (words : List DmaWord) (state : BoardState) (board : Board) (schedule : Schedule) → Stands script (step + 1) words state board → Follows script.entries (step + 1) (if nat_lt board.schedule.source board.schedule.place then state.taken + 1 else state.taken) schedule → schedule.place ≡ board.schedule.place → Stands script (step + 1) words (model.after_load script step state SERIAL_DATA) (record board { schedule = schedule })
loaded script step words state board schedule s follows place =
    let waits : model.waits script step state ≡ nat_lt board.schedule.source board.schedule.place = waits_is script step state.taken board.schedule s.follows in
    let more : model.after_load script step state SERIAL_DATA ≡ record state { taken = if nat_lt board.schedule.source board.schedule.place then state.taken + 1 else state.taken } =
    ap (λ b. if b then record state { taken = state.taken + 1 } else state) waits ∙ one_more (nat_lt board.schedule.source board.schedule.place) state in
    subst (λ b. Stands script (step + 1) words b (record board { schedule = schedule })) (sym more) (record {
      playable = s.playable;
      begun_is = s.begun_is;
      numbered = s.numbered;
      follows = follows;
      times = subst (λ n. Times script.clock (step + 1) (ticks_before n script.entries) state.offset board.timer) (sym place) s.times;
      compare_is = s.compare_is;
      serial_is = s.serial_is;
      serves = served script words state board.disk (if nat_lt board.schedule.source board.schedule.place then state.taken + 1 else state.taken) state.offset s.serves;
      is_quiet = record {
        entries_later = subst (λ n. AreLater board.quiet (drop n script.entries)) (sym place) s.is_quiet.entries_later;
        disk = s.is_quiet.disk;
      };
    })

-- the serial data is at its address alone
pub not_data : (address : ℕ) → (address ≡ SERIAL_DATA → ⊥) → model.register_at address ≡ Some model.SerialData → ⊥
not_data address other is = grind (arith, other, is)

-- a command changes the disk alone
keeps : (f : BoardState → ℕ) (busy accepted reads : Bool) (same read write refused : BoardState) (v : ℕ) → f same ≡ v → f read ≡ v → f write ≡ v → f refused ≡ v → f (if busy then same else (if accepted then (if reads then read else write) else refused)) ≡ v
keeps f true accepted reads same read write refused v a b c d = a
keeps f false true true same read write refused v a b c d = b
keeps f false true false same read write refused v a b c d = c
keeps f false false reads same read write refused v a b c d = d

commanded_keeps : (f : BoardState → ℕ) (script : Script) (step : ℕ) (ram : List ℕ) (command : ℕ) (b : BoardState) → ((activity : model.Activity) (bytes : List ℕ) → f (record b { activity = activity; bytes = bytes }) ≡ f b) → f (model.commanded script step ram command b) ≡ f b
commanded_keeps f script step ram command b same = keeps f (model.is_busy b.activity) _ (command == 1) b _ _ _ (f b) refl (same _ b.bytes) (same _ (model.with_sector ram b)) (same model.Refused b.bytes)

pub commanded_stands : (script : Script) (step : ℕ) (words : List DmaWord) (state : BoardState) (board : Board) (ram : List ℕ) (command quiet : ℕ) (disk : Disk) → Stands script (step + 1) words state board → Serves script words (model.commanded script step ram command state) disk → quiet ≤ board.quiet → NotBefore quiet disk.activity → Stands script (step + 1) words (model.commanded script step ram command state) (record board { quiet = quiet; disk = disk })
commanded_stands script step words state board ram command quiet disk s serves less far = record {
  playable = s.playable;
  begun_is = s.begun_is;
  numbered = s.numbered;
  follows = subst (λ n. Follows script.entries (step + 1) n board.schedule) (sym (commanded_keeps (λ (b : BoardState). b.taken) script step ram command state (λ _ _. refl))) s.follows;
  times = subst (λ n. Times script.clock (step + 1) (ticks_before board.schedule.place script.entries) n board.timer) (sym (commanded_keeps (λ (b : BoardState). b.offset) script step ram command state (λ _ _. refl))) s.times;
  compare_is = s.compare_is ∙ sym (commanded_keeps (λ (b : BoardState). b.compare) script step ram command state (λ _ _. refl));
  serial_is = s.serial_is ∙ sym (commanded_keeps (λ (b : BoardState). b.serial_control) script step ram command state (λ _ _. refl));
  serves = serves;
  is_quiet = record {
    entries_later = AreLater-less quiet board.quiet (drop board.schedule.place script.entries) less s.is_quiet.entries_later;
    disk = far;
  };
}
