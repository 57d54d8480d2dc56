-- The items of a run: the bytes that they let go climb, each comes with the mark of its step, and there are not too many.
use Rattle.memory_map.specs.declared.TheConstants.{MOST_STEPS}
use Rattle.std.proofs.Common.{◌≡◌, ℕ, suc, ◌+◌, ◌*◌, ◌≤◌, Bool, true, false, cond, List, [], ◌∷◌, ◌++◌, length, map, Option, Some, None, sym, ap, subst, ◌∙◌, arith, length-append}
use Rattle.std.specs.Prelude.{◌%◌, ◌||◌, ◌==◌, is_some}
use Rattle.std.specs.List.{AllByRecursion}
use Rattle.std.proofs.lemmas.List.{length-map, map-append}
use Rattle.std.proofs.lemmas.List.Elements.{filter_map-append}
use Rattle.list_laws.proofs.AllLaws.{all_append}
use Rattle.run_events.specs.declared.item.Item.{Item}
use Rattle.run_events.specs.declared.record.EndCause.{EndCause}
use Rattle.run_events.specs.declared.record.Record.{Record}
use Rattle.run_events.specs.declared.record.Record.TheVariants.{Lines, Reach, End}
use Rattle.run_events.specs.declared.supply.Supplied.{Supplied}
use Rattle.any_machine.specs.Machine.{Machine, Turn, power_status, serial_byte, after}
use Rattle.any_machine.specs.Run.{Finished, EndsOrGoes, IsRun, Runs}
use Rattle.any_machine.specs.Log.{byte_of, bytes_of, input_records, items, lines_records, load_records, plain_item, reach_items, turn_items, turns_items, word_record, SentByte, steps_of}
use Rattle.output_gate.specs.Gate.{Climbs}
use Rattle.output_gate.proofs.GateLaws.{Climbs-wider}
use Rattle.turn_run.specs.Course.{IsMarked}

-- EACH BYTE WITH ITS MARK

plain_marked : (records : List Record) → AllByRecursion IsMarked (map plain_item records)
plain_marked [] = tt
plain_marked (item ∷ records) = (tt, plain_marked records)

reach_marked : (n : ℕ) (byte : Option ℕ) (told : Bool) → suc n ≤ MOST_STEPS → AllByRecursion IsMarked (cond told (record { item = Reach (suc n); byte = byte } ∷ []) [])
reach_marked n byte false le = tt
reach_marked n (Some b) true le = let one : suc n ≡ n + 1 = omega arith in ((n, ap Reach one, omega (arith, le)), tt)
reach_marked n None true le = (tt, tt)

turns_marked : (n held : ℕ) (turns : List Turn) → n + length turns ≤ MOST_STEPS → AllByRecursion IsMarked (turns_items n held turns)
turns_marked n held [] le = tt
turns_marked n held (turn ∷ turns) le =
    all_append IsMarked (turn_items n held turn) (turns_items (suc n) turn.input.lines turns)
    (all_append IsMarked (map plain_item (input_records n held turn)) (reach_items n turn.event) (plain_marked (input_records n held turn)) (reach_marked n (serial_byte turn.event) (is_some (serial_byte turn.event) || suc n % 256 == 0) (omega (arith, le))))
    (turns_marked (suc n) turn.input.lines turns (omega (arith, le)))

pub items_marked : (run : Finished) → length run.turns ≤ MOST_STEPS → AllByRecursion IsMarked (items run)
items_marked run le = all_append IsMarked (turns_items 0 0 run.turns) (plain_item (End run.steps run.cause) ∷ []) (turns_marked 0 0 run.turns (omega (arith, le))) (tt, tt)

-- THE STEPS OF THE BYTES

climbs_then : (xs ys : List ℕ) (low middle high : ℕ) → Climbs low xs middle → Climbs middle ys high → Climbs low (xs ++ ys) high
climbs_then [] ys low middle high first rest = Climbs-wider ys middle low high high first (omega arith) rest
climbs_then (x ∷ xs) ys low middle high first rest = (first.0, climbs_then xs ys (x + 1) middle high first.1 rest)

-- of some items, and then others
bytes_then : (xs ys : List Item) (low middle high : ℕ) → Climbs low (steps_of (bytes_of xs)) middle → Climbs middle (steps_of (bytes_of ys)) high → Climbs low (steps_of (bytes_of (xs ++ ys))) high
bytes_then xs ys low middle high first rest =
    subst (λ l. Climbs low l high) (sym (ap steps_of (filter_map-append byte_of xs ys) ∙ map-append (λ (byte : SentByte). byte.step) (bytes_of xs) (bytes_of ys)))
    (climbs_then (steps_of (bytes_of xs)) (steps_of (bytes_of ys)) low middle high first rest)

plain_climb : (n : ℕ) (records : List Record) → Climbs n (steps_of (bytes_of (map plain_item records))) n
plain_climb n [] = omega arith
plain_climb n (item ∷ records) = plain_climb n records

reach_climb : (n : ℕ) (byte : Option ℕ) (told : Bool) → Climbs n (steps_of (bytes_of (cond told (record { item = Reach (suc n); byte = byte } ∷ []) []))) (suc n)
reach_climb n byte false = omega arith
reach_climb n (Some b) true = (omega arith, omega arith)
reach_climb n None true = omega arith

turns_climb : (n held : ℕ) (turns : List Turn) → Climbs n (steps_of (bytes_of (turns_items n held turns))) (n + length turns)
turns_climb n held [] = omega arith
turns_climb n held (turn ∷ turns) =
    bytes_then (turn_items n held turn) (turns_items (suc n) turn.input.lines turns) n (suc n) (n + suc (length turns))
    (bytes_then (map plain_item (input_records n held turn)) (reach_items n turn.event) n n (suc n) (plain_climb n (input_records n held turn)) (reach_climb n (serial_byte turn.event) (is_some (serial_byte turn.event) || suc n % 256 == 0)))
    (let same : suc n + length turns ≡ n + suc (length turns) = omega arith in subst (Climbs (suc n) (steps_of (bytes_of (turns_items (suc n) turn.input.lines turns)))) same (turns_climb (suc n) turn.input.lines turns))

pub items_climb : (run : Finished) → Climbs 0 (steps_of (bytes_of (items run))) (length run.turns)
items_climb run =
    let same : 0 + length run.turns ≡ length run.turns = omega arith in
    bytes_then (turns_items 0 0 run.turns) (plain_item (End run.steps run.cause) ∷ []) 0 (length run.turns) (length run.turns) (subst (Climbs 0 (steps_of (bytes_of (turns_items 0 0 run.turns)))) same (turns_climb 0 0 run.turns)) (omega arith)

-- HOW MANY THERE ARE

line_few : (n lines : ℕ) (same : Bool) → length (cond same [] (Lines n lines ∷ [])) ≤ 1
line_few n lines true = omega arith
line_few n lines false = omega arith

load_few : (n : ℕ) (o : Option Supplied) → length (load_records n o) ≤ 1
load_few n None = omega arith
load_few n (Some supplied) = omega arith

reach_few : (n : ℕ) (byte : Option ℕ) (told : Bool) → length {A = Item} (cond told (record { item = Reach (suc n); byte = byte } ∷ []) []) ≤ 1
reach_few n byte true = omega arith
reach_few n byte false = omega arith

turn_few : (n held : ℕ) (turn : Turn) → length turn.input.words ≤ 128 → length (turn_items n held turn) ≤ 131
turn_few n held turn few =
    let words = map (word_record n) turn.input.words in
    let lines = lines_records n held turn.input.lines in
    let load = load_records n turn.input.supplied in
    omega (
      arith,
      length-append (map plain_item (input_records n held turn)) (reach_items n turn.event),
      length-map (input_records n held turn) plain_item,
      length-append words (lines ++ load),
      length-map turn.input.words (word_record n),
      length-append lines load,
      line_few n turn.input.lines (turn.input.lines == held),
      load_few n turn.input.supplied,
      reach_few n (serial_byte turn.event) (is_some (serial_byte turn.event) || suc n % 256 == 0),
    )

module _ {S : Type 0} (m : Machine S) (start : S) where
  turns_few : (s : S) (turns : List Turn) (cause : EndCause) (n held : ℕ) → IsRun m start s turns cause → length (turns_items n held turns) ≤ 131 * length turns
  turns_few s [] cause n held runs = omega arith
  turns_few s (turn ∷ turns) cause n held runs =
      let rest = by (power_status turn.event) (λ goes. turns_few (after m s turn.input) turns cause (suc n) turn.input.lines goes) runs.1 in
      omega (arith, length-append (turn_items n held turn) (turns_items (suc n) turn.input.lines turns), turn_few n held turn runs.0.may_take.few, rest)
    where
      by : (o : Option ℕ) → (IsRun m start (after m s turn.input) turns cause → length (turns_items (suc n) turn.input.lines turns) ≤ 131 * length turns) → EndsOrGoes o turns cause (IsRun m start (after m s turn.input) turns cause)
          → length (turns_items (suc n) turn.input.lines turns) ≤ 131 * length turns
      by (Some status) again ends = subst (λ l. length (turns_items (suc n) turn.input.lines l) ≤ 131 * length l) (sym ends.0) (omega arith)
      by None again ends = again ends

  pub items_few : (run : Finished) → Runs m start run → length (items run) ≤ 131 * run.steps + 1
  items_few run runs = omega (arith, length-append (turns_items 0 0 run.turns) (plain_item (End run.steps run.cause) ∷ []), turns_few start run.turns run.cause 0 0 runs.is_run, runs.counted)
