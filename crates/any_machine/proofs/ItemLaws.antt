-- What the items of a run are made of: its log and its output.
use Rattle.std.proofs.Common.{◌≡◌, ℕ, suc, ◌-◌, Bool, true, false, cond, List, [], ◌∷◌, ◌++◌, map, Option, Some, None, refl, sym, ap, ◌∙◌, arith, append_assoc, append-nil}
use Rattle.std.specs.Prelude.{◌%◌, ◌||◌, ◌==◌, is_some}
use Rattle.std.specs.Option.{option_map}
use Rattle.std.specs.List.{AllByRecursion, cons_option}
use Rattle.std.proofs.lemmas.List.{map-append}
use Rattle.std.proofs.lemmas.List.Elements.{filter_map-append}
use Rattle.memory_map.specs.declared.TheConstants.{SERIAL_DATA}
use Rattle.run_events.specs.declared.event.Event.{Event}
use Rattle.run_events.specs.declared.item.Item.{Item}
use Rattle.run_events.specs.declared.record.Record.{Record}
use Rattle.run_events.specs.declared.record.Record.TheVariants.{Reach, End}
use Rattle.run_events.specs.Event.{step_of}
use Rattle.any_machine.specs.Machine.{Turn, serial_byte}
use Rattle.any_machine.specs.Run.{Finished, events_in, events_of}
use Rattle.any_machine.specs.Log.{plain_item, word_record, lines_records, load_records, reach_records, reach_items, input_records, turn_records, turn_items, turns_log, turns_items, log, items, byte_of, bytes_of, output, SentByte, sent_at, tells_reach}
use Rattle.any_machine.proofs.NumberLaws.{IsWordAt, TurnStands, TurnsStand}

-- the records of plain items, which let no byte go
records_of_plain : (records : List Record) → map (λ item. item.item) (map plain_item records) ≡ records
records_of_plain [] = refl
records_of_plain (item ∷ records) = ap (λ l. item ∷ l) (records_of_plain records)

bytes_of_plain : (records : List Record) → bytes_of (map plain_item records) ≡ []
bytes_of_plain [] = refl
bytes_of_plain (item ∷ records) = bytes_of_plain records

reach_record : (n : ℕ) (event : Event) → map (λ item. item.item) (reach_items n event) ≡ reach_records n event
reach_record n event =
    elim (tells_reach n event) as (λ b. map (λ (item : Item). item.item) (cond b (record { item = Reach (suc n); byte = serial_byte event } ∷ []) []) ≡ cond b (Reach (suc n) ∷ []) []) [
      | true ↦ refl
      | false ↦ refl
    ]

turn_record : (n held : ℕ) (turn : Turn) → map (λ item. item.item) (turn_items n held turn) ≡ turn_records n held turn
turn_record n held turn =
    let words = map (word_record n) turn.input.words in
    let lines = lines_records n held turn.input.lines in
    let load = load_records n turn.input.supplied in
    map-append (λ (item : Item). item.item) (map plain_item (input_records n held turn)) (reach_items n turn.event)
    ∙ ap (λ l. l ++ map (λ item. item.item) (reach_items n turn.event)) (records_of_plain (input_records n held turn)) ∙ ap (λ l. input_records n held turn ++ l) (reach_record n turn.event)
    ∙ append_assoc words (lines ++ load) (reach_records n turn.event) ∙ ap (λ l. words ++ l) (append_assoc lines load (reach_records n turn.event))

turns_record : (n held : ℕ) (turns : List Turn) → map (λ item. item.item) (turns_items n held turns) ≡ turns_log n held turns
turns_record n held [] = refl
turns_record n held (turn ∷ turns) =
    map-append (λ (item : Item). item.item) (turn_items n held turn) (turns_items (suc n) turn.input.lines turns)
    ∙ ap (λ l. l ++ map (λ item. item.item) (turns_items (suc n) turn.input.lines turns)) (turn_record n held turn) ∙ ap (λ l. turn_records n held turn ++ l) (turns_record (suc n) turn.input.lines turns)

-- the records of the items are the log
pub items-log : (run : Finished) → map (λ item. item.item) (items run) ≡ log run
items-log run =
    map-append (λ (item : Item). item.item) (turns_items 0 0 run.turns) (plain_item (End run.steps run.cause) ∷ []) ∙ ap (λ l. l ++ End run.steps run.cause ∷ []) (turns_record 0 0 run.turns)

-- the byte that an event sends
abbrev byte_sent : Event → Option SentByte
byte_sent event = option_map (sent_at (step_of event)) (serial_byte event)

-- a mark lets the byte go that its step sent
reach_byte : (n : ℕ) (o : Option ℕ) (b : Bool) → bytes_of (cond (is_some o || b) (record { item = Reach (suc n); byte = o } ∷ []) []) ≡ cons_option (option_map (sent_at n) o) []
reach_byte n (Some byte) b =
    let back : suc n - 1 ≡ n = omega arith in
    ap (λ k. sent_at k byte ∷ []) back
reach_byte n None true = refl
reach_byte n None false = refl

-- words send nothing
words_silent : (n : ℕ) (writes : List Event) → AllByRecursion (IsWordAt n) writes → output writes ≡ []
words_silent n [] all = refl
words_silent n (event ∷ writes) all = ap (λ o. cons_option (option_map (sent_at (step_of event)) o) (output writes)) (all.0.silent SERIAL_DATA) ∙ words_silent n writes all.1

turn_bytes : (n held : ℕ) (turn : Turn) → TurnStands n turn → bytes_of (turn_items n held turn) ≡ output (events_in turn)
turn_bytes n held turn stands =
    filter_map-append byte_of (map plain_item (input_records n held turn)) (reach_items n turn.event) ∙ ap (λ l. l ++ bytes_of (reach_items n turn.event)) (bytes_of_plain (input_records n held turn))
    ∙ reach_byte n (serial_byte turn.event) (suc n % 256 == 0) ∙ ap (λ k. cons_option (option_map (sent_at k) (serial_byte turn.event)) []) (sym stands.step)
    ∙ sym (filter_map-append byte_sent turn.writes (turn.event ∷ []) ∙ ap (λ l. l ++ output (turn.event ∷ [])) (words_silent n turn.writes stands.words))

turns_bytes : (n held : ℕ) (turns : List Turn) → TurnsStand n turns → bytes_of (turns_items n held turns) ≡ output (events_of turns)
turns_bytes n held [] stand = refl
turns_bytes n held (turn ∷ turns) stand =
    filter_map-append byte_of (turn_items n held turn) (turns_items (suc n) turn.input.lines turns) ∙ ap (λ l. l ++ bytes_of (turns_items (suc n) turn.input.lines turns)) (turn_bytes n held turn stand.0)
    ∙ ap (λ l. output (events_in turn) ++ l) (turns_bytes (suc n) turn.input.lines turns stand.1) ∙ sym (filter_map-append byte_sent (events_in turn) (events_of turns))

-- the bytes of the items are the output
pub items-output : (run : Finished) → TurnsStand 0 run.turns → bytes_of (items run) ≡ output (events_of run.turns)
items-output run stand =
    filter_map-append byte_of (turns_items 0 0 run.turns) (plain_item (End run.steps run.cause) ∷ []) ∙ append-nil (bytes_of (turns_items 0 0 run.turns)) ∙ turns_bytes 0 0 run.turns stand
