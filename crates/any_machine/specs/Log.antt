-- The log of a run, its items and its output, read off the finished run.
use Rattle.std.proofs.Common.{suc}
use Rattle.std.specs.Prelude.{ℕ, ◌-◌, ◌%◌, ◌||◌, ◌==◌, Bool, List, [], ◌∷◌, ◌++◌, map, Option, None, Some, is_some, filter, nat_lt, if◌then◌else◌}
use Rattle.std.specs.Option.{option_map}
use Rattle.std.specs.List.{filter_map}
use Rattle.run_events.specs.declared.event.Event.{Event}
use Rattle.run_events.specs.declared.item.Item.{Item}
use Rattle.run_events.specs.declared.record.Record.{Record}
use Rattle.run_events.specs.declared.record.Record.TheVariants.{Load, Lines, Dma, Reach, End}
use Rattle.run_events.specs.declared.supply.DmaWord.{DmaWord}
use Rattle.run_events.specs.declared.supply.Supplied.{Supplied}
use Rattle.run_events.specs.Event.{step_of}
use Rattle.run_events.specs.Record.{number}
use Rattle.any_machine.specs.Machine.{Turn, serial_byte}
use Rattle.any_machine.specs.Run.{Finished}

-- The records of step n: each of its words; its lines, where they differ from those held before; what a device register
-- gave; and that it is done, where it sent a byte or its number plus 1 is a multiple of 256.
abbrev pub word_record : ℕ → DmaWord → Record
word_record n word = Dma n word.address word.word word.mark

abbrev pub lines_records : ℕ → ℕ → ℕ → List Record
lines_records n held lines = if lines == held then [] else Lines n lines ∷ []

abbrev pub load_records : ℕ → Option Supplied → List Record
load_records n None = []
load_records n (Some supplied) = Load n supplied.value supplied.mark ∷ []

abbrev pub tells_reach : ℕ → Event → Bool
tells_reach n event = is_some (serial_byte event) || suc n % 256 == 0

abbrev pub reach_records : ℕ → Event → List Record
reach_records n event = if tells_reach n event then Reach (suc n) ∷ [] else []

abbrev pub turn_records : ℕ → ℕ → Turn → List Record
turn_records n held turn =
    map (word_record n) turn.input.words ++ (lines_records n held turn.input.lines ++ (load_records n turn.input.supplied ++ reach_records n turn.event))

-- the records of the turns from step n on, before which these lines were held
abbrev pub turns_log : ℕ → ℕ → List Turn → List Record
turns_log n held [] = []
turns_log n held (turn ∷ turns) = turn_records n held turn ++ turns_log (suc n) turn.input.lines turns

-- the log of a run
abbrev pub log : Finished → List Record
log run = turns_log 0 0 run.turns ++ End run.steps run.cause ∷ []

-- the same records as a recorder hands them out, where a Reach lets the byte go that its step sent
abbrev pub plain_item : Record → Item
plain_item item = record { item = item; byte = None }

abbrev pub reach_items : ℕ → Event → List Item
reach_items n event = if tells_reach n event then record { item = Reach (suc n); byte = serial_byte event } ∷ [] else []

abbrev pub input_records : ℕ → ℕ → Turn → List Record
input_records n held turn = map (word_record n) turn.input.words ++ (lines_records n held turn.input.lines ++ load_records n turn.input.supplied)

abbrev pub turn_items : ℕ → ℕ → Turn → List Item
turn_items n held turn = map plain_item (input_records n held turn) ++ reach_items n turn.event

abbrev pub turns_items : ℕ → ℕ → List Turn → List Item
turns_items n held [] = []
turns_items n held (turn ∷ turns) = turn_items n held turn ++ turns_items (suc n) turn.input.lines turns

-- the items from step n on, before which these lines were held, up to the end
abbrev pub items_from : ℕ → ℕ → Finished → List Item
items_from n held run = turns_items n held run.turns ++ plain_item (End run.steps run.cause) ∷ []

abbrev pub items : Finished → List Item
items run = items_from 0 0 run

-- A byte that goes out on the serial line, and the step that sends it.
pub record SentByte : Type 0 where
  pub step : ℕ
  pub byte : ℕ

abbrev pub sent_at : ℕ → ℕ → SentByte
sent_at step byte = record { step = step; byte = byte }

abbrev pub steps_of : List SentByte → List ℕ
steps_of sent = map (λ (byte : SentByte). byte.step) sent

abbrev pub bytes_in : List SentByte → List ℕ
bytes_in sent = map (λ (byte : SentByte). byte.byte) sent

-- the byte that an item lets go, whose step is the last one before the item's number
abbrev pub byte_of : Item → Option SentByte
byte_of item = option_map (sent_at (number item.item - 1)) item.byte

abbrev pub bytes_of : List Item → List SentByte
bytes_of items = filter_map byte_of items

-- the output of a list of events: the bytes that go out on the serial line
abbrev pub output : List Event → List SentByte
output events = filter_map (λ event. option_map (sent_at (step_of event)) (serial_byte event)) events

-- the part of some output whose steps are smaller than this one
abbrev pub before_step : ℕ → List SentByte → List SentByte
before_step step sent = filter (λ byte. nat_lt byte.step step) sent
