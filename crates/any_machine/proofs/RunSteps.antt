-- What is still to come of a run, unfolded by one step.
use Rattle.std.proofs.Common.{◌≡◌, ℕ, suc, List, [], ◌∷◌, ◌++◌, map, Option, Some, None, refl, ap, ◌∙◌, append_assoc, append-nil}
use Rattle.std.proofs.lemmas.List.{map-append}
use Rattle.run_events.specs.declared.item.Item.{Item}
use Rattle.run_events.specs.declared.record.EndCause.TheVariants.{Power, Limit}
use Rattle.run_events.specs.declared.record.Record.{Record}
use Rattle.run_events.specs.declared.record.Record.TheVariants.{End}
use Rattle.run_events.specs.declared.supply.DmaWord.{DmaWord}
use Rattle.run_events.specs.declared.supply.Need.{Need}
use Rattle.run_events.specs.declared.supply.Need.TheVariants.{Load, Nothing}
use Rattle.run_events.specs.declared.supply.Supplied.{Supplied}
use Rattle.any_machine.specs.Machine.{Machine, Board, Input, Turn, power_status, touched, after, turn_of}
use Rattle.any_machine.specs.Run.{served_by, run_after, run_from}
use Rattle.any_machine.specs.Log.{plain_item, word_record, lines_records, load_records, reach_items, turn_items, turns_items, items_from}
use Rattle.any_machine.specs.Recorder.{end_item, still_to_come, after_step, at_step, with_load, at_words}
use Rattle.any_machine.proofs.BoardRun.{run_from-limit, run_from-step}

-- the items of a step, kind by kind, before others
items_apart : (words lines load : List Record) (marks rest : List Item)
    → map plain_item (words ++ (lines ++ load)) ++ marks ++ rest ≡ map plain_item words ++ (map plain_item lines ++ (map plain_item load ++ (marks ++ rest)))
items_apart words lines load marks rest = simp (map-append, append_assoc) refl

module _ {S B : Type 0} (m : Machine S) (board : Board S B) where
  -- no step is left
  pub to_come-limit : (n held : ℕ) (s : S) (b : B) → still_to_come m board 0 n held s b ≡ end_item n Limit ∷ []
  to_come-limit n held s b = ap (items_from n held) (run_from-limit m board n s b)

  -- the items of a step, and what comes after it
  turn_and_rest : (left n held : ℕ) (turn : Turn) (s : S) (b : B) (o : Option ℕ)
      → items_from n held (run_after m board (run_from m board left (suc n)) n turn s b o) ≡ turn_items n held turn ++ after_step m board left n turn.input.lines s b o
  turn_and_rest left n held turn s b (Some status) = ap (λ l. l ++ end_item (suc n) (Power status) ∷ []) (append-nil (turn_items n held turn))
  turn_and_rest left n held turn s b None =
      let run = run_from m board left (suc n) s b in
      append_assoc (turn_items n held turn) (turns_items (suc n) turn.input.lines run.turns) (plain_item (End run.steps run.cause) ∷ [])

  -- a step with this input, of which the board is left so
  with_input : (left n held : ℕ) (s : S) (words : List DmaWord) (lines : ℕ) (supplied : Option Supplied) (b : B)
      → let input : Input = record { words = words; lines = lines; supplied = supplied } in
      let turn = turn_of m s input in
      items_from n held (run_after m board (run_from m board left (suc n)) n turn (after m s input) (board.stored n b turn.event (after m s input)) (power_status turn.event))
      ≡ map plain_item (map (word_record n) words) ++ (map plain_item (lines_records n held lines) ++ (map plain_item (load_records n supplied) ++ at_step m board left n lines (touched m s words) b supplied))
  with_input left n held s words lines supplied b =
      let input : Input = record { words = words; lines = lines; supplied = supplied } in
      let turn = turn_of m s input in
      let next = board.stored n b turn.event (after m s input) in
      turn_and_rest left n held turn (after m s input) next (power_status turn.event)
      ∙ items_apart (map (word_record n) words) (lines_records n held lines) (load_records n supplied) (reach_items n turn.event) (after_step m board left n lines (after m s input) next (power_status turn.event))

  -- whatever it needs
  by_need : (left n held : ℕ) (s : S) (words : List DmaWord) (lines : ℕ) (b : B) (need : Need)
      → let given = served_by (board.load n b) words lines b need in
      let turn = turn_of m s given.input in
      items_from n held (run_after m board (run_from m board left (suc n)) n turn (after m s given.input) (board.stored n given.board turn.event (after m s given.input)) (power_status turn.event))
      ≡ map plain_item (map (word_record n) words) ++ (map plain_item (lines_records n held lines) ++ with_load m board left n lines (touched m s words) b need)
  by_need left n held s words lines b (Load address width) = with_input left n held s words lines (Some (board.load n b address).0) (board.load n b address).1
  by_need left n held s words lines b Nothing = with_input left n held s words lines None b

  -- the next step begins: the words of the board, then its lines, and so on
  pub to_come-step : (left n held : ℕ) (s : S) (b : B) → still_to_come m board (suc left) n held s b ≡ at_words m board left n held s (board.due n b).1 (board.due n b).0
  to_come-step left n held s b =
      let begun = board.due n b in
      let lines = board.lines n begun.1 in
      ap (items_from n held) (run_from-step m board left n s b) ∙ by_need left n held s begun.0 lines begun.1 (m.needs (touched m s begun.0) lines)
