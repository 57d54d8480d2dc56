-- What is still to come of a run, for a recorder that hands its items out one after another.
use Rattle.std.proofs.Common.{suc}
use Rattle.std.specs.Prelude.{ℕ, List, [], ◌∷◌, ◌++◌, map, Option, None, Some}
use Rattle.run_events.specs.declared.event.Event.{Event}
use Rattle.run_events.specs.declared.item.Item.{Item}
use Rattle.run_events.specs.declared.record.EndCause.{EndCause}
use Rattle.run_events.specs.declared.record.EndCause.TheVariants.{Power}
use Rattle.run_events.specs.declared.record.Record.TheVariants.{End}
use Rattle.run_events.specs.declared.supply.DmaWord.{DmaWord}
use Rattle.run_events.specs.declared.supply.Need.{Need}
use Rattle.run_events.specs.declared.supply.Need.TheVariants.{Load, Nothing}
use Rattle.run_events.specs.declared.supply.Supplied.{Supplied}
use Rattle.any_machine.specs.Machine.{Machine, Board, power_status, touched}
use Rattle.any_machine.specs.Run.{run_from}
use Rattle.any_machine.specs.Log.{plain_item, word_record, lines_records, load_records, reach_items, items_from}

-- the last item of a run
abbrev pub end_item : ℕ → EndCause → Item
end_item steps cause = plain_item (End steps cause)

module _ {S B : Type 0} (m : Machine S) (board : Board S B) where
  -- before step n, with this many steps left up to the limit, and these lines held
  abbrev pub still_to_come : ℕ → ℕ → ℕ → S → B → List Item
  still_to_come left n held s b = items_from n held (run_from m board left n s b)

  -- after a step, which ended the run by power or did not
  abbrev pub after_step : ℕ → ℕ → ℕ → S → B → Option ℕ → List Item
  after_step left n lines s b (Some status) = end_item (suc n) (Power status) ∷ []
  after_step left n lines s b None = still_to_come left (suc n) lines s b

  -- inside step n, once it has what it needs
  abbrev pub at_event : ℕ → ℕ → ℕ → B → Event × S → List Item
  at_event left n lines b step = reach_items n step.0 ++ after_step left n lines step.1 (board.stored n b step.0 step.1) (power_status step.0)

  abbrev pub at_step : ℕ → ℕ → ℕ → S → B → Option Supplied → List Item
  at_step left n lines s b supplied = at_event left n lines b (m.step s lines supplied)

  -- inside step n, once its lines are told
  abbrev pub with_load : ℕ → ℕ → ℕ → S → B → Need → List Item
  with_load left n lines s b (Load address width) =
      map plain_item (load_records n (Some (board.load n b address).0)) ++ at_step left n lines s (board.load n b address).1 (Some (board.load n b address).0)
  with_load left n lines s b Nothing = at_step left n lines s b None

  abbrev pub at_load : ℕ → ℕ → ℕ → S → B → List Item
  at_load left n lines s b = with_load left n lines s b (m.needs s lines)

  -- inside step n, once its words are written
  abbrev pub at_lines : ℕ → ℕ → ℕ → S → B → List Item
  at_lines left n held s b = map plain_item (lines_records n held (board.lines n b)) ++ at_load left n (board.lines n b) s b

  -- inside step n, with these words still to be written, where the board has handed them out
  abbrev pub at_words : ℕ → ℕ → ℕ → S → B → List DmaWord → List Item
  at_words left n held s b words = map plain_item (map (word_record n) words) ++ at_lines left n held (touched m s words) b
