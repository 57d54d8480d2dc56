-- What is still to come of a machine's run, and what a call gives of it.
use Rattle.std.specs.Prelude.{◌≡◌, ℕ, false, ◌+◌, ◌*◌, ◌/◌, ◌<◌, ◌≤◌, List, [], ◌∷◌, length, Option, None, Some}
use Rattle.std.specs.List.{AllByRecursion}
use Rattle.run_events.specs.declared.item.Item.{Item}
use Rattle.run_events.specs.declared.supply.DmaWord.{DmaWord}
use Rattle.any_machine.specs.Recorder.{end_item, still_to_come, at_words, at_lines, at_load, at_step}
use Rattle.any_machine.specs.Recording.{Recording, GivesItem}
use Rattle.board_model.specs.TheBoard.{board}
use Rattle.hart_model.specs.Machine.{hart}
use Rattle.hart_model.specs.State.{State}
use Rattle.machine_model.specs.Board.{BoardState, IsDiskWord, IsUnderWay, board_lines}
use Rattle.machine_model.specs.Script.{Script}
use Rattle.rv_devices.specs.Stands.{Stands, words_due}
use Rattle.rv_devices.specs.declared.board.Board.{Board}
use Rattle.rv_machine.specs.Phase.{inside, is_over, items_at_most}
use Rattle.rv_machine.specs.declared.machine.Machine.{Machine}
use Rattle.rv_machine.specs.declared.phase.Phase.{Phase}
use Rattle.rv_machine.specs.declared.phase.Phase.TheVariants.{Between, Words, Lines, Need, Given, Ending, Over}

-- the items to come in each phase, with so many steps left up to the limit after the one that has begun
unfoldable pub coming : Script → Phase → (left step lines : ℕ) → State → BoardState → List DmaWord
    → List Item
coming script Between left step lines s b words =
    still_to_come hart (board script) left step lines s b
coming script Words left step lines s b words =
    at_words hart (board script) left step lines s b words
coming script Lines left step lines s b words = at_lines hart (board script) left step lines s b
coming script Need left step lines s b words = at_load hart (board script) left step lines s b
coming script (Given supplied) left step lines s b words =
    at_step hart (board script) left step lines s b (Some supplied)
coming script (Ending cause) left step lines s b words = end_item step cause ∷ []
coming script Over left step lines s b words = []

-- words are due in one phase alone
abbrev pub MayBeDue : Phase → List DmaWord → Type 0
MayBeDue Words words = Unit {0}
MayBeDue _ words = words ≡ []

-- the lines that are told are those of the board
abbrev pub HasTold : Phase → (lines shown : ℕ) → Type 0
HasTold Need lines shown = shown ≡ lines
HasTold _ lines shown = Unit {0}

-- A hart and a board in a phase of a step, with so many steps left after the one that has begun, and these lines held:
-- the board gives RAM what it may take, and these items are still to come.
pub record Awaits (phase : Phase) (left lines : ℕ) (s : State) (b : Board) (items : List Item)
    : Type 0 where
  pub script : Script
  pub state : BoardState
  pub words : List DmaWord
  pub stands : Stands script (s.step + inside phase) words state b
  pub way : IsUnderWay (length s.ram) state.activity
  pub held : AllByRecursion (IsDiskWord (length s.ram)) words
  pub due : MayBeDue phase words
  pub told : HasTold phase lines (board_lines script s.step state)
  pub are : items ≡ coming script phase left s.step lines s state words

-- these items are still to come of a machine
abbrev pub ToCome : Machine → List Item → Type 0
ToCome m items = Awaits m.phase m.left m.lines m.cpu m.board items

-- so many steps are done
abbrev pub steps_of : Machine → ℕ
steps_of m = m.cpu.step

-- a bound on the number of items to come, which falls with each item
abbrev pub to_do : Machine → ℕ
to_do m = items_at_most m.phase m.left (words_due m.board)

-- what a machine hands out
abbrev pub recording : Recording Machine
recording = record { to_come = ToCome; left = to_do }

-- a turn gives the next item, or none and all are still to come
abbrev pub GivesNext : Option Item → List Item → Machine → Type 0
GivesNext None items after = ToCome after items
GivesNext (Some item) items after = GivesItem recording item items after

-- steps were done that make no item, and so none of their numbers plus 1 is a multiple of 256
pub record GoesOn (before after : Machine) : Type 0 where
  pub going : is_over after.phase ≡ false
  pub onward : before.cpu.step < after.cpu.step
  pub block : after.cpu.step / 256 ≡ before.cpu.step / 256
  pub less : to_do after ≤ to_do before

-- an item was made, at the latest once the number of steps is a multiple of 256
pub record Gave (before after : Machine) : Type 0 where
  pub few : after.cpu.step ≤ before.cpu.step / 256 * 256 + 256
  pub less : to_do after < to_do before

abbrev pub MovesOn : Option Item → Machine → Machine → Type 0
MovesOn None before after = GoesOn before after
MovesOn (Some item) before after = Gave before after

-- a turn from a machine to the next
pub record IsOneTurn (given : Option Item) (before after : Machine) : Type 0 where
  pub gives : (items : List Item) → ToCome before items → GivesNext given items after
  pub moves : MovesOn given before after

-- the next item of a machine, which comes after at most 256 steps
pub record FoundNext (item : Item) (before after : Machine) : Type 0 where
  pub gives : (items : List Item) → ToCome before items → GivesItem recording item items after
  pub few : after.cpu.step ≤ before.cpu.step + 256
  pub less : to_do after < to_do before
