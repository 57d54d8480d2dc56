-- What a source still has to hand out.
use Rattle.std.specs.Prelude.{◌≡◌, ℕ, ◌+◌, List, [], ◌∷◌, ◌++◌, Option, None, Some}
use Rattle.std.specs.Option.{option_to_list}
use Rattle.run_events.specs.declared.item.Item.{Item}
use Rattle.turn_run.specs.declared.source.Source.{Source}
use Rattle.any_machine.specs.Recording.{Recording}

-- the item that waits for its place in the log
abbrev pub waiting_item : {M : Type 0} → Source M → Option Item
waiting_item source = source.waiting

-- the item that waits, and then those that are still to come of the recorder
pub record StillToCome {M : Type 0} (r : Recording M) (source : Source M) (items : List Item) : Type 0 where
  pub rest : List Item
  pub to_come : r.to_come source.recorder rest
  pub joined : items ≡ option_to_list source.waiting ++ rest

-- the first one of some items, and what is still to come after it
pub record IsFirstOf {M : Type 0} (r : Recording M) (items : List Item) (source : Source M) (item : Item) : Type 0 where
  pub rest : List Item
  pub first : items ≡ item ∷ rest
  pub to_come : StillToCome r source rest

abbrev pub IsNextOf : {M : Type 0} → Recording M → List Item → Source M → Option Item → Type 0
IsNextOf r items source None = (items ≡ []) × StillToCome r source []
IsNextOf r items source (Some item) = IsFirstOf r items source item

-- a bound on how many there are
abbrev pub waits : Option Item → ℕ
waits None = 0
waits (Some item) = 1

abbrev pub items_left : {M : Type 0} → Recording M → Source M → ℕ
items_left r source = r.left source.recorder + waits source.waiting
