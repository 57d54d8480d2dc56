-- What a recorder hands out.
use Rattle.std.specs.Prelude.{◌≡◌, ℕ, ◌<◌, ◌≤◌, List, [], ◌∷◌}
use Rattle.run_events.specs.declared.item.Item.{Item}
use Rattle.any_machine.specs.declared.recorder.Advance.{Advance}
use Rattle.any_machine.specs.declared.recorder.Advance.TheVariants as advance

-- which items are still to come of a recorder, and a bound on how many
pub record Recording (M : Type 0) : Type 1 where
  pub to_come : M → List Item → Type 0
  pub left : M → ℕ

-- of these items the first one was given, and the others are still to come
pub record GivesItem {M : Type 0} (r : Recording M) (item : Item) (items : List Item) (new : M) : Type 0 where
  pub rest : List Item
  pub first : items ≡ item ∷ rest
  pub to_come : r.to_come new rest

-- what is handed out next of these items, and what is still to come then
abbrev pub Advances : {M : Type 0} → Recording M → List Item → M → Advance → Type 0
Advances r items new (advance.Item item byte) = GivesItem r (record { item = item; byte = byte }) items new
Advances r items new advance.Ended = (items ≡ []) × r.to_come new []

-- each item that is given makes the bound fall
abbrev pub Falls : {M : Type 0} → Recording M → M → M → Advance → Type 0
Falls r old new (advance.Item item byte) = r.left new < r.left old
Falls r old new advance.Ended = r.left new ≤ r.left old
