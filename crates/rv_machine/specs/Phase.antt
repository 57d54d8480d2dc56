-- What the phases of a recorder say.
use Rattle.std.specs.Prelude.{◌≡◌, ℕ, ◌+◌, ◌*◌, ◌%◌, ◌==◌, if◌then◌else◌, Bool, true, false, List, [], ◌∷◌, Option, None, Some}
use Rattle.any_machine.specs.Log.{plain_item}
use Rattle.run_events.specs.declared.item.Item.{Item}
use Rattle.run_events.specs.declared.record.EndCause.TheVariants.{Power}
use Rattle.run_events.specs.declared.record.Record.TheVariants.{Reach}
use Rattle.run_events.specs.declared.supply.Need as need
use Rattle.run_events.specs.declared.supply.Need.TheVariants.{Nothing}
use Rattle.run_events.specs.declared.supply.Supplied.{Supplied}
use Rattle.rv_machine.specs.declared.phase.Phase.{Phase}
use Rattle.rv_machine.specs.declared.phase.Phase.TheVariants.{Between, Words, Lines, Need, Given, Ending, Over}

-- 1 inside a step that has begun, else 0
abbrev pub inside : Phase → ℕ
inside Between = 0
inside (Ending cause) = 0
inside Over = 0
inside _ = 1

-- so many words of the disk may be due
abbrev pub sends : Phase → ℕ
sends Words = 128
sends _ = 0

-- where a device register gave something, the step has to load one
abbrev pub awaits : Phase → Bool → Bool
awaits (Given supplied) loads = loads
awaits _ loads = true

-- the record of the end was given
abbrev pub is_over : Phase → Bool
is_over Over = true
is_over _ = false

-- at most so many items are to come in a phase, with so many steps left and so many words due: in each step 128 words,
-- the lines, a load and a mark, and one at the end
abbrev pub items_at_most : Phase → (left due : ℕ) → ℕ
items_at_most Between left due = 133 * left + 1
items_at_most Words left due = 133 * left + due + 4
items_at_most Lines left due = 133 * left + 4
items_at_most Need left due = 133 * left + 3
items_at_most (Given supplied) left due = 133 * left + 2
items_at_most (Ending cause) left due = 1
items_at_most Over left due = 0

-- how a run goes on after a step, at which the guest gave its status or did not
abbrev pub phase_after : Option ℕ → Phase
phase_after None = Between
phase_after (Some status) = Ending (Power status)

abbrev pub items_of : Option Item → List Item
items_of None = []
items_of (Some item) = item ∷ []

-- that so many steps are done is told at the multiples of 256, of steps that send nothing
abbrev pub mark_items : (done : ℕ) → List Item
mark_items done = if done % 256 == 0 then plain_item (Reach done) ∷ [] else []

-- what a step is given is what it needs
abbrev pub Supplies : Phase → Option Supplied → need.Need → Type 0
Supplies Need None needed = needed ≡ Nothing
Supplies (Given given) (Some supplied) needed = given ≡ supplied
Supplies _ supplied needed = ⊥
