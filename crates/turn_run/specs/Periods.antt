-- What the turns of a period move, and how followers read to the close.
use Rattle.std.specs.Prelude.{◌≡◌, ◌⊎◌, ℕ, ◌≤◌, ◌<◌, true, List, [], length, slice_index}
use Rattle.std.specs.List.{All}
use Rattle.gate_core.specs.Core.{CoreState}
use Rattle.gate_core.specs.Hub.{HubState}
use Rattle.any_machine.specs.Recording.{Recording}
use Rattle.run_settings.specs.declared.letter.Letter.{Letter}
use Rattle.run_settings.specs.declared.letter.Letter.TheVariants as letter
use Rattle.turn_run.specs.declared.parts.Parts.{Parts}
use Rattle.turn_run.specs.Following.{Following}
use Rattle.turn_run.specs.Course.{Course}
use Rattle.turn_run.specs.Runs.{AllRead, AllTaken, IsBroken, IsFollowed, turns_left}

-- some reader has not taken all of the log
pub record IsBehind (hub : HubState) : Type 0 where
  pub reader : ℕ
  pub there : reader < length hub.taken
  pub behind : slice_index hub.taken reader < hub.appended

-- There is nothing to do in this turn. The recorder has nothing to do where the log is closed, and has no place for its
-- record only where some reader is behind or bytes wait; a follower, where it has taken all; the gate, where once all is
-- taken no byte waits.
abbrev pub IsIdle : HubState → List ℕ → Letter → Type 0
IsIdle hub steps letter.Record = (hub.closed ≡ true) ⊎ (IsBehind hub ⊎ (1 ≤ length steps))
IsIdle hub steps (letter.Read reader) = slice_index hub.taken reader ≡ hub.appended
IsIdle hub steps letter.Release = AllRead hub → steps ≡ []

module _ {M F : Type 0} (r : Recording M) (f : Following F) where
  -- nothing has changed but what the recorder holds
  pub record IsStill (before after : Parts M F) : Type 0 where
    pub hub : after.hub ≡ before.hub
    pub steps : after.gate.steps ≡ before.gate.steps
    pub left : turns_left r f after ≤ turns_left r f before

  -- less is left, or there was nothing to do
  abbrev pub Moves : Letter → Parts M F → Parts M F → Type 0
  Moves turn before after = (turns_left r f after < turns_left r f before) ⊎ (IsStill before after × IsIdle before.hub before.gate.steps turn)

  -- so it was in each of these turns: less is left, or in none of them was there anything to do
  abbrev pub HaveMoved : List Letter → Parts M F → Parts M F → Type 0
  HaveMoved turns before after = (turns_left r f after < turns_left r f before) ⊎ (IsStill before after × All (IsIdle before.hub before.gate.steps) turns)

  -- some course and some state of the core are those of a run whose put has failed
  pub record IsBrokenRun (parts : Parts M F) : Type 0 where
    pub of : Course
    pub core : CoreState
    pub broken : IsBroken r f of core parts

-- the same records, and what was released, in another state of the core
pub record SameLog (before after : CoreState) : Type 0 where
  pub appended : after.appended ≡ before.appended
  pub closed : after.closed ≡ before.closed
  pub failed : after.failed ≡ before.failed
  pub released : after.released ≡ before.released

module _ {M F : Type 0} (f : Following F) where
  -- the followers have read on in the same log, and those that had taken all of it have taken all of it
  pub record HasRead (c : Course) (core : CoreState) (after : Parts M F) : Type 0 where
    pub next : CoreState
    pub follows : IsFollowed f c next after
    pub same : SameLog core next
    pub others : (other : ℕ) → slice_index core.taken other ≡ core.appended → slice_index next.taken other ≡ next.appended

  -- and this one has taken all
  pub record HasReadUp (c : Course) (core : CoreState) (reader : ℕ) (after : Parts M F) : Type 0 where
    pub on : HasRead c core after
    pub all : slice_index on.next.taken reader ≡ on.next.appended

  -- and the first so many have
  pub record HasReadSome (c : Course) (core : CoreState) (count : ℕ) (after : Parts M F) : Type 0 where
    pub on : HasRead c core after
    pub all : (reader : ℕ) → reader < count → slice_index on.next.taken reader ≡ on.next.appended

  -- and each has
  pub record HasReadAll (c : Course) (core : CoreState) (after : Parts M F) : Type 0 where
    pub on : HasRead c core after
    pub all : AllTaken c on.next
