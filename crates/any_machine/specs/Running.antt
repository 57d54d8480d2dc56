-- A run of a replay that goes on: what it has done so far, and what is still to come.
use Rattle.std.specs.Prelude.{◌≡◌, ℕ, true, List, [], ◌∷◌, ◌++◌, None, Some}
use Rattle.run_events.specs.declared.event.Event.{Event}
use Rattle.run_events.specs.declared.supply.Supplied.{Supplied}
use Rattle.any_machine.specs.Machine.{Machine, is_load, power_status}
use Rattle.any_machine.specs.Held.{Held, RunsTo, run_held}

-- A run that began at one place stands at another one, where this is seen: the steps between and where they lead, their
-- events, what is left of the run, and what is seen.
pub record RunSoFar {S : Type 0} (m : Machine S) (number : ℕ) (first now : Held S) (Seen SeenNow : List Event → Type 0) : Type 0 where
  pub steps : ℕ
  pub held : run_held m steps first ≡ now
  pub events : List Event
  pub goes : (last : Held S) (rest : List Event) → RunsTo m number now last rest → RunsTo m number first last (events ++ rest)
  pub seen : (h : List Event) → Seen h → SeenNow (h ++ events)

-- a hart whose step to come is fed nothing but these lines, and whose last step was no power store
abbrev pub unfed : {H : Type 0} → (H → ℕ) → ℕ → H → Held H
unfed done lines hart = record { state = hart; step = done hart; lines = lines; load = None; power = None }

-- and one whose step to come is given this beside them
abbrev pub fed : {H : Type 0} → (H → ℕ) → ℕ → Supplied → H → Held H
fed done lines supplied hart = record { state = hart; step = done hart; lines = lines; load = Some supplied; power = None }

-- a hart has done the step to come with what the device register that it loads supplied, which was seen, and which was no
-- power store
pub record IsFed {S : Type 0} (m : Machine S) (lines : ℕ) (supplied : Supplied) (s s' : S) (Seen SeenNow : List Event → Type 0) : Type 0 where
  pub loads : is_load (m.needs s lines) ≡ true
  pub state : (m.step s lines (Some supplied)).1 ≡ s'
  pub runs : power_status (m.step s lines (Some supplied)).0 ≡ None
  pub seen : (h : List Event) → Seen h → SeenNow (h ++ (m.step s lines (Some supplied)).0 ∷ [])
