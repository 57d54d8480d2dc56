-- What a gate holds, and what each call makes of it.
use Rattle.memory_map.specs.declared.TheConstants.{MOST_STEPS}
use Rattle.output_gate.specs.declared.gate.TheConstants.{ROOM}
use Rattle.std.specs.Prelude.{◌≡◌, ℕ, ◌+◌, ◌-◌, ◌≤◌, ◌==◌, Bool, true, false, nat_le, nat_lt, if◌then◌else◌, List, [], ◌∷◌, ◌++◌, length, take, drop, filter, min, Option, Some, None, IfSome}

-- the steps and the bytes that wait, first in first; how many bytes were issued, released and withheld; one more than the
-- last step that was issued, and than the last one whose byte was handed to a put; the step from which on all is withheld;
-- whether a put has failed
pub record GateState : Type 0 where
  pub steps : List ℕ
  pub bytes : List ℕ
  pub issued : ℕ
  pub released : ℕ
  pub withheld : ℕ
  pub next : ℕ
  pub passed : ℕ
  pub from : Option ℕ
  pub failed : Bool

-- the steps rise strictly, none is below the first number, and all are below the last one
abbrev pub Climbs : ℕ → List ℕ → ℕ → Type 0
Climbs low [] high = low ≤ high
Climbs low (step ∷ steps) high = (low ≤ step) × Climbs (step + 1) steps high

-- what is true of every gate; the order of what waits is told while no put has failed
pub record IsGate (g : GateState) : Type 0 where
  pub few : length g.steps ≤ ROOM
  pub paired : length g.bytes ≡ length g.steps
  pub counted : g.issued ≡ g.released + length g.steps + g.withheld
  pub rising : g.issued ≤ g.next
  pub within : g.next ≤ MOST_STEPS
  pub order : g.failed ≡ false → Climbs g.passed g.steps g.next
  pub below : g.failed ≡ false → IfSome g.from (λ from. Climbs g.passed g.steps from)

-- before the first call
abbrev pub empty_gate : GateState
empty_gate = record { steps = []; bytes = []; issued = 0; released = 0; withheld = 0; next = 0; passed = 0; from = None; failed = false }

-- no byte more may wait
abbrev pub is_full : GateState → Bool
is_full g = length g.steps == ROOM

-- the byte of a step is withheld
abbrev pub is_withheld : Option ℕ → ℕ → Bool
is_withheld None step = false
is_withheld (Some from) step = nat_le from step

-- after a byte was issued: it waits after the others, or is withheld; nothing where no byte more may wait
abbrev pub with_issue : GateState → ℕ → ℕ → GateState
with_issue g step byte =
    if is_full g then g
    else if is_withheld g.from step then record g { issued = g.issued + 1; withheld = g.withheld + 1; next = step + 1 }
    else record g { steps = g.steps ++ step ∷ []; bytes = g.bytes ++ byte ∷ []; issued = g.issued + 1; next = step + 1 }

-- how many of some steps are below this one
abbrev pub count_below : ℕ → List ℕ → ℕ
count_below below steps = length (filter (λ step. nat_lt step below) steps)

-- one more than the last of some steps, or what it was before them
abbrev pub passed_after : ℕ → List ℕ → ℕ
passed_after low [] = low
passed_after low (step ∷ steps) = passed_after (step + 1) steps

-- after the first so many waiting bytes were put, and after a put of them failed
abbrev pub with_release : GateState → ℕ → GateState
with_release g count = record g { steps = drop count g.steps; bytes = drop count g.bytes; released = g.released + count; passed = passed_after g.passed (take count g.steps) }

abbrev pub with_failure : GateState → ℕ → GateState
with_failure g count = record g { passed = passed_after g.passed (take count g.steps); failed = true }

-- the lesser of the step from which on all was withheld so far, and this one
abbrev pub first_withheld : Option ℕ → ℕ → ℕ
first_withheld None step = step
first_withheld (Some from) step = min from step

-- after the waiting bytes of all steps from this one on were dropped
abbrev pub with_withheld : GateState → ℕ → GateState
with_withheld g step = record g {
  steps = take (count_below step g.steps) g.steps;
  bytes = take (count_below step g.steps) g.bytes;
  withheld = g.withheld + (length g.steps - count_below step g.steps);
  from = Some (first_withheld g.from step);
}
