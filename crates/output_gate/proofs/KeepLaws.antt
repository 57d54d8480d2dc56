-- What each call keeps true of a gate.
use Rattle.memory_map.specs.declared.TheConstants.{MOST_STEPS}
use Rattle.std.proofs.Common.{◌≡◌, ℕ, ◌+◌, ◌-◌, ◌<◌, ◌≤◌, false, nat_eq, List, [], ◌∷◌, ◌++◌, length, take, drop, Option, None, Some, arith, refl}
use Rattle.std.specs.Prelude.{IfSome}
use Rattle.std.proofs.lemmas.List.{length-drop, length-take-le, length_push}
use Rattle.circular_buffer.specs.Buffer.{keep_last}
use Rattle.output_gate.specs.declared.gate.TheConstants.{ROOM}
use Rattle.output_gate.specs.Gate.{GateState, IsGate, Climbs, passed_after, count_below, is_withheld, first_withheld, with_release, with_withheld}
use Rattle.output_gate.proofs.GateLaws.{Climbs-wider, Climbs-push, Climbs-take, Climbs-drop, Climbs-min, Climbs-below, count_below-within}

-- where a ring is not full, fewer items than it may hold are in it
pub few_wait : (count room : ℕ) → room ≡ ROOM → count ≤ ROOM → false ≡ nat_eq count room → count < ROOM
few_wait count room is most other = grind arith

-- a ring with room keeps all
pub keep_last-room : {X : Type 0} (items : List X) (item : X) (room : ℕ) → length items < room → keep_last room (items ++ item ∷ []) ≡ items ++ item ∷ []
keep_last-room items item room less =
    let none : length (items ++ item ∷ []) - room ≡ 0 = omega (arith, length_push items item) in
    rw none refl

-- the waiting steps of every gate, under bounds that no field moves
pub order-bounds : (g : GateState) → IsGate g → g.failed ≡ false → Climbs 0 g.steps MOST_STEPS
order-bounds g is sound = Climbs-wider g.steps g.passed 0 g.next MOST_STEPS (omega arith) is.within (is.order sound)

-- a step that is not withheld is below the one from which on all is
push-below : (from : Option ℕ) (steps : List ℕ) (low high step : ℕ) → is_withheld from step ≡ false → Climbs low steps high → high ≤ step → IfSome from (λ f. Climbs low (steps ++ step ∷ []) f)
push-below None steps low high step other climbs h = tt
push-below (Some f) steps low high step other climbs h = Climbs-push steps low high step f climbs h (grind arith)

drop-below : (from : Option ℕ) (steps : List ℕ) (low count : ℕ) → IfSome from (λ f. Climbs low steps f) → IfSome from (λ f. Climbs (passed_after low (take count steps)) (drop count steps) f)
drop-below None steps low count was = tt
drop-below (Some f) steps low count was = Climbs-drop count steps low f was

take-below : (from : Option ℕ) (steps : List ℕ) (low high step : ℕ) → IfSome from (λ f. Climbs low steps f) → Climbs low steps high → low ≤ step → Climbs low (take (count_below step steps) steps) (first_withheld from step)
take-below None steps low high step was climbs l = Climbs-below steps low high step climbs l
take-below (Some f) steps low high step was climbs l =
    Climbs-min (take (count_below step steps) steps) low f step (Climbs-take (count_below step steps) steps low f was) (Climbs-below steps low high step climbs l)

-- one byte more waits
pub wait-IsGate : (g : GateState) (step byte : ℕ) → IsGate g → g.failed ≡ false → length g.steps < ROOM → g.next ≤ step → step < MOST_STEPS → is_withheld g.from step ≡ false
    → IsGate (record g { steps = g.steps ++ step ∷ []; bytes = g.bytes ++ byte ∷ []; issued = g.issued + 1; next = step + 1 })
wait-IsGate g step byte was sound room rises within other =
    let steps : length (g.steps ++ step ∷ []) ≡ length g.steps + 1 = length_push g.steps step in
    let bytes : length (g.bytes ++ byte ∷ []) ≡ length g.bytes + 1 = length_push g.bytes byte in
    record {
      few = omega arith;
      paired = omega (arith, was.paired);
      counted = omega (arith, was.counted);
      rising = omega (arith, was.rising);
      within = omega arith;
      order = λ same. Climbs-push g.steps g.passed g.next step (step + 1) (was.order same) rises (omega arith);
      below = λ same. push-below g.from g.steps g.passed g.next step other (was.order same) rises;
    }

-- one byte more is withheld
pub withheld-IsGate : (g : GateState) (step : ℕ) → IsGate g → g.next ≤ step → step < MOST_STEPS
    → IsGate (record g { issued = g.issued + 1; withheld = g.withheld + 1; next = step + 1 })
withheld-IsGate g step was rises within = record {
  few = was.few;
  paired = was.paired;
  counted = omega (arith, was.counted);
  rising = omega (arith, was.rising);
  within = omega arith;
  order = λ same. Climbs-wider g.steps g.passed g.passed g.next (step + 1) (omega arith) (omega arith) (was.order same);
  below = was.below;
}

pub release-IsGate : (g : GateState) (count : ℕ) → IsGate g → count ≤ length g.steps → IsGate (with_release g count)
release-IsGate g count was some =
    let steps : length (drop count g.steps) ≡ length g.steps - count = length-drop count g.steps in
    let bytes : length (drop count g.bytes) ≡ length g.bytes - count = length-drop count g.bytes in
    record {
      few = omega (arith, was.few);
      paired = omega (arith, was.paired);
      counted = omega (arith, was.counted);
      rising = was.rising;
      within = was.within;
      order = λ same. Climbs-drop count g.steps g.passed g.next (was.order same);
      below = λ same. drop-below g.from g.steps g.passed count (was.below same);
    }

pub withhold-IsGate : (g : GateState) (step : ℕ) → IsGate g → g.passed ≤ step → IsGate (with_withheld g step)
withhold-IsGate g step was passed =
    let some : count_below step g.steps ≤ length g.steps = count_below-within step g.steps in
    let steps : length (take (count_below step g.steps) g.steps) ≡ count_below step g.steps = length-take-le (count_below step g.steps) g.steps some in
    let bytes : length (take (count_below step g.steps) g.bytes) ≡ count_below step g.steps = length-take-le (count_below step g.steps) g.bytes (omega (arith, was.paired)) in
    record {
      few = omega (arith, was.few);
      paired = omega arith;
      counted = omega (arith, was.counted);
      rising = was.rising;
      within = was.within;
      order = λ same. Climbs-take (count_below step g.steps) g.steps g.passed g.next (was.order same);
      below = λ same. take-below g.from g.steps g.passed g.next step (was.below same) (was.order same) passed;
    }
