-- A finished core has released exactly the bytes that all required replicas approve.
use Rattle.std.proofs.Common.{◌≡◌, ℕ, zero, suc, ◌<◌, ◌≤◌, Bool, true, false, nat_lt, List, [], ◌∷◌, length, take, slice_index, arith, refl, ap, subst, ◌∙◌}
use Rattle.std.proofs.lemmas.List.{take_all}
use Rattle.run_events.specs.Record.{reach}
use Rattle.gate_core.specs.Core.{Plan, CoreState, StepsRise, IsPlan, MayGoOut, IsReleasable, IsSound, IsFinished, IsAllowed, ReleasesAll}

no_lower : (low : ℕ) (steps : List ℕ) → StepsRise low steps → (k : ℕ) → k < length steps → low ≤ slice_index steps k
no_lower low [] rises k below = absurd (omega (arith, below))
no_lower low (step ∷ steps) rises zero below = rises.0
no_lower low (step ∷ steps) rises (suc k) below =
    let rest = no_lower step steps rises.1 k (omega (arith, below)) in
    omega (arith, rises.0, rest)

-- later steps are no smaller
rises_at : (low : ℕ) (steps : List ℕ) → StepsRise low steps → (i j : ℕ) → i ≤ j → j < length steps → slice_index steps i ≤ slice_index steps j
rises_at low [] rises i j le below = absurd (omega (arith, below))
rises_at low (step ∷ steps) rises zero zero le below = omega arith
rises_at low (step ∷ steps) rises zero (suc j) le below = no_lower step steps rises.1 j (omega (arith, below))
rises_at low (step ∷ steps) rises (suc i) zero le below = absurd (omega (arith, le))
rises_at low (step ∷ steps) rises (suc i) (suc j) le below = rises_at step steps rises.1 i j (omega (arith, le)) (omega (arith, below))

module _ (plan : Plan) (is_plan : IsPlan plan) (s : CoreState) (sound : IsSound plan s) (done : IsFinished plan s) (byte : ℕ) (there : byte < length plan.outputs) where
  -- a released byte was approved, and no replica approves beyond its limit
  allowed : byte < s.released → IsAllowed plan byte
  allowed low reader required =
      let in_plan : reader < length plan.limits = subst (λ r. r < length plan.limits) required.2 (is_plan.required required.0 required.1) in
      omega (arith, (sound.may_go byte low).approved reader required, (sound.readers reader in_plan).limit)

  -- were an allowed byte not released, the next one could be
  next_may_go : IsAllowed plan byte → s.released ≤ byte → MayGoOut plan s (slice_index plan.outputs s.released)
  next_may_go all high =
      let first : slice_index plan.outputs s.released ≤ slice_index plan.outputs byte = rises_at 0 plan.outputs is_plan.rises s.released byte high there in
      let within : slice_index plan.outputs s.released < reach plan.items = is_plan.within s.released (omega (arith, high, there)) in
      let whole : reach (take s.appended plan.items) ≡ reach plan.items = ap (λ n. reach (take n plan.items)) done.appended ∙ ap reach (take_all (length plan.items) plan.items (omega arith)) in
      record {
        reached = omega (arith, within, whole);
        approved = λ reader required. omega (arith, first, within, all reader required, done.approved reader required);
      }

  next_releasable : MayGoOut plan s (slice_index plan.outputs s.released) → s.released ≤ byte → IsReleasable plan s 1
  next_releasable next high = record {
    sound = done.sound;
    some = omega arith;
    piece = omega arith;
    there = omega (arith, high, there);
    may_go = λ k from to. subst (λ j. MayGoOut plan s (slice_index plan.outputs j)) (let e : s.released ≡ k = omega (arith, from, to) in e) next;
  }

  by_size : (b : Bool) → nat_lt byte s.released ≡ b → IsAllowed plan byte → byte < s.released
  by_size true low all = grind (arith, low)
  by_size false test all =
      let high : s.released ≤ byte = grind (arith, test) in
      absurd (done.none 1 (next_releasable (next_may_go all high) high))

pub releases_all : ReleasesAll
releases_all plan is_plan s sound done byte there = (allowed plan is_plan s sound done byte there, by_size plan is_plan s sound done byte there (nat_lt byte s.released) refl)
