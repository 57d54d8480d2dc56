-- A gate that withholds from several steps on.
use Rattle.std.proofs.Common.{◌≡◌, ◌⊎◌, inl, inr, ℕ, zero, suc, ◌<◌, ◌≤◌, Bool, true, false, cond, List, [], ◌∷◌, ◌++◌, length, take, drop, refl, sym, ap, ◌∙◌, arith, true≢false, length-append}
use Rattle.std.specs.Prelude.{filter, nat_lt, slice_index}
use Rattle.std.proofs.lemmas.Bool.{cases_lt}
use Rattle.std.proofs.lemmas.List.{length-take-le, take_all, nil_from_length, take-append-drop}
use Rattle.std.proofs.lemmas.List.Elements.{filter-append}
use Rattle.gate_core.specs.Core.{CoreState, IsSound}
use Rattle.gate_core.specs.Hub.{HubState, approved_at, verdict_at}
use Rattle.output_gate.specs.Gate.{GateState, count_below, with_withheld}
use Rattle.output_gate.proofs.GateLaws.{count_below-within}
use Rattle.turn_run.specs.Course.{Course, IsCourse, plan_of}
use Rattle.turn_run.specs.Gates.{Gates, IsLimit, refusals, withheld_from}
use Rattle.turn_run.proofs.ReleaseLaws.{after_withhold}

-- one step more
pub withheld-push : (steps : List ℕ) (step : ℕ) (gate : GateState) → withheld_from (steps ++ step ∷ []) gate ≡ with_withheld (withheld_from steps gate) step
withheld-push [] step gate = refl
withheld-push (first ∷ steps) step gate = withheld-push steps step (with_withheld gate first)

pub withheld-passed : (steps : List ℕ) (gate : GateState) → (withheld_from steps gate).passed ≡ gate.passed
withheld-passed [] gate = refl
withheld-passed (first ∷ steps) gate = withheld-passed steps (with_withheld gate first)

pub withheld-failed : (steps : List ℕ) (gate : GateState) → (withheld_from steps gate).failed ≡ gate.failed
withheld-failed [] gate = refl
withheld-failed (first ∷ steps) gate = withheld-failed steps (with_withheld gate first)

-- one reader more
refusals-by : (b : Bool) (approved : ℕ) (rest more : List ℕ) → cond b (approved ∷ rest) rest ++ more ≡ cond b (approved ∷ (rest ++ more)) (rest ++ more)
refusals-by true approved rest more = refl
refusals-by false approved rest more = refl

pub refusals-push : (hub : HubState) (readers : List ℕ) (reader : ℕ) → refusals hub (readers ++ reader ∷ []) ≡ refusals hub readers ++ refusals hub (reader ∷ [])
refusals-push hub [] reader = refl
refusals-push hub (first ∷ readers) reader =
    ap (λ l. cond (verdict_at hub first).refused (approved_at hub first ∷ l) l) (refusals-push hub readers reader)
    ∙ sym (refusals-by (verdict_at hub first).refused (approved_at hub first) (refusals hub readers) (refusals hub (reader ∷ [])))

-- what waits does not grow
kept_or_fewer : (k : ℕ) (xs : List ℕ) → k ≤ length xs → (take k xs ≡ xs) ⊎ (length (take k xs) < length xs)
kept_or_fewer k xs le = elim (cases_lt k (length xs)) [
  | inl less ↦ inr (omega (arith, less, length-take-le k xs le))
  | inr all ↦ inl (take_all k xs all)
]

pub withheld-fewer : (steps : List ℕ) (gate : GateState) → ((withheld_from steps gate).steps ≡ gate.steps) ⊎ (length (withheld_from steps gate).steps < length gate.steps)
withheld-fewer [] gate = inl refl
withheld-fewer (first ∷ steps) gate =
    let here : (take (count_below first gate.steps) gate.steps ≡ gate.steps) ⊎ (length (take (count_below first gate.steps) gate.steps) < length gate.steps) =
    kept_or_fewer (count_below first gate.steps) gate.steps (count_below-within first gate.steps) in
    elim (withheld-fewer steps (with_withheld gate first)) [
      | inl same ↦ elim here [
        | inl as_before ↦ inl (same ∙ as_before)
        | inr less ↦ inr (omega (arith, ap length same, less))
      ]
      | inr fewer ↦ elim here [
        | inl as_before ↦ inr (omega (arith, fewer, ap length as_before))
        | inr less ↦ inr (omega (arith, fewer, less))
      ]
    ]

pub withheld-short : (steps : List ℕ) (gate : GateState) → length (withheld_from steps gate).steps ≤ length gate.steps
withheld-short steps gate = elim (withheld-fewer steps gate) [ inl same ↦ omega (arith, ap length same) | inr less ↦ omega (arith, less) ]

-- where nothing that waits is below one of the steps, nothing waits any more
below-taken : (bound k : ℕ) (xs : List ℕ) → count_below bound xs ≡ 0 → count_below bound (take k xs) ≡ 0
below-taken bound k xs none =
    let parts : filter (λ step. nat_lt step bound) (take k xs) ++ filter (λ step. nat_lt step bound) (drop k xs) ≡ filter (λ step. nat_lt step bound) xs =
    sym (filter-append (λ step. nat_lt step bound) (take k xs) (drop k xs)) ∙ ap (filter (λ step. nat_lt step bound)) (take-append-drop k xs) in
    omega (arith, none, ap length parts, length-append (filter (λ step. nat_lt step bound) (take k xs)) (filter (λ step. nat_lt step bound) (drop k xs)))

pub withheld-none : (steps : List ℕ) (gate : GateState) (bound place : ℕ) → place < length steps → slice_index steps place ≡ bound → count_below bound gate.steps ≡ 0 → (withheld_from steps gate).steps ≡ []
withheld-none [] gate bound place less is none = absurd (omega (arith, less))
withheld-none (first ∷ steps) gate bound zero less is none =
    let gone : length (take (count_below first gate.steps) gate.steps) ≡ 0 = ap (λ n. length (take n gate.steps)) (ap (λ b. count_below b gate.steps) is ∙ none) in
    nil_from_length (withheld_from steps (with_withheld gate first)).steps (omega (arith, withheld-short steps (with_withheld gate first), gone))
withheld-none (first ∷ steps) gate bound (suc place) less is none =
    withheld-none steps (with_withheld gate first) bound place (omega (arith, less)) is (below-taken bound (count_below first gate.steps) gate.steps none)

-- each refusal is that of a reader, and each reader that refuses has one
module _ (hub : HubState) where
  all-by : (P : ℕ → Type 0) (b : Bool) (approved : ℕ) (rest : List ℕ) → (b ≡ true → P approved) → ((place : ℕ) → place < length rest → P (slice_index rest place))
      → (place : ℕ) → place < length (cond b (approved ∷ rest) rest) → P (slice_index (cond b (approved ∷ rest) rest) place)
  all-by P true approved rest here others zero less = here refl
  all-by P true approved rest here others (suc place) less = others place (omega (arith, less))
  all-by P false approved rest here others place less = others place less

  pub refusals-all : (P : ℕ → Type 0) (readers : List ℕ) → ((place : ℕ) → place < length readers → (verdict_at hub (slice_index readers place)).refused ≡ true → P (approved_at hub (slice_index readers place)))
      → (place : ℕ) → place < length (refusals hub readers) → P (slice_index (refusals hub readers) place)
  refusals-all P [] each place less = absurd (omega (arith, less))
  refusals-all P (first ∷ readers) each place less =
      all-by P (verdict_at hub first).refused (approved_at hub first) (refusals hub readers) (each 0 (omega arith))
      (refusals-all P readers (λ at there. each (suc at) (omega (arith, there)))) place less

  one-by : (b : Bool) (approved bound : ℕ) (rest : List ℕ) → (b ≡ true) × (approved ≡ bound) ⊎ ((place : ℕ) × (place < length rest) × (slice_index rest place ≡ bound))
      → (place : ℕ) × (place < length (cond b (approved ∷ rest) rest)) × (slice_index (cond b (approved ∷ rest) rest) place ≡ bound)
  one-by true approved bound rest (inl here) = (0, omega arith, here.1)
  one-by true approved bound rest (inr there) = (suc there.0, omega (arith, there.1), there.2)
  one-by false approved bound rest (inl here) = absurd (true≢false (sym here.0))
  one-by false approved bound rest (inr there) = there

  pub refusals-one : (readers : List ℕ) (place : ℕ) → place < length readers → (verdict_at hub (slice_index readers place)).refused ≡ true
      → (at : ℕ) × (at < length (refusals hub readers)) × (slice_index (refusals hub readers) at ≡ approved_at hub (slice_index readers place))
  refusals-one [] place less refused = absurd (omega (arith, less))
  refusals-one (first ∷ readers) zero less refused =
      one-by (verdict_at hub first).refused (approved_at hub first) (approved_at hub first) (refusals hub readers) (inl (refused, refl))
  refusals-one (first ∷ readers) (suc place) less refused =
      one-by (verdict_at hub first).refused (approved_at hub first) (approved_at hub (slice_index readers place)) (refusals hub readers) (inr (refusals-one readers place (omega (arith, less)) refused))

-- the gate stands where the core does, whatever limits of required followers it withholds from
pub all-withheld : (c : Course) (is : IsCourse c) (core : CoreState) (sound : IsSound (plan_of c) core) (steps : List ℕ) → ((place : ℕ) → place < length steps → IsLimit c (slice_index steps place)) → (gate : GateState)
    → Gates c core gate → Gates c core (withheld_from steps gate)
all-withheld c is core sound [] limits gate g = g
all-withheld c is core sound (first ∷ steps) limits gate g =
    all-withheld c is core sound steps (λ place less. limits (suc place) (omega (arith, less))) (with_withheld gate first) (after_withhold c is core gate g sound first (limits 0 (omega arith)))
