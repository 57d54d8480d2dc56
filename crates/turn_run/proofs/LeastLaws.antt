-- The least limit of some readers.
use Rattle.std.proofs.Common.{◌≡◌, ◌⊎◌, inl, inr, ℕ, zero, suc, ◌<◌, ◌≤◌, List, [], ◌∷◌, ◌++◌, length, refl, arith}
use Rattle.std.specs.Prelude.{min, slice_index}
use Rattle.std.proofs.lemmas.Bool.{cases_lt}
use Rattle.turn_run.specs.Course.{least_limit}

module _ (limits : List ℕ) (end : ℕ) where
  -- one reader more
  pub least-push : (readers : List ℕ) (reader : ℕ) → least_limit limits end (readers ++ reader ∷ []) ≡ min (slice_index limits reader) (least_limit limits end readers)
  least-push [] reader = refl
  least-push (first ∷ readers) reader = omega (arith, least-push readers reader)

  -- it is at most each limit
  pub least-each : (readers : List ℕ) (place : ℕ) → place < length readers → least_limit limits end readers ≤ slice_index limits (slice_index readers place)
  least-each [] place less = absurd (omega (arith, less))
  least-each (first ∷ readers) zero less = omega arith
  least-each (first ∷ readers) (suc place) less = omega (arith, least-each readers place (omega (arith, less)))

  -- it is the end or one of the limits
  pub least-is : (readers : List ℕ) → (least_limit limits end readers ≡ end) ⊎ ((place : ℕ) × (place < length readers) × (least_limit limits end readers ≡ slice_index limits (slice_index readers place)))
  least-is [] = inl refl
  least-is (first ∷ readers) = by (least-is readers)
    where
      by : (least_limit limits end readers ≡ end) ⊎ ((place : ℕ) × (place < length readers) × (least_limit limits end readers ≡ slice_index limits (slice_index readers place)))
          → (least_limit limits end (first ∷ readers) ≡ end) ⊎ ((place : ℕ) × (place < length (first ∷ readers)) × (least_limit limits end (first ∷ readers) ≡ slice_index limits (slice_index (first ∷ readers) place)))
      by rest = elim (cases_lt (slice_index limits first) (least_limit limits end readers)) [
        | inl less ↦ inr (0, omega arith, omega (arith, less))
        | inr le ↦ elim rest [
          | inl is ↦ inl (omega (arith, le, is))
          | inr there ↦ inr (suc there.0, omega (arith, there.1), omega (arith, le, there.2))
        ]
      ]

  -- what is below the end and each limit is below it
  pub least-above : (step : ℕ) → step < end → (readers : List ℕ) → ((place : ℕ) → place < length readers → step < slice_index limits (slice_index readers place)) → step < least_limit limits end readers
  least-above step less [] all = less
  least-above step less (first ∷ readers) all =
      let here = all 0 (omega arith) in
      let rest = least-above step less readers (λ place lt. all (suc place) (omega (arith, lt))) in
      omega (arith, here, rest)

-- limits that are no less have a least one that is no less
pub least-rises : (before after : List ℕ) (end : ℕ) (readers : List ℕ) → ((place : ℕ) → place < length readers → slice_index before (slice_index readers place) ≤ slice_index after (slice_index readers place))
    → least_limit before end readers ≤ least_limit after end readers
least-rises before after end [] all = omega arith
least-rises before after end (first ∷ readers) all =
    let here = all 0 (omega arith) in
    let rest = least-rises before after end readers (λ place lt. all (suc place) (omega (arith, lt))) in
    omega (arith, here, rest)
