-- What stands at a place of a list.
use Rattle.std.proofs.Common.{◌≡◌, ℕ, zero, suc, ◌<◌, List, [], ◌∷◌, length, drop, Some, slice_get, refl, ap, subst, arith, All}
use Rattle.std.proofs.lemmas.Option.{get_or_from_slice_get, slice_get_within}

-- the first of what is left from a place on stands there
pub dropped-at : {X : Type 0} (k : ℕ) (xs : List X) (x : X) (rest : List X) → drop k xs ≡ x ∷ rest → slice_get xs k ≡ Some x
dropped-at zero xs x rest is = ap (λ l. slice_get l 0) is
dropped-at (suc k) [] x rest is = cc
dropped-at (suc k) (y ∷ xs) x rest is = dropped-at k xs x rest is

-- and the rest of it is left after the next place
pub dropped-next : {X : Type 0} (k : ℕ) (xs : List X) (x : X) (rest : List X) → drop k xs ≡ x ∷ rest → drop (suc k) xs ≡ rest
dropped-next zero xs x rest is = ap (drop 1) is
dropped-next (suc k) [] x rest is = cc
dropped-next (suc k) (y ∷ xs) x rest is = dropped-next k xs x rest is

-- something stands at each place within the list
pub there_within : {X : Type 0} (xs : List X) (k : ℕ) → k < length xs → (x : X) × (slice_get xs k ≡ Some x)
there_within [] k lt = absurd (omega (arith, lt))
there_within (x ∷ xs) zero lt = (x, refl)
there_within (x ∷ xs) (suc k) lt = there_within xs k (omega (arith, lt))

-- what holds of all holds of what stands at a place
pub all-at : {X : Type 0} (P : X → Type 0) (k : ℕ) (xs : List X) (x : X) → All P xs → slice_get xs k ≡ Some x → P x
all-at P k xs x all is = subst P (get_or_from_slice_get xs k x x is) (all k x (slice_get_within xs k x is))
