-- Two lists whose elements agree, place by place.
use Rattle.std.proofs.Common.{◌≡◌, ℕ, zero, suc, ◌+◌, List, [], ◌∷◌, ◌++◌, length, map, take, Some, refl, sym, ap, ◌∙◌, subst}
use Rattle.std.specs.Prelude.{slice_get}
use Rattle.std.specs.List.{AllZip}
use Rattle.list_laws.proofs.PrefixLaws.{take-next}

pub zip_push : {A B : Type 0} (R : A → B → Type 0) (xs : List A) (ys : List B) (x : A) (y : B) → AllZip R xs ys → R x y → AllZip R (xs ++ x ∷ []) (ys ++ y ∷ [])
zip_push R [] [] x y all is = (is, tt)
zip_push R [] (y' ∷ ys) x y all is = absurd all
zip_push R (x' ∷ xs) [] x y all is = absurd all
zip_push R (x' ∷ xs) (y' ∷ ys) x y all is = (all.0, zip_push R xs ys x y all.1 is)

-- one more of the first list, and what stands beside it
pub zip_more : {A B : Type 0} (R : A → B → Type 0) (xs : List A) (ys ys' : List B) (k : ℕ) (x : A) (y : B) → AllZip R (take k xs) ys → slice_get xs k ≡ Some x → R x y → ys' ≡ ys ++ y ∷ [] → AllZip R (take (k + 1) xs) ys'
zip_more R xs ys ys' k x y all there is longer =
    subst (λ l. AllZip R l ys') (sym (take-next k xs x there)) (subst (AllZip R (take k xs ++ x ∷ [])) (sym longer) (zip_push R (take k xs) ys x y all is))

pub zip_length : {A B : Type 0} (R : A → B → Type 0) (xs : List A) (ys : List B) → AllZip R xs ys → length ys ≡ length xs
zip_length R [] [] all = refl
zip_length R [] (y ∷ ys) all = absurd all
zip_length R (x ∷ xs) [] all = absurd all
zip_length R (x ∷ xs) (y ∷ ys) all = ap suc (zip_length R xs ys all.1)

-- what stands at a place of the second list, and beside it
pub record IsBeside {A B : Type 0} (R : A → B → Type 0) (xs : List A) (place : ℕ) (y : B) : Type 0 where
  pub x : A
  pub there : slice_get xs place ≡ Some x
  pub is : R x y

pub zip_at : {A B : Type 0} (R : A → B → Type 0) (xs : List A) (ys : List B) (place : ℕ) (y : B) → AllZip R xs ys → slice_get ys place ≡ Some y → IsBeside R xs place y
zip_at R [] [] place y all there = absurd (cc)
zip_at R [] (y' ∷ ys) place y all there = absurd all
zip_at R (x ∷ xs) [] place y all there = absurd all
zip_at R (x ∷ xs) (y' ∷ ys) zero y all there = record { x = x; there = refl; is = subst (R x) (cc) all.0 }
zip_at R (x ∷ xs) (y' ∷ ys) (suc place) y all there =
    let rest = zip_at R xs ys place y all.1 there in
    record { x = rest.x; there = rest.there; is = rest.is }

pub zip_map : {A B K : Type 0} (R : A → B → Type 0) (f : A → K) (g : B → K) → ((x : A) (y : B) → R x y → g y ≡ f x) → (xs : List A) (ys : List B) → AllZip R xs ys → map g ys ≡ map f xs
zip_map R f g same [] [] all = refl
zip_map R f g same [] (y ∷ ys) all = absurd all
zip_map R f g same (x ∷ xs) [] all = absurd all
zip_map R f g same (x ∷ xs) (y ∷ ys) all = ap (λ k. k ∷ map g ys) (same x y all.0) ∙ ap (λ l. f x ∷ l) (zip_map R f g same xs ys all.1)
