-- What holds of all items of a list, item by item; and what a test keeps of a list of which it says the same everywhere.
use Rattle.std.proofs.Common.{◌≡◌, Bool, true, false, cond, List, [], ◌∷◌, ◌++◌, refl, sym, ap, subst, ◌∙◌}
use Rattle.std.specs.List.{filter, AllByRecursion}

pub all_append : {X : Type 0} (P : X → Type 0) (xs ys : List X) → AllByRecursion P xs → AllByRecursion P ys → AllByRecursion P (xs ++ ys)
all_append P [] ys here there = there
all_append P (x ∷ xs) ys here there = (here.0, all_append P xs ys here.1 there)

-- each item that has the one has the other
pub all_through : {X : Type 0} {P Q : X → Type 0} → ((x : X) → P x → Q x) → (xs : List X) → AllByRecursion P xs → AllByRecursion Q xs
all_through each [] all = tt
all_through each (x ∷ xs) all = (each x all.0, all_through each xs all.1)

-- an item in the middle
pub all-middle : {X : Type 0} (P : X → Type 0) (xs : List X) (y : X) (zs whole : List X) → AllByRecursion P whole → xs ++ y ∷ zs ≡ whole → P y
all-middle P [] y zs whole all is = (subst (AllByRecursion P) (sym is) all).0
all-middle P (x ∷ xs) y zs whole all is = all-middle P xs y zs (xs ++ y ∷ zs) (subst (AllByRecursion P) (sym is) all).1 refl

module _ {X : Type 0} (test : X → Bool) where
  pub filter-kept : (xs : List X) → AllByRecursion (λ x. test x ≡ true) xs → filter test xs ≡ xs
  filter-kept [] all = refl
  filter-kept (x ∷ xs) all = ap (λ b. cond b (x ∷ filter test xs) (filter test xs)) all.0 ∙ ap (λ l. x ∷ l) (filter-kept xs all.1)

  pub filter-dropped : (xs : List X) → AllByRecursion (λ x. test x ≡ false) xs → filter test xs ≡ []
  filter-dropped [] all = refl
  filter-dropped (x ∷ xs) all = ap (λ b. cond b (x ∷ filter test xs) (filter test xs)) all.0 ∙ filter-dropped xs all.1
