-- Sets as ascending lists, with one member more.
use Rattle.std.proofs.Common.{◌≡◌, ℕ, ◌<◌, List, [], ◌∷◌, ◌++◌, refl, ap, ◌∙◌, arith}
use Rattle.std.proofs.lemmas.Bool.Decides.{nat_tests}
use Rattle.analysis_model.specs.Ascending.{with_member, ascending}

pub with_member-same : (new x : ℕ) (xs : List ℕ) → new ≡ x → with_member new (x ∷ xs) ≡ x ∷ xs
with_member-same new x xs e = grind (arith, nat_tests)

pub with_member-before : (new x : ℕ) (xs : List ℕ) → new < x → with_member new (x ∷ xs) ≡ new ∷ x ∷ xs
with_member-before new x xs h = grind (arith, nat_tests)

pub with_member-behind : (new x : ℕ) (xs : List ℕ) → x < new → with_member new (x ∷ xs) ≡ x ∷ with_member new xs
with_member-behind new x xs h = grind (arith, nat_tests)

-- two members come in either order
pub with_member-swap : (a b : ℕ) (xs : List ℕ) → with_member a (with_member b xs) ≡ with_member b (with_member a xs)
with_member-swap a b [] = grind (arith, nat_tests)
with_member-swap a b (x ∷ xs) = let rest = with_member-swap a b xs in grind (arith, nat_tests, rest)

-- the last of a list's elements is one member more
pub ascending-last : (xs : List ℕ) (y : ℕ) → ascending (xs ++ y ∷ []) ≡ with_member y (ascending xs)
ascending-last [] y = refl
ascending-last (x ∷ xs) y = ap (with_member x) (ascending-last xs y) ∙ with_member-swap x y (ascending xs)
