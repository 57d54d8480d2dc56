-- The least number of a range that has a property, found step by step.
use Rattle.std.proofs.Common.{◌≡◌, ◌⊎◌, ℕ, zero, suc, ◌+◌, ◌<◌, ◌≤◌, Bool, true, false, cond, None, Some, refl, sym, ap, ◌∙◌, arith}
use Rattle.std.specs.Option.{option_map}
use Rattle.std.proofs.lemmas.Bool.Decides.{nat_tests}
use Rattle.list_laws.specs.Least.{is_between, least_from}

-- this holds of each of so many numbers from one on
abbrev pub EachFrom : (ℕ → Type 0) → ℕ → ℕ → Type 0
EachFrom P from count = (n : ℕ) → from ≤ n → n < from + count → P n

-- the numbers after the first
EachFrom-rest : (P : ℕ → Type 0) (from count : ℕ) → EachFrom P from (suc count) → EachFrom P (from + 1) count
EachFrom-rest P from count all n low high = all n (omega arith) (omega arith)

EachFrom-first : (P : ℕ → Type 0) (from count : ℕ) → EachFrom P from (suc count) → P from
EachFrom-first P from count all = all from (omega arith) (omega arith)

-- the same least one, where two properties agree
pub least_same : (p q : ℕ → Bool) (from count : ℕ) → EachFrom (λ n. p n ≡ q n) from count → least_from p from count ≡ least_from q from count
unfolding least_from
least_same p q from zero all = refl
least_same p q from (suc count) all =
    ap (λ b. cond b (Some from) (least_from p (from + 1) count)) (EachFrom-first (λ n. p n ≡ q n) from count all)
    ∙ ap (λ o. cond (q from) (Some from) o) (least_same p q (from + 1) count (EachFrom-rest (λ n. p n ≡ q n) from count all))

-- none, where none has the property
pub least_none : (p : ℕ → Bool) (from count : ℕ) → EachFrom (λ n. p n ≡ false) from count → least_from p from count ≡ None
unfolding least_from
least_none p from zero all = refl
least_none p from (suc count) all =
    rw (EachFrom-first (λ n. p n ≡ false) from count all) (least_none p (from + 1) count (EachFrom-rest (λ n. p n ≡ false) from count all))

-- a number that has it, while none before it has
pub least_found : (p : ℕ → Bool) (from count before n : ℕ) → n ≡ from + before → before < count → p n ≡ true → EachFrom (λ k. p k ≡ false) from before → least_from p from count ≡ Some n
unfolding least_from
least_found p from zero before n at less holds none = absurd (omega arith)
least_found p from (suc count) zero n at less holds none =
    let here : n ≡ from = omega arith in
    let first : p from ≡ true = ap p (sym here) ∙ holds in
    rw first (ap Some (sym here))
least_found p from (suc count) (suc before) n at less holds none =
    rw (EachFrom-first (λ k. p k ≡ false) from before none)
    (least_found p (from + 1) count before n (omega arith) (omega arith) holds (EachFrom-rest (λ k. p k ≡ false) from before none))

-- what is made of the least one, where properties agree, and what is made of those that have it
pub least_made : {A : Type 0} (f g : ℕ → A) (p q : ℕ → Bool) (from count : ℕ) → EachFrom (λ n. p n ≡ q n) from count → EachFrom (λ n. f n ≡ g n) from count
    → option_map f (least_from p from count) ≡ option_map g (least_from q from count)
unfolding least_from
least_made f g p q from zero same made = refl
least_made f g p q from (suc count) same made =
    ap (λ b. option_map f (cond b (Some from) (least_from p (from + 1) count))) (EachFrom-first (λ n. p n ≡ q n) from count same)
    ∙ by_case (q from) (least_made f g p q (from + 1) count (EachFrom-rest (λ n. p n ≡ q n) from count same) (EachFrom-rest (λ n. f n ≡ g n) from count made))
  where
    by_case : (b : Bool) → option_map f (least_from p (from + 1) count) ≡ option_map g (least_from q (from + 1) count)
        → option_map f (cond b (Some from) (least_from p (from + 1) count)) ≡ option_map g (cond b (Some from) (least_from q (from + 1) count))
    by_case true rest = ap Some (EachFrom-first (λ n. f n ≡ g n) from count made)
    by_case false rest = rest

-- the range has exactly the numbers from its start on that are below its end
pub is_between-yes : (from to n : ℕ) → from ≤ n → n < to → is_between from to n ≡ true
is_between-yes from to n low high = grind (arith, nat_tests)

pub is_between-no : (from to n : ℕ) → (n < from) ⊎ (to ≤ n) → is_between from to n ≡ false
is_between-no from to n apart = grind (arith, nat_tests)
