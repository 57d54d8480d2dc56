-- Steps that climb: how many are below a step, and what of them stays in order.
use Rattle.std.proofs.Common.{◌≡◌, ℕ, zero, suc, ◌+◌, ◌<◌, ◌≤◌, inl, inr, Bool, true, false, cond, nat_lt, List, [], ◌∷◌, ◌++◌, length, take, drop, min, slice_index, slice_get, None, arith, refl, sym, ap, subst, ◌∙◌}
use Rattle.std.specs.List.{filter}
use Rattle.std.proofs.lemmas.Bool.{cases_lt}
use Rattle.std.proofs.lemmas.List.Sums.{length-filter, count_by-le-length}
use Rattle.std.proofs.lemmas.Option.{none-some, slice_get-get_or}
use Rattle.output_gate.specs.Gate.{Climbs, count_below, passed_after}

-- where no item is found, the place is past the end
pub no_item_past : (items : List ℕ) (place : ℕ) → slice_get items place ≡ None → place < length items → ⊥
no_item_past items place none less = none-some (slice_index items place) (sym none ∙ slice_get-get_or items place 0 less)

-- more room on both sides
pub Climbs-wider : (steps : List ℕ) (low less high more : ℕ) → less ≤ low → high ≤ more → Climbs low steps high → Climbs less steps more
Climbs-wider [] low less high more l h climbs = omega (arith, climbs)
Climbs-wider (step ∷ steps) low less high more l h climbs = (omega (arith, climbs.0), Climbs-wider steps (step + 1) (step + 1) high more (omega arith) h climbs.1)

-- the first number is no more than the last one
pub Climbs-span : (steps : List ℕ) (low high : ℕ) → Climbs low steps high → low ≤ high
Climbs-span [] low high climbs = climbs
Climbs-span (step ∷ steps) low high climbs = omega (arith, climbs.0, Climbs-span steps (step + 1) high climbs.1)

-- each step is below the last number
pub Climbs-at : (steps : List ℕ) (low high k : ℕ) → Climbs low steps high → k < length steps → slice_index steps k < high
Climbs-at [] low high k climbs less = absurd (omega arith)
Climbs-at (step ∷ steps) low high zero climbs less = omega (arith, Climbs-span steps (step + 1) high climbs.1)
Climbs-at (step ∷ steps) low high (suc k) climbs less = Climbs-at steps (step + 1) high k climbs.1 (omega arith)

-- one step more after them
pub Climbs-push : (steps : List ℕ) (low high step more : ℕ) → Climbs low steps high → high ≤ step → step < more → Climbs low (steps ++ step ∷ []) more
Climbs-push [] low high step more climbs h m = (omega (arith, climbs), omega arith)
Climbs-push (first ∷ steps) low high step more climbs h m = (climbs.0, Climbs-push steps (first + 1) high step more climbs.1 h m)

-- the first of them
pub Climbs-take : (count : ℕ) (steps : List ℕ) (low high : ℕ) → Climbs low steps high → Climbs low (take count steps) high
Climbs-take zero steps low high climbs = Climbs-span steps low high climbs
Climbs-take (suc count) [] low high climbs = climbs
Climbs-take (suc count) (step ∷ steps) low high climbs = (climbs.0, Climbs-take count steps (step + 1) high climbs.1)

-- those after the first
pub Climbs-drop : (count : ℕ) (steps : List ℕ) (low high : ℕ) → Climbs low steps high → Climbs (passed_after low (take count steps)) (drop count steps) high
Climbs-drop zero steps low high climbs = climbs
Climbs-drop (suc count) [] low high climbs = climbs
Climbs-drop (suc count) (step ∷ steps) low high climbs = Climbs-drop count steps (step + 1) high climbs.1

-- below two numbers
pub Climbs-min : (steps : List ℕ) (low high other : ℕ) → Climbs low steps high → Climbs low steps other → Climbs low steps (min high other)
Climbs-min [] low high other first second = omega (arith, first, second)
Climbs-min (step ∷ steps) low high other first second = (first.0, Climbs-min steps (step + 1) high other first.1 second.1)

-- one more than the last of the first steps
pub passed_after-at : (steps : List ℕ) (low k : ℕ) → k < length steps → passed_after low (take (suc k) steps) ≡ slice_index steps k + 1
passed_after-at [] low k less = absurd (omega arith)
passed_after-at (step ∷ steps) low zero less = refl
passed_after-at (step ∷ steps) low (suc k) less = passed_after-at steps (step + 1) k (omega arith)

-- what climbs from a step on has none below it
pub count_below-none : (steps : List ℕ) (low high below : ℕ) → below ≤ low → Climbs low steps high → count_below below steps ≡ 0
count_below-none [] low high below far climbs = refl
count_below-none (step ∷ steps) low high below far climbs =
    let rest : count_below below steps ≡ 0 = count_below-none steps (step + 1) high below (omega (arith, climbs.0)) climbs.1 in
    let off : nat_lt step below ≡ false = grind (arith, climbs.0) in
    rw off rest

-- the place of the first step that is not below is how many are below
pub count_below-at : (steps : List ℕ) (low high below place : ℕ) → Climbs low steps high → place ≤ length steps → ((k : ℕ) → k < place → slice_index steps k < below) → (place < length steps → below ≤ slice_index steps place) → count_below below steps ≡ place
count_below-at [] low high below place climbs within before at = omega (arith, within)
count_below-at (step ∷ steps) low high below zero climbs within before at =
    count_below-none (step ∷ steps) step high below (at (omega arith)) (omega arith, climbs.1)
count_below-at (step ∷ steps) low high below (suc place) climbs within before at =
    let rest : count_below below steps ≡ place = count_below-at steps (step + 1) high below place climbs.1 (omega arith) (λ k less. before (suc k) (omega arith)) (λ less. at (omega arith)) in
    let on : nat_lt step below ≡ true = grind (arith, before 0 (omega arith)) in
    rw on (omega (arith, rest))

-- one step more is at most one more that is below
count_below-more : (below step : ℕ) (steps : List ℕ) → count_below below (step ∷ steps) ≤ count_below below steps + 1
count_below-more below step steps =
    let kept : List ℕ = filter (λ s. nat_lt s below) steps in
    elim (nat_lt step below) as (λ b. length (cond b (step ∷ kept) kept) ≤ length kept + 1) [ true ↦ omega arith | false ↦ omega arith ]

-- no more steps are below than there are
pub count_below-within : (below : ℕ) (steps : List ℕ) → count_below below steps ≤ length steps
count_below-within below steps = omega (arith, length-filter (λ step. nat_lt step below) steps, count_by-le-length (λ step. nat_lt step below) steps)

-- the steps that are below are the first ones
pub filter-climbs : (steps : List ℕ) (low high below : ℕ) → Climbs low steps high → filter (λ step. nat_lt step below) steps ≡ take (count_below below steps) steps
filter-climbs [] low high below climbs = refl
filter-climbs (step ∷ steps) low high below climbs =
    let kept : List ℕ = filter (λ s. nat_lt s below) steps in
    let rest : kept ≡ take (length kept) steps = filter-climbs steps (step + 1) high below climbs.1 in
    let by_test : (b : Bool) → nat_lt step below ≡ b → cond b (step ∷ kept) kept ≡ take (length (cond b (step ∷ kept) kept)) (step ∷ steps) =
    λ b. elim b as (λ b. nat_lt step below ≡ b → cond b (step ∷ kept) kept ≡ take (length (cond b (step ∷ kept) kept)) (step ∷ steps)) [
      | true ↦ λ test. ap (λ l. step ∷ l) rest
      | false ↦ λ test.
          let none : length kept ≡ 0 = count_below-none steps (step + 1) high below (grind arith) climbs.1 in
          rest ∙ ap (λ n. take n steps) none ∙ sym (ap (λ n. take n (step ∷ steps)) none)
    ] in
    by_test (nat_lt step below) refl

-- each of the first steps, as many as are below, is below
pub count_below-before : (steps : List ℕ) (low high below k : ℕ) → Climbs low steps high → k < count_below below steps → slice_index steps k < below
count_below-before [] low high below k climbs less = absurd (omega arith)
count_below-before (step ∷ steps) low high below zero climbs less =
    elim (cases_lt step below) as (λ _. step < below) [
      | inl near ↦ near
      | inr far ↦ let none : count_below below (step ∷ steps) ≡ 0 = count_below-none (step ∷ steps) step high below far (omega arith, climbs.1) in absurd (omega (arith, none, less))
    ]
count_below-before (step ∷ steps) low high below (suc k) climbs less =
    count_below-before steps (step + 1) high below k climbs.1 (omega (arith, less, count_below-more below step steps))

-- the steps below a number, of those that climb, climb up to it
pub filter-Climbs : (steps : List ℕ) (low high below : ℕ) → Climbs low steps high → low ≤ below → Climbs low (filter (λ step. nat_lt step below) steps) below
filter-Climbs [] low high below climbs l = l
filter-Climbs (step ∷ steps) low high below climbs l =
    let kept : List ℕ = filter (λ s. nat_lt s below) steps in
    let by_test : (b : Bool) → nat_lt step below ≡ b → Climbs low (cond b (step ∷ kept) kept) below =
    λ b. elim b as (λ b. nat_lt step below ≡ b → Climbs low (cond b (step ∷ kept) kept) below) [
      | true ↦ λ test. (climbs.0, filter-Climbs steps (step + 1) high below climbs.1 (grind arith))
      | false ↦ λ test. filter-Climbs steps low high below (Climbs-wider steps (step + 1) low high high (omega (arith, climbs.0)) (omega arith) climbs.1) l
    ] in
    by_test (nat_lt step below) refl

-- the first steps, as many as are below a number, climb up to it
pub Climbs-below : (steps : List ℕ) (low high below : ℕ) → Climbs low steps high → low ≤ below → Climbs low (take (count_below below steps) steps) below
Climbs-below steps low high below climbs l =
    let P : List ℕ → Type 0 = λ s. Climbs low s below in subst P (filter-climbs steps low high below climbs) (filter-Climbs steps low high below climbs l)
