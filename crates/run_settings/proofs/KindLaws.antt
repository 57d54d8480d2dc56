-- Kinds, each once: there are at most five.
use Rattle.std.proofs.Common.{◌≡◌, ◌↔◌, ℕ, zero, suc, ◌+◌, ◌-◌, ◌≤◌, ◌<◌, ◌==◌, IsTrue, true, false, not, eqb, List, [], ◌∷◌, ◌++◌, length, take, set, replicate, map, inl, inr, refl, arith, sym, ◌∙◌, ap, subst, append_assoc, length-append, length-set}
use Rattle.std.specs.List.{Contains, IsDistinct, AllByRecursion, list_any}
use Rattle.std.proofs.lemmas.Bool.{eq-eqb, or_cases, or_left, or_right, and_parts, and_from, not_from_false, false_from_ne_true, ne_eqb, eqb-true}
use Rattle.std.proofs.lemmas.List.{length-take, length-map, take_more_set}
use Rattle.std.proofs.lemmas.List.Elements.{Contains-append_left, Contains-append_right, Contains-append_cases, Contains-push, Contains-push_cases}
use Rattle.std.proofs.lemmas.Map.Steps.{length-le_from_distinct_below}
use Rattle.std.proofs.Math.Seq.{set-append_seam}
use Rattle.run_events.specs.declared.finding.Kind.{Kind}
use Rattle.run_events.specs.declared.finding.Kind.TheVariants.{Heap, Taint, Calls, Cover, Locks}
use Rattle.run_settings.specs.Kinds.{EachOnce, kind_number, has_kind, are_once}
use Rattle.run_settings.specs.KindPlaces.{IsKept}

kind_of : ℕ → Kind
kind_of zero = Heap
kind_of (suc zero) = Taint
kind_of (suc (suc zero)) = Calls
kind_of (suc (suc (suc zero))) = Cover
kind_of (suc (suc (suc (suc n)))) = Locks

again : (kind : Kind) → kind_of (kind_number kind) ≡ kind
unfolding kind_of
again Heap = refl
again Taint = refl
again Calls = refl
again Cover = refl
again Locks = refl

below_five : (kind : Kind) → kind_number kind < 5
below_five Heap = omega arith
below_five Taint = omega arith
below_five Calls = omega arith
below_five Cover = omega arith
below_five Locks = omega arith

pub same_number : (a b : Kind) → kind_number a ≡ kind_number b → a ≡ b
same_number a b e = sym (again a) ∙ ap kind_of e ∙ again b

first_there : (kind : Kind) (kinds : List Kind) → Contains (kind ∷ kinds) kind
first_there kind kinds = (0, omega arith, refl)

absent_later : (kind first : Kind) (kinds : List Kind) → (¬ Contains (first ∷ kinds) kind) → ¬ Contains kinds kind
absent_later kind first kinds absent there = absent (Contains-append_right (first ∷ []) kinds kind there)

other_first : (kind first : Kind) (kinds : List Kind) → (¬ Contains (first ∷ kinds) kind) → ¬ (kind_number kind ≡ kind_number first)
other_first kind first kinds absent e = absent (subst (λ (k : Kind). Contains (k ∷ kinds) kind) (same_number kind first e) (first_there kind kinds))

-- a kind that is not there has a number that is not there
apart : (kind : Kind) (kinds : List Kind) → (¬ Contains kinds kind) → AllByRecursion (λ n. eqb (kind_number kind) n ≡ false) (map kind_number kinds)
apart kind [] absent = tt
apart kind (first ∷ kinds) absent = (ne_eqb _ _ (other_first kind first kinds absent), apart kind kinds (absent_later kind first kinds absent))

distinct : (kinds : List Kind) → EachOnce kinds → IsDistinct eqb (map kind_number kinds)
unfolding IsDistinct
distinct [] once = tt
distinct (kind ∷ kinds) once = (apart kind kinds once.0, distinct kinds once.1)

all_below : (kinds : List Kind) (n : ℕ) → list_any (eqb n) (map kind_number kinds) ≡ true → n < 5
all_below [] n found = cc
all_below (kind ∷ kinds) n found = grind (arith, eqb-true, below_five kind, all_below kinds n)

-- there are at most five
pub most_kinds : (kinds : List Kind) → EachOnce kinds → length kinds ≤ 5
most_kinds kinds once =
    let few = length-le_from_distinct_below (map kind_number kinds) 5 (distinct kinds once) (all_below kinds) in
    rw length-map at few

-- a kind that is not there can be put after the others
pub once_more : (kinds : List Kind) (kind : Kind) → EachOnce kinds → (¬ Contains kinds kind) → EachOnce (kinds ++ kind ∷ [])
once_more [] kind once absent = (absent, tt)
once_more (first ∷ kinds) kind once absent =
    let apart_from_it : ¬ (kind ≡ first) = λ e. absent (subst (λ (k : Kind). Contains (k ∷ kinds) kind) e (first_there kind kinds)) in (
      λ there. elim (Contains-push_cases kinds kind first there) [ inl before ↦ once.0 before | inr e ↦ apart_from_it e ],
      once_more kinds kind once.1 (absent_later kind first kinds absent),
    )

-- the test that a kind is there is the definition
kind_found : (kinds : List Kind) (kind : Kind) → has_kind kinds kind ≡ true → Contains kinds kind
kind_found [] kind h = absurd (let e : false ≡ true = h in cc)
kind_found (first ∷ kinds) kind h =
    elim (or_cases (kind_number first == kind_number kind) (has_kind kinds kind) h) [
      | inl e ↦ subst (λ (k : Kind). Contains (first ∷ kinds) k) (same_number first kind (eqb-true (kind_number first) (kind_number kind) e)) (first_there first kinds)
      | inr later ↦ Contains-append_right (first ∷ []) kinds kind (kind_found kinds kind later)
    ]

kind_told : (kinds : List Kind) (kind : Kind) → Contains kinds kind → has_kind kinds kind ≡ true
kind_told [] kind there = absurd (let h : there.0 < 0 = there.1 in omega arith)
kind_told (first ∷ kinds) kind there =
    elim (Contains-append_cases (first ∷ []) kinds kind there) [
      | inl here ↦ elim (Contains-push_cases [] first kind here) [
        | inl none ↦ absurd (let h : none.0 < 0 = none.1 in omega arith)
        | inr e ↦ or_left (kind_number first == kind_number kind) (has_kind kinds kind) (eq-eqb (kind_number first) (kind_number kind) (ap kind_number e))
      ]
      | inr later ↦ or_right (kind_number first == kind_number kind) (has_kind kinds kind) (kind_told kinds kind later)
    ]

pub tells_kind : (kinds : List Kind) (kind : Kind) → IsTrue (has_kind kinds kind) ↔ Contains kinds kind
tells_kind kinds kind = (kind_found kinds kind, kind_told kinds kind)

-- the test that each stands at most once is the definition
once_found : (kinds : List Kind) → are_once kinds ≡ true → EachOnce kinds
unfolding are_once
once_found [] h = tt
once_found (kind ∷ kinds) h =
    let parts = and_parts (not (has_kind kinds kind)) (are_once kinds) h in
    ((λ there. let e : not true ≡ true = rw (kind_told kinds kind there) at parts.0 in let f : false ≡ true = e in cc), once_found kinds parts.1)

once_told : (kinds : List Kind) → EachOnce kinds → are_once kinds ≡ true
unfolding are_once
once_told [] once = refl
once_told (kind ∷ kinds) once = and_from (not (has_kind kinds kind)) (are_once kinds) (not_from_false (has_kind kinds kind) (false_from_ne_true (has_kind kinds kind) (λ h. once.0 (kind_found kinds kind h)))) (once_told kinds once.1)

pub tells_once : (kinds : List Kind) → IsTrue (are_once kinds) ↔ EachOnce kinds
tells_once kinds = (once_found kinds, once_told kinds)

-- a kind that is there before it is there twice
pub twice : (kinds : List Kind) (kind : Kind) (others : List Kind) → Contains kinds kind → ¬ EachOnce ((kinds ++ kind ∷ []) ++ others)
twice [] kind others there once = let h : there.0 < 0 = there.1 in omega arith
twice (first ∷ kinds) kind others there once =
    elim (Contains-append_cases (first ∷ []) kinds kind there) [
      | inl here ↦ elim (Contains-push_cases [] first kind here) [
        | inl none ↦ absurd (let h : none.0 < 0 = none.1 in omega arith)
        | inr e ↦ once.0 (Contains-append_left (kinds ++ kind ∷ []) others first (subst (λ (k : Kind). Contains (kinds ++ kind ∷ []) k) (sym e) (Contains-push kinds kind)))
      ]
      | inr later ↦ twice kinds kind others later once.1
    ]

-- and so there is room for it
pub room : (used : ℕ) (places : List Kind) (kind : Kind) → IsKept used places → (¬ Contains (take used places) kind) → used < 5
room used places kind kept absent =
    let five = kept.five in
    let within = kept.within in
    omega (arith, most_kinds _ (once_more (take used places) kind kept.once absent), length-append (take used places) (kind ∷ []), length-take used places)

-- the places after the used ones, with the first of them taken
rest_more : (front : List Kind) (used : ℕ) (kind : Kind) → length front ≡ used → used < 5 → set (front ++ replicate (5 - used) Heap) used kind ≡ (front ++ kind ∷ []) ++ replicate (5 - (used + 1)) Heap
rest_more front used kind long below =
    let later = replicate (5 - (used + 1)) Heap in
    let one : 5 - used ≡ suc (5 - (used + 1)) = omega arith in
    let put : set (front ++ Heap ∷ later) used kind ≡ front ++ kind ∷ later = rw long at (set-append_seam front Heap later kind) in
    ap (λ n. set (front ++ replicate n Heap) used kind) one ∙ put ∙ sym (append_assoc front (kind ∷ []) later)

pub kept_more : (used : ℕ) (places : List Kind) (kind : Kind) → IsKept used places → (¬ Contains (take used places) kind) → IsKept (used + 1) (set places used kind)
kept_more used places kind kept absent =
    let below = room used places kind kept absent in
    let five = kept.five in
    let front : take (used + 1) (set places used kind) ≡ take used places ++ kind ∷ [] = take_more_set places used kind (omega arith) in
    let long : length (take used places) ≡ used = omega (arith, length-take used places) in
    record {
      five = omega (arith, length-set {A = Kind});
      within = omega arith;
      once = rw front (once_more (take used places) kind kept.once absent);
      rest = rw front (ap (λ (p : List Kind). set p used kind) kept.rest ∙ rest_more (take used places) used kind long below);
    }
