-- The locks that count, with one event more.
use Rattle.std.proofs.Common.{◌≡◌, ℕ, ◌<◌, ◌≤◌, ◌==◌, nat_lt, Bool, true, false, not, ◌||◌, cond, List, [], ◌∷◌, ◌++◌, length, reverse, take, filter, Option, None, Some, refl, ap, ◌∙◌, arith, inl, inr, append-nil, length-append, length-take}
use Rattle.std.specs.List.{filter_map, cons_option}
use Rattle.std.proofs.lemmas.Bool.{cases_lt, cases_eq}
use Rattle.std.proofs.lemmas.Bool.Decides.{nat_tests}
use Rattle.std.proofs.lemmas.List.{reverse-append, take_all, take-append-le, length-map, map-append}
use Rattle.std.proofs.lemmas.List.Elements.{filter_map-append, filter-append}
use Rattle.run_events.specs.declared.event.Event.{Event}
use Rattle.analysis_model.specs.Locks.{named, firsts, counted, has_lock, locks_kept}
use Rattle.lock_rules.specs.declared.lock.Lock.{Lock}
use Rattle.lock_rules.specs.Entries.{numbers}
use Rattle.lock_rules.specs.State.{known_with}

-- the first of a list with one element more: the same, or one more where there is room
pub take-more : {A : Type 0} (bound : ℕ) (xs : List A) (x : A) → take bound (xs ++ x ∷ []) ≡ cond (nat_lt (length (take bound xs)) bound) (take bound xs ++ x ∷ []) (take bound xs)
take-more bound xs x =
    elim (cases_lt (length xs) bound) [
      | inl room ↦
          let all : take bound xs ≡ xs = take_all bound xs (omega arith) in
          let test : nat_lt (length xs) bound ≡ true = grind (arith, nat_tests) in
          let more : take bound (xs ++ x ∷ []) ≡ xs ++ x ∷ [] = take_all bound (xs ++ x ∷ []) (omega (arith, length-append xs (x ∷ []))) in
          rw (all, test) more
      | inr full ↦
          let test : nat_lt (length (take bound xs)) bound ≡ false = let long : bound ≤ length (take bound xs) = omega (arith, length-take bound xs) in grind (arith, nat_tests, long) in
          rw test (take-append-le bound xs (x ∷ []) full)
    ]

-- the numbers that count, with one name more
abbrev pub counted_with : ℕ → List ℕ → Option ℕ → List ℕ
counted_with bound known None = known
counted_with bound known (Some lock) = cond (has_lock known lock) known (cond (nat_lt (length known) bound) (known ++ lock ∷ []) known)

-- another number is still there
has_lock-filter : (xs : List ℕ) (x y : ℕ) → (y == x) ≡ false → has_lock (filter (λ z. not (z == x)) xs) y ≡ has_lock xs y
has_lock-filter [] x y e = refl
has_lock-filter (z ∷ xs) x y e =
    let rest = has_lock-filter xs x y e in
    elim (cases_eq z x) [
      | inl same ↦
          let gone : (z == x) ≡ true = grind (arith, nat_tests) in
          let other : (z == y) ≡ false = grind (arith, nat_tests) in
          rw (gone, other) rest
      | inr apart ↦
          let stays : (z == x) ≡ false = grind (arith, nat_tests) in
          rw stays (ap (λ b. (z == y) || b) rest)
    ]

firsts-last : (xs : List ℕ) (y : ℕ) → firsts (xs ++ y ∷ []) ≡ cond (has_lock (firsts xs) y) (firsts xs) (firsts xs ++ y ∷ [])
firsts-last [] y = refl
firsts-last (x ∷ xs) y = ap (λ l. x ∷ filter (λ z. not (z == x)) l) (firsts-last xs y) ∙ by_case (has_lock (firsts xs) y) refl
  where
    named_before : (b : Bool) → x ≡ y → x ∷ filter (λ z. not (z == x)) (cond b (firsts xs) (firsts xs ++ y ∷ [])) ≡ cond ((x == y) || has_lock (filter (λ z. not (z == x)) (firsts xs)) y) (x ∷ filter (λ z. not (z == x)) (firsts xs)) (x ∷ filter (λ z. not (z == x)) (firsts xs) ++ y ∷ [])
    named_before true same = let first : (x == y) ≡ true = grind (arith, nat_tests) in rw first refl
    named_before false same =
        let first : (x == y) ≡ true = grind (arith, nat_tests) in
        let back : (y == x) ≡ true = grind (arith, nat_tests) in
        rw (first, filter-append (λ z. not (z == x)) (firsts xs) (y ∷ []), back) (ap (λ l. x ∷ l) (append-nil (filter (λ z. not (z == x)) (firsts xs))))

    new_name : (b : Bool) → (y == x) ≡ false → x ∷ filter (λ z. not (z == x)) (cond b (firsts xs) (firsts xs ++ y ∷ [])) ≡ cond b (x ∷ filter (λ z. not (z == x)) (firsts xs)) (x ∷ filter (λ z. not (z == x)) (firsts xs) ++ y ∷ [])
    new_name true back = refl
    new_name false back = rw (filter-append (λ z. not (z == x)) (firsts xs) (y ∷ []), back) refl

    by_case : (b : Bool) → has_lock (firsts xs) y ≡ b → x ∷ filter (λ z. not (z == x)) (cond b (firsts xs) (firsts xs ++ y ∷ [])) ≡ cond ((x == y) || has_lock (filter (λ z. not (z == x)) (firsts xs)) y) (x ∷ filter (λ z. not (z == x)) (firsts xs)) (x ∷ filter (λ z. not (z == x)) (firsts xs) ++ y ∷ [])
    by_case b has =
        elim (cases_eq x y) [
          | inl same ↦ named_before b same
          | inr apart ↦
              let first : (x == y) ≡ false = grind (arith, nat_tests) in
              let back : (y == x) ≡ false = grind (arith, nat_tests) in
              rw (first, has_lock-filter (firsts xs) x y back, has) (new_name b back)
        ]

take-firsts : (bound : ℕ) (xs : List ℕ) (y : ℕ) → take bound (firsts (xs ++ y ∷ [])) ≡ counted_with bound (take bound (firsts xs)) (Some y)
take-firsts bound xs y =
    let all = firsts xs in
    ap (take bound) (firsts-last xs y) ∙ (elim (cases_lt (length all) bound) [
      | inl room ↦
          let whole : take bound all ≡ all = take_all bound all (omega arith) in
          rw whole (by_room (has_lock all y) room)
      | inr full ↦
          let test : nat_lt (length (take bound all)) bound ≡ false = let long : bound ≤ length (take bound all) = omega (arith, length-take bound all) in grind (arith, nat_tests, long) in
          rw test (by_full (has_lock all y) (has_lock (take bound all) y) full)
    ])
  where
    by_room : (b : Bool) → length (firsts xs) < bound → take bound (cond b (firsts xs) (firsts xs ++ y ∷ [])) ≡ cond b (firsts xs) (cond (nat_lt (length (firsts xs)) bound) (firsts xs ++ y ∷ []) (firsts xs))
    by_room true room = take_all bound (firsts xs) (omega arith)
    by_room false room =
        let test : nat_lt (length (firsts xs)) bound ≡ true = grind (arith, nat_tests) in
        rw test (take_all bound (firsts xs ++ y ∷ []) (omega (arith, length-append (firsts xs) (y ∷ []))))

    by_full : (b c : Bool) → bound ≤ length (firsts xs) → take bound (cond b (firsts xs) (firsts xs ++ y ∷ [])) ≡ cond c (take bound (firsts xs)) (take bound (firsts xs))
    by_full true true full = refl
    by_full true false full = refl
    by_full false true full = take-append-le bound (firsts xs) (y ∷ []) full
    by_full false false full = take-append-le bound (firsts xs) (y ∷ []) full

-- one event more
pub counted-more : (bound : ℕ) (event : Event) (before : List Event) → counted bound (event ∷ before) ≡ counted_with bound (counted bound before) (named event)
counted-more bound event before =
    ap (λ l. take bound (firsts (filter_map named l))) (reverse-append (event ∷ []) before)
    ∙ ap (λ l. take bound (firsts l)) (filter_map-append named (reverse before) (event ∷ []))
    ∙ by_name (named event)
  where
    by_name : (o : Option ℕ) → take bound (firsts (filter_map named (reverse before) ++ cons_option o [])) ≡ counted_with bound (counted bound before) o
    by_name None = ap (λ l. take bound (firsts l)) (append-nil (filter_map named (reverse before)))
    by_name (Some lock) = take-firsts bound (filter_map named (reverse before)) lock

-- the same of the entries
pub numbers-known : (entries : List Lock) (name : Option ℕ) → numbers (known_with entries name) ≡ counted_with locks_kept (numbers entries) name
numbers-known entries None = refl
numbers-known entries (Some number) =
    rw (length-map entries (λ lock. lock.number)) (by_case (has_lock (numbers entries) number) (nat_lt (length entries) locks_kept))
  where
    entry : Lock
    entry = record { number = number; holder = None }

    by_case : (a b : Bool) → numbers (cond a entries (cond b (entries ++ record { number = number; holder = None } ∷ []) entries)) ≡ cond a (numbers entries) (cond b (numbers entries ++ number ∷ []) (numbers entries))
    by_case true b = refl
    by_case false true = map-append (λ lock. lock.number) entries (record { number = number; holder = None } ∷ [])
    by_case false false = refl
