-- How many words of the disk have the number of a record.
use Rattle.std.proofs.Common.{◌≡◌, ℕ, ◌+◌, ◌<◌, ◌≤◌, Bool, true, false, not, nat_eq, nat_lt, cond, ◌&&◌, ◌||◌, ◌==◌, List, [], ◌∷◌, refl, sym, ap, ◌∙◌, arith}
use Rattle.std.proofs.lemmas.Bool.{and_parts}
use Rattle.run_events.specs.declared.record.Record.{Record}
use Rattle.run_events.specs.Record.{number, rank, is_dma, is_end, dmas_at, is_admitted, is_ordered_back, reach_back, newest, newest_dmas, is_next_dma}
use Rattle.run_events.proofs.RecordLaws.{admitted_rises}

-- none in a list that comes less far
pub dmas_at-none : (n : ℕ) (items : List Record) → is_ordered_back items ≡ true → reach_back items < n → dmas_at n items ≡ 0
dmas_at-none n [] is lt = refl
dmas_at-none n (last ∷ before) is lt =
    let parts = and_parts (is_admitted before last) (is_ordered_back before) is in
    let le : reach_back before ≤ number last = admitted_rises before last parts.0 in
    let other : (is_dma last && number last == n) ≡ false = grind (arith, lt) in
    ap (λ b. cond b (dmas_at n before + 1) (dmas_at n before)) other ∙ dmas_at-none n before parts.1 (omega (arith, le, lt))

-- what is admitted after a record of the same number
least_rank : (a b r q : ℕ) (e more : Bool) → (not e && (nat_lt a b || (nat_eq a b && (nat_lt r q || (nat_eq r 1 && more))))) ≡ true → nat_lt a b ≡ false → q ≡ 1 → nat_eq r 1 ≡ false → r ≡ 0
least_rank a b r q e more is lt q_is r_is = grind (arith, is, lt, q_is, r_is)

no_less : (a b r q : ℕ) (e more : Bool) → (not e && (nat_lt a b || (nat_eq a b && (nat_lt r q || (nat_eq r 1 && (nat_eq q 1 && more)))))) ≡ true → q ≡ 0 → a < b
no_less a b r q e more is q_is = grind (arith, is, q_is)

-- a mark of how far the run has come stands first of its number
none_before_mark : (item : Record) (before : List Record) → is_ordered_back before ≡ true → is_admitted before item ≡ true → rank item ≡ 0 → dmas_at (number item) before ≡ 0
none_before_mark item [] ordered admitted is = refl
none_before_mark item (last ∷ before) ordered admitted is = dmas_at-none (number item) (last ∷ before) ordered (no_less (number last) (number item) (rank last) (rank item) (is_end last) _ admitted is)

none_before : (item last : Record) (before : List Record) → is_ordered_back (last ∷ before) ≡ true → is_admitted (last ∷ before) item ≡ true → rank item ≡ 1 → (b : Bool) → nat_lt (number last) (number item) ≡ b
    → (nat_eq (rank last) 1 && nat_eq (number last) (number item)) ≡ false → dmas_at (number item) (last ∷ before) ≡ 0
none_before item last before ordered admitted is true rises apart = dmas_at-none (number item) (last ∷ before) ordered (grind (arith, rises))
none_before item last before ordered admitted is false rises apart =
    let same : number last ≡ number item = grind (arith, admitted, rises) in
    let not_dma : nat_eq (rank last) 1 ≡ false = grind (arith, apart, same) in
    let parts = and_parts (is_admitted before last) (is_ordered_back before) ordered in
    let mark = least_rank (number last) (number item) (rank last) (rank item) (is_end last) _ admitted rises is not_dma in
    ap (λ b. cond (b && number last == number item) (dmas_at (number item) before + 1) (dmas_at (number item) before)) not_dma ∙ ap (λ n. dmas_at n before) (sym same) ∙ none_before_mark last before parts.1 parts.0 mark

-- the first word of its number
pub first_dma : (item : Record) (before : List Record) → is_ordered_back before ≡ true → is_admitted before item ≡ true → rank item ≡ 1 → is_next_dma (newest before) item ≡ false → 1 ≡ newest_dmas (item ∷ before)
first_dma item [] ordered admitted dma apart = grind (arith, dma)
first_dma item (last ∷ before) ordered admitted dma apart =
    let other : (nat_eq (rank last) 1 && nat_eq (number last) (number item)) ≡ false = grind (arith, apart, dma) in
    let none = none_before item last before ordered admitted dma (nat_lt (number last) (number item)) refl other in
    grind (arith, dma, none)
