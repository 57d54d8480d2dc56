-- The least byte that is open, over one range and over many.
use Rattle.std.proofs.Common.{◌≡◌, ℕ, zero, suc, ◌+◌, ◌-◌, ◌<◌, ◌≤◌, Bool, true, false, not, ◌&&◌, ◌||◌, cond, List, [], ◌∷◌, length, drop, get_or, min, max, Option, Some, None, refl, sym, ap, ◌∙◌, arith, inl, inr}
use Rattle.std.specs.Prelude.{IfSome}
use Rattle.std.specs.Option.{option_map}
use Rattle.std.proofs.lemmas.Bool.{cases_lt}
use Rattle.std.proofs.lemmas.List.{drop_more, drop_all}
use Rattle.list_laws.specs.Least.{is_between, least_from}
use Rattle.list_laws.proofs.LeastLaws.{least_found, least_none, is_between-yes, is_between-no}
use Rattle.analysis_model.specs.Locks.{is_held_by, bad_access}
use Rattle.lock_rules.specs.declared.lock.Lock.{Lock}
use Rattle.lock_rules.specs.declared.guard.Guard.{Guard}
use Rattle.lock_rules.specs.Entries.{holder_at, is_open_in, is_open}
use Rattle.lock_rules.specs.Lesser.{lesser}

-- the least of a range's addresses from one on, where there is one
pub overlap_some : (low high from size start : ℕ) → start ≡ max low from → start < min high (from + size) → Some start ≡ least_from (is_between low high) from size
overlap_some low high from size start starts below =
    sym (least_found (is_between low high) from size (start - from) start (omega arith) (omega arith) (is_between-yes low high start (omega arith) (omega arith)) (λ n from_on before. is_between-no low high n (inl (omega arith))))

pub overlap_none : (low high from size start : ℕ) → start ≡ max low from → min high (from + size) ≤ start → None ≡ least_from (is_between low high) from size
overlap_none low high from size start starts past = sym (least_none (is_between low high) from size out)
  where
    out : (n : ℕ) → from ≤ n → n < from + size → is_between low high n ≡ false
    out n from_on before =
        elim (cases_lt n low) [
          | inl under ↦ is_between-no low high n (inl under)
          | inr above ↦ is_between-no low high n (inr (omega arith))
        ]

-- a range whose lock is held has no open address
pub open_part_held : (locks : List Lock) (context : ℕ) (guard : Guard) (from size : ℕ) → is_held_by (holder_at locks guard.place) context ≡ true → None ≡ least_from (is_open_in locks context guard) from size
open_part_held locks context guard from size held =
    sym (least_none (is_open_in locks context guard) from size (λ n from_on before. ap (λ t. not t && is_between guard.from guard.to n) held))

-- and of another each is open
pub open_part_free : (locks : List Lock) (context : ℕ) (guard : Guard) (from size : ℕ) → is_held_by (holder_at locks guard.place) context ≡ false → least_from (is_between guard.from guard.to) from size ≡ least_from (is_open_in locks context guard) from size
open_part_free locks context guard from size free = ap (λ t. least_from (λ n. not t && is_between guard.from guard.to n) from size) (sym free)

-- a range that has none of the addresses has no open one
pub open_part_none : (locks : List Lock) (context : ℕ) (guard : Guard) (from size : ℕ) → None ≡ least_from (is_between guard.from guard.to) from size → None ≡ least_from (is_open_in locks context guard) from size
open_part_none locks context guard from size none = by_case (is_held_by (holder_at locks guard.place) context) refl
  where
    by_case : (held : Bool) → is_held_by (holder_at locks guard.place) context ≡ held → None ≡ least_from (is_open_in locks context guard) from size
    by_case true held = open_part_held locks context guard from size held
    by_case false free = none ∙ open_part_free locks context guard from size free

-- where nothing is touched, there is nothing to complain of
pub none_touched : (p : ℕ → Bool) (from : ℕ) → option_map bad_access (least_from p from 0) ≡ None
unfolding least_from
none_touched p from = refl

least_low : (p : ℕ → Bool) (from count : ℕ) → IfSome (least_from p from count) (λ n. from ≤ n)
unfolding least_from
least_low p from zero = tt
least_low p from (suc count) = by_case (p from) (least_from p (from + 1) count) (least_low p (from + 1) count)
  where
    by_case : (b : Bool) (o : Option ℕ) → IfSome o (λ n. from + 1 ≤ n) → IfSome (cond b (Some from) o) (λ n. from ≤ n)
    by_case true o h = omega arith
    by_case false None h = tt
    by_case false (Some n) h = omega (arith, h)

-- the least number with one property or another is the lesser of the two least ones
pub least_or : (p q : ℕ → Bool) (from count : ℕ) → least_from (λ n. p n || q n) from count ≡ lesser (least_from p from count) (least_from q from count)
unfolding least_from
least_or p q from zero = refl
least_or p q from (suc count) =
    ap (λ o. cond (p from || q from) (Some from) o) (least_or p q (from + 1) count)
    ∙ by_case (p from) (q from) (least_from p (from + 1) count) (least_from q (from + 1) count) (least_low p (from + 1) count) (least_low q (from + 1) count)
  where
    by_case : (a b : Bool) (x y : Option ℕ) → IfSome x (λ n. from + 1 ≤ n) → IfSome y (λ n. from + 1 ≤ n) → cond (a || b) (Some from) (lesser x y) ≡ lesser (cond a (Some from) x) (cond b (Some from) y)
    by_case true true x y g h = ap Some (omega arith)
    by_case true false x None g h = refl
    by_case true false x (Some n) g h = ap Some (omega (arith, h))
    by_case false true None y g h = refl
    by_case false true (Some n) y g h = ap Some (omega (arith, g))
    by_case false false x y g h = refl

lesser_none : (a : Option ℕ) → lesser a None ≡ a
lesser_none None = refl
lesser_none (Some x) = refl

lesser_assoc : (a b c : Option ℕ) → lesser (lesser a b) c ≡ lesser a (lesser b c)
lesser_assoc None b c = refl
lesser_assoc (Some x) None c = refl
lesser_assoc (Some x) (Some y) None = refl
lesser_assoc (Some x) (Some y) (Some z) = ap Some (omega arith)

-- the least open address of the ranges from a place on
abbrev pub open_from : List Lock → ℕ → List Guard → ℕ → ℕ → ℕ → Option ℕ
open_from locks context guards place from size = least_from (is_open locks context (drop place guards)) from size

-- one range more of a pass
pub open_more : (locks : List Lock) (context : ℕ) (guards : List Guard) (place from size : ℕ) (guard other : Guard) (best : Option ℕ) → place < length guards → guard ≡ get_or guards place other
    → lesser (lesser best (least_from (is_open_in locks context guard) from size)) (open_from locks context guards (place + 1) from size) ≡ lesser best (open_from locks context guards place from size)
open_more locks context guards place from size guard other best room is =
    let behind = open_from locks context guards (place + 1) from size in
    let here = least_from (is_open_in locks context guard) from size in
    let split : drop place guards ≡ guard ∷ drop (place + 1) guards = drop_more guards place other room ∙ ap (λ g. g ∷ drop (place + 1) guards) (sym is) in
    let whole : open_from locks context guards place from size ≡ lesser here behind =
    ap (λ l. least_from (is_open locks context l) from size) split ∙ least_or (is_open_in locks context guard) (is_open locks context (drop (place + 1) guards)) from size in
    lesser_assoc best here behind ∙ ap (lesser best) (sym whole)

-- and the end of the pass
pub open_end : (locks : List Lock) (context : ℕ) (guards : List Guard) (place from size : ℕ) (best : Option ℕ) → length guards ≤ place → lesser best (open_from locks context guards place from size) ≡ best
open_end locks context guards place from size best end =
    let none : open_from locks context guards place from size ≡ None =
    ap (λ l. least_from (is_open locks context l) from size) (drop_all place guards end) ∙ least_none (is_open locks context []) from size (λ n from_on before. refl) in
    ap (lesser best) none ∙ lesser_none best
