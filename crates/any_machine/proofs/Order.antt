-- Which records the order admits after the records of a run so far.
use Rattle.std.proofs.Common.{◌≡◌, ◌⊎◌, inl, inr, ℕ, zero, suc, ◌+◌, ◌<◌, ◌≤◌, Bool, true, false, not, ◌&&◌, ◌||◌, cond, List, [], ◌∷◌, length, refl, sym, ap, ◌∙◌, arith, length-append}
use Rattle.std.specs.Prelude.{nat_lt, ◌==◌}
use Rattle.std.proofs.lemmas.Bool.Decides.{nat_tests}
use Rattle.run_events.specs.declared.record.Record.{Record}
use Rattle.run_events.specs.declared.record.Record.TheVariants.{Load, Lines, Dma, Reach, End}
use Rattle.run_events.specs.declared.supply.DmaWord.{DmaWord}
use Rattle.run_events.specs.Record.{number, rank, is_end, is_dma, dmas_at, is_admitted, reach_back}
use Rattle.any_machine.specs.Tape.{words_at, words_told}

-- Records so far, the last one first: none, or the last one is no end and stands below a number, or at it with a rank
-- below this one.
abbrev pub IsBefore : List Record → ℕ → ℕ → Type 0
IsBefore [] n r = Unit {0}
IsBefore (last ∷ before) n r = (is_end last ≡ false) × ((number last < n) ⊎ ((number last ≡ n) × (rank last < r)))

pub before_more : (before : List Record) (n r q : ℕ) → IsBefore before n r → r ≤ q → IsBefore before n q
before_more [] n r q is le = tt
before_more (last ∷ before) n r q is le = (is.0, by is.1)
  where
    by : (number last < n) ⊎ ((number last ≡ n) × (rank last < r)) → (number last < n) ⊎ ((number last ≡ n) × (rank last < q))
    by (inl lower) = inl lower
    by (inr same) = inr (same.0, omega (arith, same.1, le))

pub before_next : (before : List Record) (n r q : ℕ) → IsBefore before n r → IsBefore before (suc n) q
before_next [] n r q is = tt
before_next (last ∷ before) n r q is = (is.0, inl (by is.1))
  where
    by : (number last < n) ⊎ ((number last ≡ n) × (rank last < r)) → number last < suc n
    by (inl lower) = omega (arith, lower)
    by (inr same) = omega (arith, same.0)

-- they come no further than that number
pub reach_is : (before : List Record) (n r : ℕ) → IsBefore before n r → (reach_back before < n) ⊎ (reach_back before ≡ n)
reach_is [] zero r is = inr refl
reach_is [] (suc n) r is = inl (omega arith)
reach_is (last ∷ before) n r is = by is.1
  where
    by : (number last < n) ⊎ ((number last ≡ n) × (rank last < r)) → (number last < n) ⊎ (number last ≡ n)
    by (inl lower) = inl lower
    by (inr same) = inr same.0

rises : (end' : Bool) (a n r q : ℕ) (rest : Bool) → end' ≡ false → (a < n) ⊎ ((a ≡ n) × (r < q)) → (not end' && (nat_lt a n || (a == n && (nat_lt r q || rest)))) ≡ true
rises end' a n r q rest open' (inl lower) = grind (arith, nat_tests, open', lower)
rises end' a n r q rest open' (inr same) = grind (arith, nat_tests, open', same.0, same.1)

-- a record of a higher rank
pub admitted : (before : List Record) (item : Record) → IsBefore before (number item) (rank item) → is_admitted before item ≡ true
admitted [] item is = refl
admitted (last ∷ before) item is =
    rises (is_end last) (number last) (number item) (rank last) (rank item) (is_dma last && (is_dma item && nat_lt (dmas_at (number item) (last ∷ before)) 128)) is.0 is.1

word_rises : (end' : Bool) (a n r count : ℕ) → end' ≡ false → (a < n) ⊎ ((a ≡ n) × (r < 2)) → count < 128
    → (not end' && (nat_lt a n || (a == n && (nat_lt r 1 || (r == 1 && nat_lt count 128))))) ≡ true
word_rises end' a n r count open' (inl lower) few = grind (arith, nat_tests, open', lower)
word_rises end' a n r count open' (inr same) few = grind (arith, nat_tests, open', same.0, same.1, few)

-- one word more of the disk, after fewer than 128
pub admitted_word : (before : List Record) (n address word mark : ℕ) → IsBefore before n 2 → dmas_at n before < 128 → is_admitted before (Dma n address word mark) ≡ true
admitted_word [] n address word mark is few = refl
admitted_word (last ∷ before) n address word mark is few = word_rises (is_end last) (number last) n (rank last) (dmas_at n (last ∷ before)) is.0 is.1 few

-- the words of a step are as many as its Dma records
one_or_none : (b : Bool) (n : ℕ) (word : DmaWord) → cond b (n + 1) n ≡ n + length (cond b (word ∷ []) [])
one_or_none true n word = refl
one_or_none false n word = omega arith

dmas_one : (k : ℕ) (item : Record) (before : List Record) → dmas_at k (item ∷ before) ≡ dmas_at k before + length (words_told k item)
dmas_one k (Dma step address word mark) before = one_or_none (step == k) (dmas_at k before) (record { address = address; word = word; mark = mark })
dmas_one k (Load step value mark) before = omega arith
dmas_one k (Lines step bits) before = omega arith
dmas_one k (Reach step) before = omega arith
dmas_one k (End step cause) before = omega arith

pub dmas_at-words : (k : ℕ) (items : List Record) → dmas_at k items ≡ length (words_at items k)
dmas_at-words k [] = refl
dmas_at-words k (item ∷ before) = dmas_one k item before ∙ ap (λ n. n + length (words_told k item)) (dmas_at-words k before) ∙ sym (length-append (words_at before k) (words_told k item))
