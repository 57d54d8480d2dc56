-- How the definitions of reading a script go on, from one part of the text to the next.
use Rattle.std.proofs.Common.{◌≡◌, ℕ, zero, suc, ◌+◌, ◌-◌, ◌*◌, ◌<◌, ◌≤◌, Bool, true, false, not, ◌&&◌, cond, eqb, ltb, List, [], ◌∷◌, ◌++◌, length, get_or, take, drop, Option, Some, None, Result, Ok, Err, refl, sym, ap, ◌∙◌, append_assoc, arith, inl, inr}
use Rattle.std.specs.Prelude.{option_map}
use Rattle.std.specs.Option.{option_map_or}
use Rattle.std.specs.List.{position, position_or_len, count_by}
use Rattle.std.specs.Cmp.Lexicographic.{pointwise}
use Rattle.std.proofs.lemmas.Bool.{cases_lt, lt-ltb, le-ltb}
use Rattle.std.proofs.lemmas.List.{append-nil}
use Rattle.std.proofs.lemmas.List.Sums.{sum_by-cons}
use Rattle.machine_model.specs.Script.{Entry}
use Rattle.format_model.specs.Script.{Line, last_step, texts_of, longer}
use Rattle.format_model.specs.Then.{◌>>=◌}
use Rattle.format_model.specs.ScriptReading.{Broken, BadLine, strip, cut, value_after, pair_at, pairs_at, SoFar, with_line, line_at, lines_at}

-- the last entry's step, by its place
pub last_step_at : (entries : List Entry) (n : ℕ) (e : Entry) → n + 1 ≡ length entries → e ≡ get_or entries n e → last_step entries ≡ e.at
last_step_at [] n e long here = absurd (omega arith)
last_step_at (x ∷ []) zero e long here = sym (ap (λ (y : Entry). y.at) here)
last_step_at (x ∷ []) (suc n) e long here = absurd (omega arith)
last_step_at (x ∷ y ∷ entries) zero e long here = absurd (omega arith)
last_step_at (x ∷ y ∷ entries) (suc n) e long here = last_step_at (y ∷ entries) n e (omega arith) here

-- ---- words and lines

tested : (t p : Bool) (s : Option (List ℕ)) (x : List ℕ) → s ≡ cond p (Some x) None → cond t s None ≡ cond (t && p) (Some x) None
tested true p s x e = e
tested false p s x e = refl

-- a word is stripped where the text begins with the word
pub strip_by : (word text : List ℕ) → strip word text ≡ cond (pointwise eqb (take (length word) text) word) (Some (drop (length word) text)) None
strip_by [] text = refl
strip_by (w ∷ word) [] = refl
strip_by (w ∷ word) (b ∷ text) =
    tested (eqb b w) (pointwise eqb (take (length word) text) word) (strip word text) (drop (length word) text) (strip_by word text)

-- the parts round a place
abbrev pub parted : List ℕ → ℕ → List ℕ × List ℕ
parted bs i = (take i bs, drop (i + 1) bs)

abbrev parted_at : List ℕ → ℕ → Option (List ℕ × List ℕ)
parted_at bs n = option_map (parted bs) (cond (ltb n (length bs)) (Some n) None)

parted_on : (b : ℕ) (bs : List ℕ) (n : ℕ) → option_map (λ (p : List ℕ × List ℕ). (b ∷ p.0, p.1)) (parted_at bs n) ≡ parted_at (b ∷ bs) (1 + n)
parted_on b bs n =
    let here : 1 + n ≡ suc n = omega arith in
    let next : suc n + 1 ≡ suc (n + 1) = omega arith in
    elim (cases_lt n (length bs)) [
      | inl lt ↦ let later : suc n < suc (length bs) = omega arith in rw (here, lt-ltb n (length bs) lt, lt-ltb (suc n) (suc (length bs)) later, next) refl
      | inr le ↦ let later : suc (length bs) ≤ suc n = omega arith in rw (here, le-ltb n (length bs) le, le-ltb (suc n) (suc (length bs)) later) refl
    ]

parted_here : (b : ℕ) (bs : List ℕ) → ◌≡◌ {A = Option (List ℕ × List ℕ)} (Some ([], bs)) (parted_at (b ∷ bs) 0)
parted_here b bs = let first : 0 < suc (length bs) = omega arith in rw (lt-ltb 0 (suc (length bs)) first) refl

parted_by : (b : ℕ) (bs : List ℕ) (n : ℕ) (t : Bool) (o : Option (List ℕ × List ℕ)) → o ≡ parted_at bs n → cond t (Some ([], bs)) (option_map (λ (p : List ℕ × List ℕ). (b ∷ p.0, p.1)) o) ≡ parted_at (b ∷ bs) (cond (not t) (1 + n) 0)
parted_by b bs n true o e = parted_here b bs
parted_by b bs n false o e = ap (option_map (λ (p : List ℕ × List ℕ). (b ∷ p.0, p.1))) e ∙ parted_on b bs n

-- a text is cut at the first place of the byte
pub cut_by : (c : ℕ) (bs : List ℕ) → cut c bs ≡ option_map (parted bs) (position (λ b. eqb b c) bs)
cut_by c [] = refl
cut_by c (b ∷ bs) = parted_by b bs (position_or_len (λ b. eqb b c) bs) (eqb b c) (cut c bs) (cut_by c bs)

-- the first line of a file, and the lines after it
abbrev pub lines_parted : List ℕ → Option (List ℕ × List ℕ) → List (List ℕ)
lines_parted bs o = option_map_or (λ p. p.0 ∷ texts_of p.1) o (bs ∷ [])

longer_parted : (b : ℕ) (bs : List ℕ) (o : Option (List ℕ × List ℕ)) → longer b (lines_parted bs o) ≡ lines_parted (b ∷ bs) (option_map (λ (p : List ℕ × List ℕ). (b ∷ p.0, p.1)) o)
longer_parted b bs (Some p) = refl
longer_parted b bs None = refl

line_by : (t : Bool) (b : ℕ) (bs : List ℕ) (texts : List (List ℕ)) (o : Option (List ℕ × List ℕ)) → longer b texts ≡ lines_parted (b ∷ bs) (option_map (λ (p : List ℕ × List ℕ). (b ∷ p.0, p.1)) o)
    → cond t ([] ∷ texts_of bs) (longer b texts) ≡ lines_parted (b ∷ bs) (cond t (Some ([], bs)) (option_map (λ (p : List ℕ × List ℕ). (b ∷ p.0, p.1)) o))
line_by true b bs texts o e = refl
line_by false b bs texts o e = e

texts_from : (b : ℕ) (bs : List ℕ) → texts_of (b ∷ bs) ≡ lines_parted (b ∷ bs) (cut 10 (b ∷ bs))
texts_from b [] = line_by (eqb b 10) b [] [] None refl
texts_from b (c ∷ bs) =
    line_by (eqb b 10) b (c ∷ bs) (texts_of (c ∷ bs)) (cut 10 (c ∷ bs)) (ap (longer b) (texts_from c bs) ∙ longer_parted b (c ∷ bs) (cut 10 (c ∷ bs)))

pub texts_by : (bs : List ℕ) → 0 < length bs → texts_of bs ≡ lines_parted bs (cut 10 bs)
texts_by [] some = absurd (omega arith)
texts_by (b ∷ bs) some = texts_from b bs

-- ---- numbers

-- further digits make no value smaller
pub value_after-le : (n : ℕ) (digits : List ℕ) → n ≤ value_after n digits
value_after-le n [] = omega arith
value_after-le n (digit ∷ digits) = omega (arith, value_after-le (10 * n + (digit - 48)) digits)

-- ---- bytes in hexadecimal

-- these bytes, and those that are read after them
abbrev pub with_front : List ℕ → Result (List ℕ) Broken → Result (List ℕ) Broken
with_front front read = read >>= λ bytes. Ok (front ++ bytes)

regroup : (front : List ℕ) (b : ℕ) (read : Result (List ℕ) Broken) → with_front (front ++ b ∷ []) read ≡ with_front front (read >>= λ bytes. Ok (b ∷ bytes))
regroup front b (Ok bytes) = ap Ok (append_assoc front (b ∷ []) bytes)
regroup front b (Err e) = refl

pub pair_read : (front text : List ℕ) (high low byte : ℕ) (total : Result (List ℕ) Broken) → 2 ≤ length text → high ≡ get_or text 0 0 → low ≡ get_or text 1 0 → pair_at high low ≡ Ok byte
    → with_front front (pairs_at text) ≡ total → with_front (front ++ byte ∷ []) (pairs_at (drop 2 text)) ≡ total
unfolding pairs_at
pair_read front [] high low byte total long first second is_byte so_far = absurd (omega arith)
pair_read front (a ∷ []) high low byte total long first second is_byte so_far = absurd (omega arith)
pair_read front (a ∷ b ∷ rest) high low byte total long first second is_byte so_far =
    let one : pair_at a b ≡ Ok byte = rw (← first, ← second) is_byte in
    regroup front byte (pairs_at rest) ∙ (rw one at so_far)

pub pair_refused : (front text : List ℕ) (high low : ℕ) (total : Result (List ℕ) Broken) (e : Broken) → 2 ≤ length text → high ≡ get_or text 0 0 → low ≡ get_or text 1 0 → pair_at high low ≡ Err e
    → with_front front (pairs_at text) ≡ total → total ≡ Err e
unfolding pairs_at
pair_refused front [] high low total e long first second refused so_far = absurd (omega arith)
pair_refused front (a ∷ []) high low total e long first second refused so_far = absurd (omega arith)
pair_refused front (a ∷ b ∷ rest) high low total e long first second refused so_far =
    let one : pair_at a b ≡ Err e = rw (← first, ← second) refused in
    sym (rw one at so_far)

pub pairs_end : (front text : List ℕ) (total : Result (List ℕ) Broken) → length text ≡ 0 → with_front front (pairs_at text) ≡ total → total ≡ Ok front
unfolding pairs_at
pairs_end front [] total none so_far = sym so_far ∙ ap Ok (append-nil front)
pairs_end front (a ∷ text) total none so_far = absurd (omega arith)

pub half_pair : (front text : List ℕ) (total : Result (List ℕ) Broken) → length text < 2 → (length text ≡ 0 → ⊥) → with_front front (pairs_at text) ≡ total → total ≡ Err BadLine
unfolding pairs_at
half_pair front [] total short some so_far = absurd (some refl)
half_pair front (a ∷ []) total short some so_far = sym so_far
half_pair front (a ∷ b ∷ text) total short some so_far = absurd (omega arith)

-- ---- lines

pub line_read : (so_far : SoFar) (number : ℕ) (texts : List (List ℕ)) (text : List ℕ) (rest : List (List ℕ)) (line : Line) (total : Result SoFar (ℕ × Broken)) → texts ≡ text ∷ rest → line_at so_far text ≡ Ok line
    → lines_at so_far number texts ≡ total → lines_at (with_line so_far line) (number + 1) rest ≡ total
unfolding lines_at
line_read so_far number [] text rest line total is_read said goes = absurd cc
line_read so_far number (first ∷ others) text rest line total is_read said goes =
    let same : first ≡ text = cc in
    let others_are : others ≡ rest = cc in
    let one : line_at so_far first ≡ Ok line = ap (line_at so_far) same ∙ said in
    rw (← others_are) (rw one at goes)

pub line_refused : (so_far : SoFar) (number : ℕ) (texts : List (List ℕ)) (text : List ℕ) (rest : List (List ℕ)) (e : Broken) (total : Result SoFar (ℕ × Broken)) → texts ≡ text ∷ rest → line_at so_far text ≡ Err e
    → lines_at so_far number texts ≡ total → total ≡ Err (number, e)
unfolding lines_at
line_refused so_far number [] text rest e total is_read said goes = absurd cc
line_refused so_far number (first ∷ others) text rest e total is_read said goes =
    let same : first ≡ text = cc in
    let one : line_at so_far first ≡ Err e = ap (line_at so_far) same ∙ said in
    sym (rw one at goes)

pub lines_end : (so_far : SoFar) (number : ℕ) (bytes : List ℕ) (total : Result SoFar (ℕ × Broken)) → length bytes ≡ 0 → lines_at so_far number (texts_of bytes) ≡ total → total ≡ Ok so_far
unfolding lines_at
lines_end so_far number [] total none goes = sym goes
lines_end so_far number (b ∷ bytes) total none goes = absurd (omega arith)

longer_by : (b : ℕ) (texts : List (List ℕ)) (n : ℕ) → length texts ≤ n + 1 → length (longer b texts) ≤ n + 1
longer_by b [] n few = omega arith
longer_by b (text ∷ texts) n few = few

counted_by : (t : Bool) (b : ℕ) (texts : List (List ℕ)) (n : ℕ) → length texts ≤ n + 1 → length (cond t ([] ∷ texts) (longer b texts)) ≤ (cond t 1 0 + n) + 1
counted_by true b texts n few = omega arith
counted_by false b texts n few = omega (arith, longer_by b texts n few)

-- a file has at most one line more than line feeds
pub few_texts : (bs : List ℕ) → length (texts_of bs) ≤ count_by (λ b. eqb b 10) bs + 1
few_texts [] = omega arith
few_texts (b ∷ bs) =
    rw (sum_by-cons (λ (x : ℕ). cond (eqb x 10) 1 0) b bs) (counted_by (eqb b 10) b (texts_of bs) (count_by (λ x. eqb x 10) bs) (few_texts bs))
