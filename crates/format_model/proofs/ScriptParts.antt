-- The parts of a line: what is spelled is read again, and what is read is spelled so.
use Rattle.std.proofs.Common.{◌≡◌, ℕ, zero, suc, ◌+◌, ◌-◌, ◌*◌, ◌/◌, ◌%◌, ◌^◌, ◌<◌, ◌≤◌, ◌⊎◌, Bool, true, false, ◌&&◌, ◌||◌, cond, eqb, ltb, leb, List, [], ◌∷◌, ◌++◌, length, get_or, Option, Some, None, Result, Ok, Err, refl, sym, ap, subst, ◌∙◌, arith, rules, inl, inr, decimal}
use Rattle.std.specs.Prelude.{option_map}
use Rattle.std.specs.Option.{option_map_or}
use Rattle.std.specs.Char.{is_ascii_digit}
use Rattle.std.specs.List.{list_all, AllByRecursion}
use Rattle.std.proofs.lemmas.Bool.{cases_lt, lt-ltb, le-ltb, le-leb, lt-leb, ltb-true, ltb-false, leb-true, eqb-true, eqb-false, ne_eqb, and_parts, and_cases, and_from, and_right, or_parts}
use Rattle.std.proofs.lemmas.Fmt.{digits_decimal, digits_value-decimal, decimal_nonempty, decimal_digit, first_decimal, decimal-digits_value}
use Rattle.std.proofs.lemmas.Str.Parse.{IsNumeralModel, numerals_by_fold}
use Rattle.format_model.specs.Script.{hex_digit, hex_pair, hex}
use Rattle.format_model.specs.Then.{◌>>=◌}
use Rattle.format_model.specs.ScriptReading.{Broken, BadLine, BadNumber, strip, cut, is_number, leads_with_zero, value_after, value_of, number_in, number_at, hex_value, pair_at, pairs_at, hex_at}

-- ---- results

pub bind_ok : {A B : Type 0} (r : Result A Broken) (f : A → Result B Broken) (y : B) → (r >>= f) ≡ Ok y → (x : A) × (r ≡ Ok x) × (f x ≡ Ok y)
bind_ok (Ok x) f y e = (x, refl, e)
bind_ok (Err d) f y e = absurd cc

abbrev done : {A : Type 0} → A → Result A Broken
done x = Ok x

pub ok_is : {A : Type 0} (x y : A) → done x ≡ done y → x ≡ y
ok_is x y e = cc

pub chosen_ok : {A : Type 0} (t : Bool) (r : Result A Broken) (d : Broken) (y : A) → cond t r (Err d) ≡ Ok y → (t ≡ true) × (r ≡ Ok y)
chosen_ok true r d y e = (refl, e)
chosen_ok false r d y e = absurd cc

pub passed_ok : {A : Type 0} (t : Bool) (d : Broken) (r : Result A Broken) (y : A) → cond t (Err d) r ≡ Ok y → (t ≡ false) × (r ≡ Ok y)
passed_ok true d r y e = absurd cc
passed_ok false d r y e = (refl, e)

-- either of two answers, by a test
pub either_of : {A : Type 0} (t : Bool) (x y z : A) → cond t x y ≡ z → ((t ≡ true) × (x ≡ z)) ⊎ ((t ≡ false) × (y ≡ z))
either_of true x y z e = inl (refl, e)
either_of false x y z e = inr (refl, e)

-- either what a word's rest gives, or what is tried after it
pub taken : {A B : Type 0} (f : A → Result B Broken) (o : Option A) (d : Result B Broken) (y : B) → option_map_or f o d ≡ Ok y → ((x : A) × (o ≡ Some x) × (f x ≡ Ok y)) ⊎ (d ≡ Ok y)
taken f None d y e = inr e
taken f (Some x) d y e = inl (x, refl, e)

mapped : {A B : Type 0} (f : A → B) (o : Option A) (y : B) → option_map f o ≡ Some y → (x : A) × (o ≡ Some x) × (f x ≡ y)
mapped f None y e = absurd cc
mapped f (Some x) y e = (x, refl, cc)

-- ---- words

pub strip_found : (word text rest : List ℕ) → strip word text ≡ Some rest → text ≡ word ++ rest
strip_found [] text rest e = cc
strip_found (w ∷ word) [] rest e = absurd cc
strip_found (w ∷ word) (b ∷ text) rest e =
    elim (either_of (eqb b w) (strip word text) None (Some rest) e) [
      | inl t ↦ let same : b ≡ w = eqb-true b w t.0 in let others : text ≡ word ++ rest = strip_found word text rest t.1 in rw (same, others) refl
      | inr t ↦ absurd (let no : None ≡ Some rest = t.1 in cc)
    ]

abbrev pub AreDigits : List ℕ → Type 0
AreDigits ds = list_all is_ascii_digit ds ≡ true

pub cut_again : (ds rest : List ℕ) → AreDigits ds → cut 32 (ds ++ 32 ∷ rest) ≡ Some (ds, rest)
cut_again [] rest h = refl
cut_again (d ∷ ds) rest h =
    let parts = and_parts (is_ascii_digit d) (list_all is_ascii_digit ds) h in
    let ends = and_parts (leb 48 d) (leb d 57) parts.0 in
    let low : 48 ≤ d = leb-true 48 d ends.0 in
    let no_space : eqb d 32 ≡ false = ne_eqb d 32 (λ e. omega arith) in
    rw (no_space, cut_again ds rest parts.1) refl

pub cut_found : (c : ℕ) (text : List ℕ) (p : List ℕ × List ℕ) → cut c text ≡ Some p → text ≡ p.0 ++ c ∷ p.1
cut_found c [] p e = absurd cc
cut_found c (b ∷ bs) p e =
    elim (either_of (eqb b c) (Some ([], bs)) (option_map (λ (q : List ℕ × List ℕ). (b ∷ q.0, q.1)) (cut c bs)) (Some p) e) [
      | inl t ↦ let same : b ≡ c = eqb-true b c t.0 in
          let is_p : ([], bs) ≡ p = cc in
          subst (λ (q : List ℕ × List ℕ). b ∷ bs ≡ q.0 ++ c ∷ q.1) is_p (rw same refl)
      | inr t ↦ let m = mapped (λ (q : List ℕ × List ℕ). (b ∷ q.0, q.1)) (cut c bs) p t.1 in
          subst (λ (q : List ℕ × List ℕ). b ∷ bs ≡ q.0 ++ c ∷ q.1) m.2 (ap (λ (x : List ℕ). b ∷ x) (cut_found c bs m.0 m.1))
    ]

-- ---- numbers

own : IsNumeralModel AreDigits (value_after 0)
own = numerals_by_fold AreDigits (search rules) value_after (search rules)

pub decimal_digits : (n : ℕ) → n < 2 ^ 64 → AreDigits (decimal n)
decimal_digits n small = digits_decimal own n small

no_zero : (n : ℕ) → n < 2 ^ 64 → leads_with_zero (decimal n) ≡ false
no_zero zero small = let one : decimal 0 ≡ 48 ∷ [] = decimal_digit 0 (omega arith) in subst (λ (ds : List ℕ). leads_with_zero ds ≡ false) (sym one) refl
no_zero (suc n) small =
    let high : 48 < get_or (decimal (suc n)) 0 0 = first_decimal (suc n) (omega arith) small in
    and_right (ltb 1 (length (decimal (suc n)))) (eqb (get_or (decimal (suc n)) 0 0) 48) (ne_eqb (get_or (decimal (suc n)) 0 0) 48 (λ e. omega arith))

in_value : (least most n : ℕ) (digits : List ℕ) → leads_with_zero digits ≡ false → value_after 0 digits ≡ n → least ≤ n → n ≤ most → number_in least most digits ≡ Ok n
unfolding number_in value_of
in_value least most n digits lead value low high = rw (lead, value, le-ltb n least low, le-ltb most n high) refl

pub in_again : (least most n : ℕ) → least ≤ n → n ≤ most → n < 2 ^ 64 → number_in least most (decimal n) ≡ Ok n
in_again least most n low high small = in_value least most n (decimal n) (no_zero n small) (digits_value-decimal own n small) low high

pub decimal_number : (n : ℕ) → n < 2 ^ 64 → is_number (decimal n) ≡ true
decimal_number n small = and_from (ltb 0 (length (decimal n))) (list_all is_ascii_digit (decimal n)) (lt-ltb 0 (length (decimal n)) (decimal_nonempty n small)) (decimal_digits n small)

at_value : (least most n : ℕ) (text : List ℕ) → is_number text ≡ true → number_in least most text ≡ Ok n → number_at least most text ≡ Ok n
unfolding number_at
at_value least most n text is value = rw (is, value) refl

pub number_again : (least most n : ℕ) → least ≤ n → n ≤ most → n < 2 ^ 64 → number_at least most (decimal n) ≡ Ok n
number_again least most n low high small = at_value least most n (decimal n) (decimal_number n small) (in_again least most n low high small)

-- the digits of a number within these ends
pub record IsNumber (least most : ℕ) (text : List ℕ) (n : ℕ) : Type 0 where
  pub spelled : text ≡ decimal n
  pub low : least ≤ n
  pub high : n ≤ most

alone : (digits : List ℕ) → leads_with_zero digits ≡ false → 0 < length digits → get_or digits 0 0 ≡ 48 → length digits ≡ 1
alone digits lead some zero_first =
    elim (and_cases (ltb 1 (length digits)) (eqb (get_or digits 0 0) 48) lead) [
      | inl short ↦ omega (arith, ltb-false 1 (length digits) short)
      | inr other ↦ absurd (eqb-false (get_or digits 0 0) 48 other zero_first)
    ]

pub in_found : (least most n : ℕ) (digits : List ℕ) → most < 2 ^ 64 → is_number digits ≡ true → number_in least most digits ≡ Ok n → IsNumber least most digits n
unfolding number_in value_of
in_found least most n digits small is e =
    let value = value_after 0 digits in
    let passed = passed_ok (leads_with_zero digits || (ltb value least || ltb most value)) BadNumber (Ok value) n e in
    let tests = or_parts (leads_with_zero digits) (ltb value least || ltb most value) passed.0 in
    let ends = or_parts (ltb value least) (ltb most value) tests.1 in
    let is_n : value ≡ n = ok_is value n passed.1 in
    let parts = and_parts (ltb 0 (length digits)) (list_all is_ascii_digit digits) is in
    let some : 0 < length digits = ltb-true 0 (length digits) parts.0 in
    let low : least ≤ value = ltb-false value least ends.0 in
    let high : value ≤ most = ltb-false most value ends.1 in
    let spelled : decimal value ≡ digits = decimal-digits_value own digits parts.1 some (alone digits tests.0 some) (omega arith) in
    record { spelled = sym spelled ∙ ap decimal is_n; low = omega arith; high = omega arith }

pub number_found : (least most n : ℕ) (text : List ℕ) → most < 2 ^ 64 → number_at least most text ≡ Ok n → IsNumber least most text n
unfolding number_at
number_found least most n text small e =
    let chosen = chosen_ok (is_number text) (number_in least most text) BadLine n e in
    in_found least most n text small chosen.0 chosen.1

-- ---- bytes in hexadecimal

abbrev pub AreBytes : List ℕ → Type 0
AreBytes bytes = AllByRecursion (λ b. b < 256) bytes

-- bytes, by their places
pub bytes_from : (bytes : List ℕ) → ((i : ℕ) → get_or bytes i 0 < 256) → AreBytes bytes
bytes_from [] fits = tt
bytes_from (b ∷ bytes) fits = (fits 0, bytes_from bytes (λ i. fits (suc i)))

digit_again : (n : ℕ) → n < 16 → hex_value (hex_digit n) ≡ Ok n
unfolding hex_value
digit_again n small =
    elim (cases_lt n 10) [
      | inl lt ↦ let back : 48 + n - 48 ≡ n = omega arith in
          rw (lt-ltb n 10 lt, le-leb 48 (48 + n) (omega arith), le-leb (48 + n) 57 (omega arith), back) refl
      | inr le ↦ let back : 87 + n - 87 ≡ n = omega arith in
          rw (le-ltb n 10 le, lt-leb (87 + n) 57 (omega arith), le-leb 48 (87 + n) (omega arith), le-leb 97 (87 + n) (omega arith), le-leb (87 + n) 102 (omega arith), back) refl
    ]

low_digit : (c n : ℕ) → 48 ≤ c → c ≤ 57 → c - 48 ≡ n → (c ≡ hex_digit n) × (n < 16)
low_digit c n low high e = let small : n < 10 = omega arith in (rw (lt-ltb n 10 small) (omega arith), omega arith)

high_digit : (c n : ℕ) → 97 ≤ c → c ≤ 102 → c - 87 ≡ n → (c ≡ hex_digit n) × (n < 16)
high_digit c n low high e = let large : 10 ≤ n = omega arith in (rw (le-ltb n 10 large) (omega arith), omega arith)

digit_found : (c n : ℕ) → hex_value c ≡ Ok n → (c ≡ hex_digit n) × (n < 16)
unfolding hex_value
digit_found c n e =
    elim (either_of (leb 48 c && leb c 57) (Ok (c - 48)) (cond (leb 97 c && leb c 102) (Ok (c - 87)) (Err BadLine)) (Ok n) e) [
      | inl t ↦ let ends = and_parts (leb 48 c) (leb c 57) t.0 in low_digit c n (leb-true 48 c ends.0) (leb-true c 57 ends.1) (ok_is (c - 48) n t.1)
      | inr t ↦ let chosen = chosen_ok (leb 97 c && leb c 102) (Ok (c - 87)) BadLine n t.1 in
          let ends = and_parts (leb 97 c) (leb c 102) chosen.0 in
          high_digit c n (leb-true 97 c ends.0) (leb-true c 102 ends.1) (ok_is (c - 87) n chosen.1)
    ]

pair_again : (b : ℕ) → b < 256 → pair_at (hex_digit (b / 16)) (hex_digit (b % 16)) ≡ Ok b
unfolding pair_at
pair_again b small =
    let whole : 16 * (b / 16) + b % 16 ≡ b = omega arith in
    rw (digit_again (b / 16) (omega arith), digit_again (b % 16) (omega arith), whole) refl

pair_found : (high low b : ℕ) → pair_at high low ≡ Ok b → (hex_pair b ≡ high ∷ low ∷ []) × (b < 256)
unfolding pair_at
pair_found high low b e =
    let h = bind_ok (hex_value high) (λ h. hex_value low >>= λ l. Ok (16 * h + l)) b e in
    let l = bind_ok (hex_value low) (λ l. Ok (16 * h.0 + l)) b h.2 in
    let first = digit_found high h.0 h.1 in
    let second = digit_found low l.0 l.1 in
    let is_b : 16 * h.0 + l.0 ≡ b = ok_is (16 * h.0 + l.0) b l.2 in
    let front : b / 16 ≡ h.0 = omega (arith, is_b, second.1) in
    let back : b % 16 ≡ l.0 = omega (arith, is_b, second.1, front) in
    (rw (front, back, ← first.0, ← second.0) refl, omega (arith, is_b, first.1, second.1))

pub pairs_again : (bytes : List ℕ) → AreBytes bytes → pairs_at (hex bytes) ≡ Ok bytes
unfolding pairs_at
pairs_again [] fits = refl
pairs_again (b ∷ bytes) fits = rw (pair_again b fits.0, pairs_again bytes fits.1) refl

pub pairs_found : (text bytes : List ℕ) → pairs_at text ≡ Ok bytes → (text ≡ hex bytes) × AreBytes bytes
unfolding pairs_at
pairs_found [] bytes e = subst (λ (bs : List ℕ). ([] ≡ hex bs) × AreBytes bs) (ok_is [] bytes e) (refl, tt)
pairs_found (high ∷ []) bytes e = absurd cc
pairs_found (high ∷ low ∷ rest) bytes e =
    let b = bind_ok (pair_at high low) (λ b. pairs_at rest >>= λ bs. Ok (b ∷ bs)) bytes e in
    let bs = bind_ok (pairs_at rest) (λ bs. Ok (b.0 ∷ bs)) bytes b.2 in
    let first = pair_found high low b.0 b.1 in
    let others = pairs_found rest bs.0 bs.1 in
    let whole : high ∷ low ∷ rest ≡ hex_pair b.0 ++ hex bs.0 = ap (λ (x : List ℕ). (high ∷ low ∷ []) ++ x) others.0 ∙ ap (λ (x : List ℕ). x ++ hex bs.0) (sym first.0) in
    subst (λ (x : List ℕ). (high ∷ low ∷ rest ≡ hex x) × AreBytes x) (ok_is (b.0 ∷ bs.0) bytes bs.2) (whole, (first.1, others.1))

pub hex_again : (bytes : List ℕ) → 0 < length bytes → AreBytes bytes → hex_at (hex bytes) ≡ Ok bytes
unfolding hex_at
hex_again [] some fits = absurd (omega arith)
hex_again (b ∷ bytes) some fits =
    let is_some : eqb (length (hex (b ∷ bytes))) 0 ≡ false = ne_eqb (length (hex (b ∷ bytes))) 0 (λ e. omega arith) in
    rw is_some (pairs_again (b ∷ bytes) fits)

pub hex_found : (text bytes : List ℕ) → hex_at text ≡ Ok bytes → (text ≡ hex bytes) × AreBytes bytes × (0 < length bytes)
unfolding hex_at
hex_found text [] e =
    let passed = passed_ok (eqb (length text) 0) BadLine (pairs_at text) [] e in
    let found = pairs_found text [] passed.1 in
    absurd (eqb-false (length text) 0 passed.0 (ap length found.0))
hex_found text (b ∷ bytes) e =
    let passed = passed_ok (eqb (length text) 0) BadLine (pairs_at text) (b ∷ bytes) e in
    let found = pairs_found text (b ∷ bytes) passed.1 in
    (found.0, found.1, omega arith)
