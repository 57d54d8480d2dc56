-- No word meets two rows: each two rows differ in the opcode or in a field that both fix.
use Rattle.std.proofs.Common.{◌≡◌, ℕ, ◌+◌, ◌≤◌, Bool, true, false, List, [], ◌∷◌, refl, arith}
use Rattle.std.specs.Prelude.{◌&&◌, ◌||◌, ◌==◌, not, cond, if◌then◌else◌, count_by}
use Rattle.std.specs.List.{list_all}
use Rattle.std.proofs.lemmas.List.Sums.{sum_by-cons}
use Rattle.rv_decode.specs.Fields.{rd_of, funct3_of, rs1_of, rs2_of, funct7_of, funct5_of, funct12_of}
use Rattle.rv_decode.specs.Listing.{Field, Rd, Funct3, Rs1, Rs2, Funct7, Funct5, Funct12, field_of, Fixed, meets_field, Row, meets, rows}

-- a number for each field, and the field of a number
place : Field → ℕ
place Rd = 0
place Funct3 = 1
place Rs1 = 2
place Rs2 = 3
place Funct7 = 4
place Funct5 = 5
place Funct12 = 6

at_place : ℕ → ℕ → ℕ
at_place n word = if n == 0 then rd_of word else if n == 1 then funct3_of word else if n == 2 then rs1_of word else if n == 3 then rs2_of word else if n == 4 then funct7_of word else if n == 5 then funct5_of word else funct12_of word

field-at_place : (field : Field) (word : ℕ) → field_of field word ≡ at_place (place field) word
unfolding place at_place
field-at_place Rd word = refl
field-at_place Funct3 word = refl
field-at_place Rs1 word = refl
field-at_place Rs2 word = refl
field-at_place Funct7 word = refl
field-at_place Funct5 word = refl
field-at_place Funct12 word = refl

-- the two ask different values of one field
clash : Fixed → Fixed → Bool
clash f g = place f.field == place g.field && not (f.value == g.value)

clash-apart : (f g : Fixed) (word : ℕ) → clash f g ≡ true → meets_field f word ≡ true → meets_field g word ≡ true → ⊥
unfolding clash
clash-apart f g word c p q =
    let a = field-at_place f.field word in
    let b = field-at_place g.field word in
    grind (arith, a, b)

any_clash : List Fixed → Fixed → Bool
any_clash [] g = false
any_clash (f ∷ fs) g = clash f g || any_clash fs g

any_clash-apart : (fs : List Fixed) (g : Fixed) (word : ℕ) → any_clash fs g ≡ true → list_all (λ f. meets_field f word) fs ≡ true → meets_field g word ≡ true → ⊥
unfolding any_clash
any_clash-apart [] g word c p q = grind arith
any_clash-apart (f ∷ fs) g word c p q = grind (arith, clash-apart f g word, any_clash-apart fs g word)

clashes : List Fixed → List Fixed → Bool
clashes fs [] = false
clashes fs (g ∷ gs) = any_clash fs g || clashes fs gs

clashes-apart : (fs gs : List Fixed) (word : ℕ) → clashes fs gs ≡ true → list_all (λ f. meets_field f word) fs ≡ true → list_all (λ g. meets_field g word) gs ≡ true → ⊥
unfolding clashes
clashes-apart fs [] word c p q = grind arith
clashes-apart fs (g ∷ gs) word c p q = grind (arith, any_clash-apart fs g word, clashes-apart fs gs word)

apart : Row → Row → Bool
apart r s = not (r.opcode == s.opcode) || clashes r.fixed s.fixed

apart-alone : (r s : Row) (word : ℕ) → apart r s ≡ true → meets r word ≡ true → meets s word ≡ false
unfolding apart
apart-alone r s word c p = grind (arith, clashes-apart r.fixed s.fixed word)

apart_from : Row → List Row → Bool
apart_from r [] = true
apart_from r (s ∷ rs) = apart r s && apart_from r rs

all_apart : List Row → Bool
all_apart [] = true
all_apart (r ∷ rs) = apart_from r rs && all_apart rs

none_other : (r : Row) (rs : List Row) (word : ℕ) → apart_from r rs ≡ true → meets r word ≡ true → count_by (λ s. meets s word) rs ≡ 0
unfolding apart_from
none_other r [] word c p = refl
none_other r (s ∷ rs) word c p = grind (arith, apart-alone r s word, none_other r rs word)

counted : (b : Bool) (n : ℕ) → (b ≡ true → n ≡ 0) → n ≤ 1 → cond b 1 0 + n ≤ 1
counted true n none most = omega (arith, none refl)
counted false n none most = omega (arith, most)

at_most_one : (rs : List Row) (word : ℕ) → all_apart rs ≡ true → count_by (λ r. meets r word) rs ≤ 1
unfolding all_apart
at_most_one [] word c = omega arith
at_most_one (r ∷ rs) word c =
    let first : apart_from r rs ≡ true = grind (arith, c) in
    let rest : all_apart rs ≡ true = grind (arith, c) in
    let bound = counted (meets r word) (count_by (λ s. meets s word) rs) (none_other r rs word first) (at_most_one rs word rest) in
    omega (arith, bound, sum_by-cons (λ s. cond (meets s word) 1 0) r rs)

rows_apart : all_apart rows ≡ true
unfolding rows all_apart apart_from apart clashes any_clash clash place
rows_apart = refl

pub one_row : (word : ℕ) → count_by (λ r. meets r word) rows ≤ 1
one_row word = at_most_one rows word rows_apart
