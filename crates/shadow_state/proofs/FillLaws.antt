-- A paint as a fill of the places that it covers.
use Rattle.std.proofs.Common.{◌≡◌, ℕ, suc, ◌+◌, ◌-◌, ◌<◌, ◌≤◌, true, false, if◌then◌else◌, List, [], ◌∷◌, ◌++◌, length, take, drop, replicate, min, max, refl, sym, ap, ◌∙◌, arith, length-take, length-drop}
use Rattle.std.proofs.lemmas.Bool.Decides.{nat_tests}
use Rattle.std.proofs.lemmas.List.{take-append-drop, drop-drop}
use Rattle.memory_map.specs.declared.TheConstants.{RAM_START}
use Rattle.shadow_state.specs.Shade.{covers, painted_from}

painted_from-append : (address from to value : ℕ) (xs ys : List ℕ) → painted_from address from to value (xs ++ ys) ≡ painted_from address from to value xs ++ painted_from (address + length xs) from to value ys
unfolding painted_from
painted_from-append address from to value [] ys = ap (λ a. painted_from a from to value ys) (omega arith)
painted_from-append address from to value (x ∷ xs) ys =
    let next : address + 1 + length xs ≡ address + suc (length xs) = omega arith in
    ap (λ l. (if covers from to address then value else x) ∷ l) (painted_from-append (address + 1) from to value xs ys ∙ ap (λ a. painted_from (address + 1) from to value xs ++ painted_from a from to value ys) next)

-- bytes before the range stay
painted_from-before : (address from to value : ℕ) (xs : List ℕ) → (0 < length xs → address + length xs ≤ from) → painted_from address from to value xs ≡ xs
unfolding painted_from
painted_from-before address from to value [] h = refl
painted_from-before address from to value (x ∷ xs) h =
    let far : address + suc (length xs) ≤ from = h (omega arith) in
    let out : covers from to address ≡ false = grind (arith, nat_tests) in
    rw out (ap (λ l. x ∷ l) (painted_from-before (address + 1) from to value xs (λ _. omega arith)))

-- bytes after it stay
painted_from-after : (address from to value : ℕ) (xs : List ℕ) → (0 < length xs → to ≤ address) → painted_from address from to value xs ≡ xs
unfolding painted_from
painted_from-after address from to value [] h = refl
painted_from-after address from to value (x ∷ xs) h =
    let far : to ≤ address = h (omega arith) in
    let out : covers from to address ≡ false = grind (arith, nat_tests) in
    rw out (ap (λ l. x ∷ l) (painted_from-after (address + 1) from to value xs (λ _. omega arith)))

-- bytes in it have the value
painted_from-inside : (address from to value : ℕ) (xs : List ℕ) → (0 < length xs → from ≤ address) → (0 < length xs → address + length xs ≤ to) → painted_from address from to value xs ≡ replicate (length xs) value
unfolding painted_from
painted_from-inside address from to value [] g h = refl
painted_from-inside address from to value (x ∷ xs) g h =
    let near : from ≤ address = g (omega arith) in
    let far : address + suc (length xs) ≤ to = h (omega arith) in
    let inside : covers from to address ≡ true = grind (arith, nat_tests) in
    rw inside (ap (λ l. value ∷ l) (painted_from-inside (address + 1) from to value xs (λ _. omega arith) (λ _. omega arith)))

-- a list in three parts
three_parts : (start end : ℕ) (bytes : List ℕ) → start ≤ end → take start bytes ++ (take (end - start) (drop start bytes) ++ drop end bytes) ≡ bytes
three_parts start end bytes h =
    let back : drop (end - start) (drop start bytes) ≡ drop end bytes = drop-drop (end - start) start bytes ∙ ap (λ n. drop n bytes) (omega arith) in
    ap (λ l. take start bytes ++ (take (end - start) (drop start bytes) ++ l)) (sym back) ∙ ap (λ l. take start bytes ++ l) (take-append-drop (end - start) (drop start bytes)) ∙ take-append-drop start bytes

-- a paint of three parts, of which the middle one is covered
three_painted : (from to value : ℕ) (front middle back : List ℕ)
    → (0 < length front → RAM_START + length front ≤ from)
    → (0 < length middle → from ≤ RAM_START + length front) → (0 < length middle → RAM_START + length front + length middle ≤ to)
    → (0 < length back → to ≤ RAM_START + length front + length middle)
    → painted_from RAM_START from to value (front ++ (middle ++ back)) ≡ front ++ (replicate (length middle) value ++ back)
three_painted from to value front middle back before near far after =
    let first = painted_from-append RAM_START from to value front (middle ++ back) in
    let second = painted_from-append (RAM_START + length front) from to value middle back in
    let front_stays = painted_from-before RAM_START from to value front before in
    let middle_is = painted_from-inside (RAM_START + length front) from to value middle near far in
    let back_stays = painted_from-after (RAM_START + length front + length middle) from to value back after in
    rw (first, front_stays, second, middle_is, back_stays) refl

-- a paint fills the places from that of the range's start to that of its end
pub painted_from_fill : (from to value : ℕ) (bytes : List ℕ) (start end : ℕ) → start ≡ min (from - RAM_START) (length bytes) → end ≡ max (min (to - RAM_START) (length bytes)) start → take start bytes ++ (replicate (end - start) value ++ drop end bytes) ≡ painted_from RAM_START from to value bytes
painted_from_fill from to value bytes start end starts ends =
    let front = take start bytes in
    let middle = take (end - start) (drop start bytes) in
    let back = drop end bytes in
    let front_length : length front ≡ start = omega (arith, length-take start bytes) in
    let after_start : start ≤ end = omega arith in
    let in_bytes : end ≤ length bytes = omega arith in
    let middle_length : length middle ≡ end - start = omega (arith, length-take (end - start) (drop start bytes), length-drop start bytes) in
    let back_length : length back ≡ length bytes - end = length-drop end bytes in
    let whole : front ++ (middle ++ back) ≡ bytes = three_parts start end bytes (omega arith) in
    let parts = three_painted from to value front middle back (λ some. omega arith) (λ some. omega arith) (λ some. omega arith) (λ some. omega arith) in
    ap (λ n. front ++ (replicate n value ++ back)) (sym middle_length) ∙ sym parts ∙ ap (painted_from RAM_START from to value) whole
