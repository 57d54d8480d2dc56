-- What a paint makes of each byte.
use Rattle.std.proofs.Common.{◌≡◌, ℕ, zero, suc, ◌+◌, ◌-◌, ◌<◌, ◌≤◌, Bool, true, false, nat_le, if◌then◌else◌, List, [], ◌∷◌, length, get_or, refl, sym, ap, ◌∙◌, arith}
use Rattle.std.proofs.lemmas.Bool.Decides.{nat_tests}
use Rattle.memory_map.specs.declared.TheConstants.{RAM_START}
use Rattle.shadow_state.specs.Shade.{Shade, Paint, shade, has_byte, covers, painted_from, painted, IsPainted}

-- a paint changes no length
pub length-painted_from : (address from to value : ℕ) (bytes : List ℕ) → length (painted_from address from to value bytes) ≡ length bytes
unfolding painted_from
length-painted_from address from to value [] = refl
length-painted_from address from to value (byte ∷ bytes) = ap suc (length-painted_from (address + 1) from to value bytes)

get_or-painted_from : (address from to value : ℕ) (bytes : List ℕ) (place : ℕ) → place < length bytes → get_or (painted_from address from to value bytes) place 0 ≡ (if covers from to (address + place) then value else get_or bytes place 0)
unfolding painted_from
get_or-painted_from address from to value [] place h = absurd (omega arith)
get_or-painted_from address from to value (byte ∷ bytes) zero h = ap (λ a. if covers from to a then value else byte) (omega arith)
get_or-painted_from address from to value (byte ∷ bytes) (suc place) h =
    let next : address + 1 + place ≡ address + suc place = omega arith in
    get_or-painted_from (address + 1) from to value bytes place (omega arith) ∙ ap (λ a. if covers from to a then value else get_or bytes place 0) next

-- a paint with the value that each byte has already
keeps : (b : Bool) (value byte : ℕ) → (b ≡ true → byte ≡ value) → (if b then value else byte) ≡ byte
keeps true value byte same = sym (same refl)
keeps false value byte same = refl

painted_from-same : (address from to value : ℕ) (bytes : List ℕ) → ((place : ℕ) → place < length bytes → covers from to (address + place) ≡ true → get_or bytes place 0 ≡ value) → painted_from address from to value bytes ≡ bytes
unfolding painted_from
painted_from-same address from to value [] same = refl
painted_from-same address from to value (byte ∷ bytes) same =
    let here : address + 0 ≡ address = omega arith in
    let first = keeps (covers from to address) value byte (λ in_range. same 0 (omega arith) (ap (covers from to) here ∙ in_range)) in
    let next = λ (place : ℕ). (let there : address + suc place ≡ address + 1 + place = omega arith in there) in
    let rest = painted_from-same (address + 1) from to value bytes (λ place room in_range. same (suc place) (omega (arith, room)) (ap (covers from to) (next place) ∙ in_range)) in
    ap (λ b. b ∷ painted_from (address + 1) from to value bytes) first ∙ ap (λ l. byte ∷ l) rest

pub painted-same : (s : Shade) (from to value : ℕ) → ((address : ℕ) → covers from to address ≡ true → shade s address ≡ value) → painted s from to value ≡ s
painted-same s from to value same = ap (λ l. record { bytes = l }) (painted_from-same RAM_START from to value s.bytes (λ place room in_range. at place ∙ same (RAM_START + place) in_range))
  where
    at : (place : ℕ) → get_or s.bytes place 0 ≡ shade s (RAM_START + place)
    at place =
        let start : nat_le RAM_START (RAM_START + place) ≡ true = grind (arith, nat_tests) in
        let here : place ≡ RAM_START + place - RAM_START = omega arith in
        rw start (ap (λ n. get_or s.bytes n 0) here)

-- after a paint a byte of RAM is the value where the range covers it, else as before
pub painted-at : (s : Shade) (from to value address : ℕ) → has_byte s address ≡ true → shade (painted s from to value) address ≡ (if covers from to address then value else shade s address)
painted-at s from to value address there =
    let above : RAM_START ≤ address = grind (arith, there) in
    let room : address - RAM_START < length s.bytes = grind (arith, there) in
    let same : RAM_START + (address - RAM_START) ≡ address = omega arith in
    let painted_byte = get_or-painted_from RAM_START from to value s.bytes (address - RAM_START) room in
    let start : nat_le RAM_START address ≡ true = grind (arith, nat_tests) in
    rw start (painted_byte ∙ ap (λ a. if covers from to a then value else get_or s.bytes (address - RAM_START) 0) same)

-- a paint leaves the same bytes in RAM
pub has_byte-painted : (s : Shade) (from to value address : ℕ) → has_byte (painted s from to value) address ≡ has_byte s address
has_byte-painted s from to value address = rw (length-painted_from RAM_START from to value s.bytes) refl

-- after one paint more each byte has the value of the last one that covers it
pub IsPainted-more : (old new : Shade) (from to value : ℕ) → new ≡ painted old from to value → (paints : List Paint) → IsPainted old paints → IsPainted new (record { from = from; to = to; value = value } ∷ paints)
IsPainted-more old new from to value effect paints before = rw effect painted_so
  where
    painted_so : IsPainted (painted old from to value) (record { from = from; to = to; value = value } ∷ paints)
    painted_so address there =
        let there_before : has_byte old address ≡ true = sym (has_byte-painted old from to value address) ∙ there in
        painted-at old from to value address there_before ∙ ap (λ v. if covers from to address then value else v) (before address there_before)
