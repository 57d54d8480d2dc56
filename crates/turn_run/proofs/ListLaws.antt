-- Lists that rise, and parts of them.
use Rattle.std.proofs.Common.{◌≡◌, ℕ, ◌+◌, ◌<◌, ◌≤◌, Bool, true, false, cond, List, [], ◌∷◌, ◌++◌, length, take, drop, refl, sym, ap, subst, ◌∙◌, arith, lt-ltb, take-append-drop}
use Rattle.std.specs.Prelude.{nat_lt, min, filter}
use Rattle.std.specs.List.{All}
use Rattle.std.proofs.Math.Seq.{take-length}
use Rattle.std.proofs.lemmas.List.{length-map, nil_from_length, drop_at, length-take-le, length-append}
use Rattle.std.proofs.lemmas.List.Elements.{recursion_from_All, All-tail, All-head, All-weaker, filter-append}
use Rattle.list_laws.proofs.AllLaws.{filter-kept}
use Rattle.list_laws.specs.Prefix.{IsPrefix}
use Rattle.list_laws.proofs.PrefixLaws.{IsPrefix-take}
use Rattle.any_machine.specs.Log.{before_step, SentByte, steps_of}
use Rattle.output_gate.specs.Gate.{Climbs, passed_after, count_below}
use Rattle.output_gate.proofs.GateLaws.{Climbs-take, count_below-none}

-- a prefix of a list that rises
pub Climbs-prefix : (part whole : List ℕ) (low high : ℕ) → IsPrefix part whole → Climbs low whole high → Climbs low part high
Climbs-prefix part whole low high is climbs =
    subst (λ l. Climbs low l high) (sym (IsPrefix-take (length part) part whole is (omega arith)) ∙ take-length part) (Climbs-take (length part) whole low high climbs)

-- a step that comes after others is not below what they have passed
pub passed_after-le : (xs : List ℕ) (x : ℕ) (ys : List ℕ) (low high : ℕ) → Climbs low (xs ++ x ∷ ys) high → passed_after low xs ≤ x
passed_after-le [] x ys low high climbs = climbs.0
passed_after-le (y ∷ xs) x ys low high climbs = passed_after-le xs x ys (y + 1) high climbs.1

-- steps that are all below a bound end below it
pub passed_after-below : (xs : List ℕ) (low bound : ℕ) → low ≤ bound → All (λ x. x < bound) xs → passed_after low xs ≤ bound
passed_after-below [] low bound le all = le
passed_after-below (x ∷ xs) low bound le all = passed_after-below xs (x + 1) bound (let lt = All-head (λ x. x < bound) x xs all in omega (arith, lt)) (All-tail (λ x. x < bound) x xs all)

pub passed_after-push : (xs : List ℕ) (x low : ℕ) → passed_after low (xs ++ x ∷ []) ≡ x + 1
passed_after-push [] x low = refl
passed_after-push (y ∷ xs) x low = passed_after-push xs x (y + 1)

-- what some steps below a bound are among others
pub filter-map-steps : (bound : ℕ) (sent : List SentByte) → filter (λ step. nat_lt step bound) (steps_of sent) ≡ steps_of (before_step bound sent)
filter-map-steps bound [] = refl
filter-map-steps bound (byte ∷ sent) = grind (arith, filter-map-steps bound sent)

pub count-before : (bound : ℕ) (sent : List SentByte) → count_below bound (steps_of sent) ≡ length (before_step bound sent)
count-before bound sent = ap length (filter-map-steps bound sent) ∙ length-map (before_step bound sent) (λ (byte : SentByte). byte.step)

-- of output whose steps rise, what is below a bound comes first
none-below : (bound low high : ℕ) (sent : List SentByte) → bound ≤ low → Climbs low (steps_of sent) high → before_step bound sent ≡ []
none-below bound low high sent le climbs = nil_from_length (before_step bound sent) (sym (count-before bound sent) ∙ count_below-none (steps_of sent) low high bound le climbs)

pub record IsSplit (bound : ℕ) (sent : List SentByte) : Type 0 where
  pub rest : List SentByte
  pub joined : before_step bound sent ++ rest ≡ sent
  pub none : before_step bound rest ≡ []

split-by : (bound high : ℕ) (byte : SentByte) (sent : List SentByte) → Climbs (byte.step + 1) (steps_of sent) high → IsSplit bound sent → (b : Bool) → nat_lt byte.step bound ≡ b → IsSplit bound (byte ∷ sent)
split-by bound high byte sent climbs tail true is =
    record { rest = tail.rest; joined = ap (λ b. cond b (byte ∷ before_step bound sent) (before_step bound sent) ++ tail.rest) is ∙ ap (λ l. byte ∷ l) tail.joined; none = tail.none }
split-by bound high byte sent climbs tail false is =
    let from : bound ≤ byte.step = grind (arith, is) in
    let empty : before_step bound sent ≡ [] = none-below bound (byte.step + 1) high sent (omega arith) climbs in
    let here : before_step bound (byte ∷ sent) ≡ [] = ap (λ b. cond b (byte ∷ before_step bound sent) (before_step bound sent)) is ∙ empty in
    record { rest = byte ∷ sent; joined = ap (λ l. l ++ byte ∷ sent) here; none = here }

pub splits : (bound low high : ℕ) (sent : List SentByte) → Climbs low (steps_of sent) high → IsSplit bound sent
splits bound low high [] climbs = record { rest = []; joined = refl; none = refl }
splits bound low high (byte ∷ sent) climbs = split-by bound high byte sent climbs.1 (splits bound (byte.step + 1) high sent climbs.1) (nat_lt byte.step bound) refl

pub split_IsPrefix : (bound : ℕ) (sent : List SentByte) → IsSplit bound sent → IsPrefix (before_step bound sent) sent
split_IsPrefix bound sent split = record { rest = split.rest; joined = split.joined }

-- the bytes of output that are all below a bound
abbrev pub AllBelow : ℕ → List SentByte → Type 0
AllBelow bound sent = All (λ (byte : SentByte). byte.step < bound) sent

pub before-all : (bound : ℕ) (sent : List SentByte) → AllBelow bound sent → before_step bound sent ≡ sent
before-all bound sent all =
    filter-kept (λ byte. nat_lt byte.step bound) sent (recursion_from_All (λ (byte : SentByte). nat_lt byte.step bound ≡ true) sent (All-weaker (λ (byte : SentByte). byte.step < bound) (λ (byte : SentByte). nat_lt byte.step bound ≡ true) (λ byte lt. lt-ltb byte.step bound lt) sent all))

-- where the first so many are below a bound, what is below it are they, and then what is of the others
pub before-split : (bound k : ℕ) (sent : List SentByte) → AllBelow bound (take k sent) → before_step bound sent ≡ take k sent ++ before_step bound (drop k sent)
before-split bound k sent all =
    ap (before_step bound) (sym (take-append-drop k sent))
    ∙ filter-append (λ (byte : SentByte). nat_lt byte.step bound) (take k sent) (drop k sent)
    ∙ ap (λ l. l ++ before_step bound (drop k sent)) (before-all bound (take k sent) all)

-- they may be dropped first
pub before-drop : (bound k : ℕ) (sent : List SentByte) → k ≤ length sent → AllBelow bound (take k sent) → before_step bound (drop k sent) ≡ drop k (before_step bound sent)
before-drop bound k sent le all = sym (ap (drop k) (before-split bound k sent all) ∙ drop_at (take k sent) (before_step bound (drop k sent)) k (length-take-le k sent le))

pub before-long : (bound k : ℕ) (sent : List SentByte) → k ≤ length sent → AllBelow bound (take k sent) → k ≤ length (before_step bound sent)
before-long bound k sent le all = omega (arith, ap length (before-split bound k sent all), length-append (take k sent) (before_step bound (drop k sent)), length-take-le k sent le)

-- what is below two bounds is below the lesser
both-by : (first second : ℕ) (byte : SentByte) (sent : List SentByte) → before_step second (before_step first sent) ≡ before_step (min first second) sent → (b : Bool) → nat_lt byte.step first ≡ b
    → before_step second (before_step first (byte ∷ sent)) ≡ before_step (min first second) (byte ∷ sent)
both-by first second byte sent rest true is = grind (arith, is, rest)
both-by first second byte sent rest false is = grind (arith, is, rest)

pub before-both : (first second : ℕ) (sent : List SentByte) → before_step second (before_step first sent) ≡ before_step (min first second) sent
before-both first second [] = refl
before-both first second (byte ∷ sent) = both-by first second byte sent (before-both first second sent) (nat_lt byte.step first) refl
