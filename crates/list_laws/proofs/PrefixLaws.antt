-- Fronts of lists, joined and compared.
use Rattle.std.proofs.Common.{◌≡◌, ℕ, ◌≤◌, List, [], ◌∷◌, ◌++◌, length, take, drop, map, Some, arith, refl, sym, ◌∙◌, ap, append_assoc, append-nil, length-append, take-append-drop, ◌+◌}
use Rattle.std.specs.Prelude.{slice_get}
use Rattle.std.proofs.lemmas.List.{map-append, take-append-le, take_more}
use Rattle.std.proofs.lemmas.Option.{get_or_from_slice_get, slice_get_within}
use Rattle.list_laws.specs.Prefix.{IsPrefix}

-- a list is a prefix of itself
pub whole_IsPrefix : {X : Type 0} (xs : List X) → IsPrefix xs xs
whole_IsPrefix xs = record { rest = []; joined = append-nil xs }

-- the empty list is a prefix of each
pub empty_IsPrefix : {X : Type 0} (xs : List X) → IsPrefix [] xs
empty_IsPrefix xs = record { rest = xs; joined = refl }

-- the same list before both sides
pub IsPrefix-after : {X : Type 0} (before : List X) {front whole : List X} → IsPrefix front whole → IsPrefix (before ++ front) (before ++ whole)
IsPrefix-after before {front = front} p = record { rest = p.rest; joined = append_assoc before front p.rest ∙ ap (λ l. before ++ l) p.joined }

-- more after the whole
pub IsPrefix-more : {X : Type 0} {front whole : List X} (more : List X) → IsPrefix front whole → IsPrefix front (whole ++ more)
IsPrefix-more {front = front} more p = record { rest = p.rest ++ more; joined = sym (append_assoc front p.rest more) ∙ ap (λ l. l ++ more) p.joined }

-- a prefix of a prefix is a prefix
pub IsPrefix-trans : {X : Type 0} {a b c : List X} → IsPrefix a b → IsPrefix b c → IsPrefix a c
IsPrefix-trans {a = a} p q = record { rest = p.rest ++ q.rest; joined = sym (append_assoc a p.rest q.rest) ∙ ap (λ l. l ++ q.rest) p.joined ∙ q.joined }

-- the images of a prefix are a prefix of the images
pub IsPrefix-map : {X Y : Type 0} (f : X → Y) {front whole : List X} → IsPrefix front whole → IsPrefix (map f front) (map f whole)
IsPrefix-map f {front = front} p = record { rest = map f p.rest; joined = sym (map-append f front p.rest) ∙ ap (map f) p.joined }

-- the first so many of a list are a prefix of it
pub take_IsPrefix : {X : Type 0} (k : ℕ) (xs : List X) → IsPrefix (take k xs) xs
take_IsPrefix k xs = record { rest = drop k xs; joined = take-append-drop k xs }

-- a prefix is no longer than the whole
pub IsPrefix-length : {X : Type 0} (front whole : List X) → IsPrefix front whole → length front ≤ length whole
IsPrefix-length front whole p = omega (arith, ap length p.joined, length-append front p.rest)

-- a prefix and the whole have the same first ones
pub IsPrefix-take : {X : Type 0} (k : ℕ) (front whole : List X) → IsPrefix front whole → k ≤ length front → take k front ≡ take k whole
IsPrefix-take k front whole p le = sym (take-append-le k front p.rest le) ∙ ap (take k) p.joined

-- one item more of a list
pub take-next : {X : Type 0} (k : ℕ) (xs : List X) (x : X) → slice_get xs k ≡ Some x → take (k + 1) xs ≡ take k xs ++ x ∷ []
take-next k xs x is = take_more xs k x (slice_get_within xs k x is) ∙ ap (λ y. take k xs ++ y ∷ []) (get_or_from_slice_get xs k x x is)
