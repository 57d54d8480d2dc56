-- A sink that is given one line for each item of a list.
use Rattle.std.proofs.Common.{◌≡◌, ℕ, ◌+◌, ◌<◌, ◌≤◌, List, [], ◌∷◌, ◌++◌, length, get_or, take, drop, Some, sym, ◌∙◌, ap, append-nil, subst, take_all}
use Rattle.std.specs.List.{flat_map, slice_get}
use Rattle.std.proofs.lemmas.List.{take_more, take-append-drop, get_or-take}
use Rattle.std.proofs.lemmas.Option.{get_or_from_slice_get}
use Rattle.std.proofs.lemmas.List.Concat.{flat_map-append}
use Rattle.list_laws.specs.Prefix.{IsPrefix}
use Rattle.after_edge.specs.Sink.{Telling, Writes, WritesPart}
use Rattle.after_edge.proofs.SinkLaws.{Writes-then, Writes-same, WritesPart-then, WritesPart-same, WritesPart-prefix}

-- the lines of one item more
lines-more : {X : Type 0} (f : X → List ℕ) (xs : List X) (i : ℕ) (d : X) → i < length xs → flat_map f (take i xs) ++ f (get_or xs i d) ≡ flat_map f (take (i + 1) xs)
lines-more f xs i d h =
    sym (ap (λ l. flat_map f l) (take_more xs i d h) ∙ flat_map-append f (take i xs) (get_or xs i d ∷ []) ∙ ap (λ l. flat_map f (take i xs) ++ l) (append-nil (f (get_or xs i d))))

-- the lines of the first items begin those of all
lines-prefix : {X : Type 0} (f : X → List ℕ) (xs : List X) (i : ℕ) → IsPrefix (flat_map f (take i xs)) (flat_map f xs)
lines-prefix f xs i = record {
  rest = flat_map f (drop i xs);
  joined = sym (flat_map-append f (take i xs) (drop i xs)) ∙ ap (λ l. flat_map f l) (take-append-drop i xs);
}

-- the next line was added
pub Writes-next : {X S : Type 0} (sink : Telling S) (a b c : S) (f : X → List ℕ) (xs : List X) (i : ℕ) (d : X) (piece : List ℕ) → i < length xs → piece ≡ f (get_or xs i d)
    → Writes sink a b (flat_map f (take i xs)) → Writes sink b c piece → Writes sink a c (flat_map f (take (i + 1) xs))
Writes-next sink a b c f xs i d piece h is first second = Writes-same sink a c (lines-more f xs i d h) (Writes-then sink a b c _ _ first (Writes-same sink b c is second))

-- all lines were added
pub Writes-all : {X S : Type 0} (sink : Telling S) (a b : S) (f : X → List ℕ) (xs : List X) (i : ℕ) → length xs ≤ i
    → Writes sink a b (flat_map f (take i xs)) → Writes sink a b (flat_map f xs)
Writes-all sink a b f xs i h added = Writes-same sink a b (ap (λ l. flat_map f l) (take_all i xs h)) added

-- a part of the next line was added: a part of all
pub WritesPart-next : {X S : Type 0} (sink : Telling S) (a b c : S) (f : X → List ℕ) (xs : List X) (i : ℕ) (d : X) (piece : List ℕ) → i < length xs → piece ≡ f (get_or xs i d)
    → Writes sink a b (flat_map f (take i xs)) → WritesPart sink b c piece → WritesPart sink a c (flat_map f xs)
WritesPart-next sink a b c f xs i d piece h is first second =
    let P : List ℕ → Type 0 = λ l. IsPrefix l (flat_map f xs) in
    let begins = subst P (sym (lines-more f xs i d h)) (lines-prefix f xs (i + 1)) in
    WritesPart-prefix sink a c _ _ begins (WritesPart-then sink a b c _ _ first (WritesPart-same sink b c is second))

-- an element of a list's prefix
pub shown : {X : Type 0} (xs : List X) (n i : ℕ) (d x : X) → i < n → slice_get xs i ≡ Some x → get_or (take n xs) i d ≡ x
shown xs n i d x h e = get_or-take n xs i d h ∙ get_or_from_slice_get xs i x d e
