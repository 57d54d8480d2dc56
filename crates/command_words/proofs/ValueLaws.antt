-- How the values of options are read, a part at a time.
use Rattle.std.proofs.Common.{◌≡◌, ℕ, ◌<◌, ◌≤◌, nat_le, ◌==◌, Bool, true, false, if◌then◌else◌, option_map, List, [], ◌∷◌, ◌++◌, length, drop, Option, Some, None, refl, sym, ◌∙◌, ap, append_assoc, append-nil}
use Rattle.std.specs.List.{Contains}
use Rattle.std.proofs.lemmas.List.{drop_all}
use Rattle.std.proofs.lemmas.Bool.{false_from_ne_true, lt-leb, le-leb, and_right}
use Rattle.format_model.specs.ScriptReading.{cut}
use Rattle.run_events.specs.declared.finding.Kind.{Kind}
use Rattle.run_settings.specs.Kinds.{EachOnce, are_once}
use Rattle.run_settings.proofs.KindLaws.{tells_once, twice}
use Rattle.run_settings.specs.declared.letter.Letter.{Letter}
use Rattle.command_words.specs.Values.{◌>>=◌, kind_named, kinds_in, all_named, onto_first, parts_of, letters_in, letter_in, turns_in}

-- what is read of the rest, after what was read before it
abbrev pub behind : {X : Type 0} → List X → Option (List X) → Option (List X)
behind front None = None
behind front (Some later) = Some (front ++ later)

behind_more : {X : Type 0} (front : List X) (x : X) (later : Option (List X)) → behind front (later >>= λ others. Some (x ∷ others)) ≡ behind (front ++ x ∷ []) later
behind_more front x None = refl
behind_more front x (Some later) = ap Some (sym (append_assoc front (x ∷ []) later))

-- the parts of a text, from where it is cut
abbrev parted : List ℕ → Option (List ℕ × List ℕ) → List (List ℕ)
parted text None = text ∷ []
parted text (Some p) = p.0 ∷ parts_of p.1

longer : (b : ℕ) (bs : List ℕ) (o : Option (List ℕ × List ℕ)) → onto_first b (parted bs o) ≡ parted (b ∷ bs) (option_map (λ (p : List ℕ × List ℕ). (b ∷ p.0, p.1)) o)
longer b bs None = refl
longer b bs (Some p) = refl

cut_step : (at : Bool) (b : ℕ) (bs : List ℕ) (o : Option (List ℕ × List ℕ)) → parts_of bs ≡ parted bs o → (if at then [] ∷ parts_of bs else onto_first b (parts_of bs)) ≡ parted (b ∷ bs) (if at then Some ([], bs) else option_map (λ (p : List ℕ × List ℕ). (b ∷ p.0, p.1)) o)
cut_step true b bs o e = refl
cut_step false b bs o e = ap (onto_first b) e ∙ longer b bs o

pub parts_cut : (text : List ℕ) → parts_of text ≡ parted text (cut 44 text)
unfolding parts_of
parts_cut [] = refl
parts_cut (b ∷ bs) = cut_step (b == 44) b bs (cut 44 bs) (parts_cut bs)

-- names, one at a time
pub named_more : (front : List Kind) (kind : Kind) (name : List ℕ) (names : List (List ℕ)) → kind_named name ≡ Some kind → behind front (all_named (name ∷ names)) ≡ behind (front ++ kind ∷ []) (all_named names)
unfolding all_named
named_more front kind name names e = rw e (behind_more front kind (all_named names))

pub named_none : (front : List Kind) (name : List ℕ) (names : List (List ℕ)) → kind_named name ≡ None → behind front (all_named (name ∷ names)) ≡ None
unfolding all_named
named_none front name names e = rw e refl

pub kinds_unknown : (text : List ℕ) → all_named (parts_of text) ≡ None → kinds_in text ≡ None
unfolding kinds_in
kinds_unknown text e = rw e refl

pub kinds_twice : (text : List ℕ) (front : List Kind) (kind : Kind) (later : Option (List Kind)) → Contains front kind → all_named (parts_of text) ≡ behind (front ++ kind ∷ []) later → kinds_in text ≡ None
unfolding kinds_in
kinds_twice text front kind None there e = rw e refl
kinds_twice text front kind (Some later) there e =
    let again : are_once ((front ++ kind ∷ []) ++ later) ≡ false = false_from_ne_true _ (λ h. twice front kind later there ((tells_once ((front ++ kind ∷ []) ++ later)).0 h)) in
    rw (e, again) refl

pub kinds_all : (text : List ℕ) (front : List Kind) → EachOnce front → all_named (parts_of text) ≡ behind front (all_named []) → kinds_in text ≡ Some front
unfolding kinds_in all_named
kinds_all text front once e =
    let told : are_once front ≡ true = (tells_once front).1 once in
    rw (e, append-nil front, told) refl

-- letters, one at a time
pub letters_more : (front : List Letter) (first : Letter) (b : ℕ) (bs : List ℕ) → letter_in b ≡ Some first → behind front (letters_in (b ∷ bs)) ≡ behind (front ++ first ∷ []) (letters_in bs)
unfolding letters_in
letters_more front first b bs e = rw e (behind_more front first (letters_in bs))

pub letters_none : (front : List Letter) (b : ℕ) (bs : List ℕ) → letter_in b ≡ None → behind front (letters_in (b ∷ bs)) ≡ None
unfolding letters_in
letters_none front b bs e = rw e refl

pub letters_all : (text : List ℕ) (n : ℕ) (front : List Letter) → length text ≤ n → letters_in text ≡ behind front (letters_in (drop n text)) → letters_in text ≡ Some front
unfolding letters_in
letters_all text n front over e =
    let none : drop n text ≡ [] = drop_all n text over in
    e ∙ ap (λ (t : List ℕ). behind front (letters_in t)) none ∙ ap Some (append-nil front)

pub turns_short : (text : List ℕ) → length text ≡ 0 → turns_in text ≡ None
unfolding turns_in
turns_short text h = rw h refl

pub turns_long : (text : List ℕ) → 64 < length text → turns_in text ≡ None
unfolding turns_in
turns_long text h = rw (and_right (nat_le 1 (length text)) (nat_le (length text) 64) (lt-leb (length text) 64 h)) refl

pub turns_within : (text : List ℕ) → 0 < length text → length text ≤ 64 → turns_in text ≡ letters_in text
unfolding turns_in
turns_within text least most =
    let some : nat_le 1 (length text) ≡ true = le-leb 1 (length text) least in
    let few : nat_le (length text) 64 ≡ true = le-leb (length text) 64 most in
    rw (some, few) refl
