-- The entry of a name: where it is found, and what a change of it leaves.
use Rattle.std.proofs.Common.{◌≡◌, ◌≢◌, ℕ, suc, zero, ◌+◌, ◌-◌, ◌<◌, ◌≤◌, List, [], ◌∷◌, ◌++◌, length, get_or, set, Bool, true, false, Option, Some, None, is_some, take, not, unwrap_or, inl, inr, refl, sym, ◌∙◌, ap, subst, arith, cond, nat_lt}
use Rattle.std.specs.List.{position, position_or_len}
use Rattle.std.specs.Option.{option_map, option_and_then}
use Rattle.std.specs.Str.{bytes_eq}
use Rattle.std.proofs.lemmas.List.Quantifiers.{position-Some}
use Rattle.std.proofs.lemmas.Slice.Eq.{bytes_eq-Decides}
use Rattle.std.proofs.lemmas.List.{take_all}
use Rattle.std.proofs.lemmas.List.Folds.{find_at}
use Rattle.std.proofs.lemmas.Option.{slice_get_cases}
use Rattle.std.proofs.lemmas.Bool.{cond_below, not-true, ltb-false}
use Rattle.list_laws.proofs.OptionLaws.{none_from_is_some}
use Rattle.list_laws.proofs.PrefixLaws.{take_IsPrefix}
use Rattle.after_edge.specs.Files.{Contents, ChangesTold, Changes, IsBegun, MayBeBegun, IsAppended, MayBeAppended}
use Rattle.after_edge.specs.MemoryFiles.{Kept, is_named, entry_of, file_of, changed, changed_or_added, with_no_bytes, bytes_of, with_piece, passes_room, has_no_place, HasRoom}

-- the first entry that has the name stands at this place
record IsFirst (text : List ℕ) (entries : List Kept) (index : ℕ) (entry : Kept) : Type 0 where
  pub inside : index < length entries
  pub named : is_named text (get_or entries index entry) ≡ true
  pub before : (k : ℕ) → k < index → is_named text (get_or entries k entry) ≡ false

tail_IsFirst : (text : List ℕ) (x : Kept) (xs : List Kept) (i : ℕ) (entry : Kept) → IsFirst text (x ∷ xs) (suc i) entry → IsFirst text xs i entry
tail_IsFirst text x xs i entry first = record { inside = (let h = first.inside in omega arith); named = first.named; before = λ k h. first.before (suc k) (omega arith) }

changed-at : (change : Kept → Kept) (text : List ℕ) (entries : List Kept) (index : ℕ) (entry : Kept) → IsFirst text entries index entry → changed change text entries ≡ set entries index (change (get_or entries index entry))
changed-at change text [] index entry first = let h = first.inside in absurd (omega arith)
changed-at change text (x ∷ xs) zero entry first = rw first.named refl
changed-at change text (x ∷ xs) (suc i) entry first =
    let not_here : is_named text x ≡ false = first.before 0 (omega arith) in
    let rest = ap (λ l. x ∷ l) (changed-at change text xs i entry (tail_IsFirst text x xs i entry first)) in
    rw not_here rest

entry_of-at : (text : List ℕ) (entries : List Kept) (index : ℕ) (entry : Kept) → IsFirst text entries index entry → entry_of entries text ≡ Some (get_or entries index entry)
entry_of-at text [] index entry first = let h = first.inside in absurd (omega arith)
entry_of-at text (x ∷ xs) zero entry first = rw first.named refl
entry_of-at text (x ∷ xs) (suc i) entry first =
    let not_here : is_named text x ≡ false = first.before 0 (omega arith) in
    let rest = entry_of-at text xs i entry (tail_IsFirst text x xs i entry first) in
    rw not_here rest

first_at : (text : List ℕ) (entries : List Kept) (index : ℕ) (entry : Kept) → position (is_named text) entries ≡ Some index → IsFirst text entries index entry
first_at text entries index entry at =
    let p = position-Some (is_named text) entries index entry at in record { inside = p.0; named = p.1; before = p.2 }

-- a name that has no place has no entry
no_place : (place size : ℕ) → cond (nat_lt place size) (Some place) None ≡ None → place < size → ⊥
no_place place size at h = let some = cond_below place size (Some place) None h ∙ at in cc

entry_of-no_place : (text : List ℕ) (entries : List Kept) → position (is_named text) entries ≡ None → entry_of entries text ≡ None
entry_of-no_place text entries at =
    find_at (is_named text) entries ∙ elim (slice_get_cases entries (position_or_len (is_named text) entries)).1 [ inl found ↦ absurd (no_place _ _ at found.1) | inr none ↦ none.1 ]

missing_step : (b : Bool) (change : Kept → Kept) (x : Kept) (xs rest : List Kept) (found : Option Kept) → cond b (Some x) found ≡ None → (found ≡ None → rest ≡ xs) → cond b (change x ∷ xs) (x ∷ rest) ≡ x ∷ xs
missing_step true change x xs rest found none same = absurd (cc)
missing_step false change x xs rest found none same = ap (λ l. x ∷ l) (same none)

changed-missing : (change : Kept → Kept) (text : List ℕ) (entries : List Kept) → entry_of entries text ≡ None → changed change text entries ≡ entries
changed-missing change text [] none = refl
changed-missing change text (x ∷ xs) none = missing_step (is_named text x) change x xs (changed change text xs) (entry_of xs text) none (changed-missing change text xs)

-- a change that keeps the name
abbrev KeepsName : (Kept → Kept) → Type 0
KeepsName change = (entry : Kept) → (change entry).name ≡ entry.name

named_after : (change : Kept → Kept) → KeepsName change → (text : List ℕ) (x : Kept) → is_named text (change x) ≡ is_named text x
named_after change keeps text x = ap (λ n. bytes_eq n text) (keeps x)

module _ (change : Kept → Kept) (keeps : KeepsName change) (text : List ℕ) where
  here_step : (b : Bool) (x : Kept) (xs rest : List Kept) → is_named text x ≡ b → entry_of rest text ≡ option_map change (entry_of xs text) → entry_of (cond b (change x ∷ xs) (x ∷ rest)) text ≡ option_map change (cond b (Some x) (entry_of xs text))
  here_step true x xs rest is same = rw (named_after change keeps text x ∙ is) refl
  here_step false x xs rest is same = rw is same

  -- the entry of the name is the one before, changed
  entry_of-changed_here : (entries : List Kept) → entry_of (changed change text entries) text ≡ option_map change (entry_of entries text)
  entry_of-changed_here [] = refl
  entry_of-changed_here (x ∷ xs) = here_step (is_named text x) x xs (changed change text xs) refl (entry_of-changed_here xs)

  not_other : (other : List ℕ) → other ≢ text → (x : Kept) → is_named text x ≡ true → (b : Bool) → is_named other x ≡ b → b ≡ false
  not_other other differs x is true also = absurd (differs (sym ((bytes_eq-Decides x.name other).0 also) ∙ (bytes_eq-Decides x.name text).0 is))
  not_other other differs x is false also = refl

  other_step : (other : List ℕ) → other ≢ text → (b : Bool) (x : Kept) (xs rest : List Kept) → is_named text x ≡ b → entry_of rest other ≡ entry_of xs other → entry_of (cond b (change x ∷ xs) (x ∷ rest)) other ≡ entry_of (x ∷ xs) other
  other_step other differs true x xs rest is same =
      let not_it : is_named other x ≡ false = not_other other differs x is (is_named other x) refl in
      let nor_then : is_named other (change x) ≡ false = named_after change keeps other x ∙ not_it in
      rw (nor_then, not_it) refl
  other_step other differs false x xs rest is same = ap (λ found. cond (is_named other x) (Some x) found) same

  -- the entries of other names stay
  entry_of-changed_other : (other : List ℕ) → other ≢ text → (entries : List Kept) → entry_of (changed change text entries) other ≡ entry_of entries other
  entry_of-changed_other other differs [] = refl
  entry_of-changed_other other differs (x ∷ xs) = other_step other differs (is_named text x) x xs (changed change text xs) refl (entry_of-changed_other other differs xs)

-- what a change of contents is where they are told
Changes-told : (old new : Contents) (name : List ℕ) (change : Option (List ℕ) → Option (List ℕ) → Type 0) → ChangesTold old new name change → Changes (Some old) (Some new) name change
Changes-told old new name change told = record {
  untold = λ none. absurd (cc);
  told = λ was is.
      let same : old ≡ was = cc in
      let P : Contents → Type 0 = λ files. ChangesTold files new name change in
      (new, refl, subst P same told);
}

pub Changes-none : (content : Option Contents) (name : List ℕ) (change : Option (List ℕ) → Option (List ℕ) → Type 0) → ((was : Option (List ℕ)) → change was was) → Changes content content name change
Changes-none content name change same = record {
  untold = λ none. none;
  told = λ was is. (was, is, record { here = same (was name); others = λ other differs. refl });
}

others_stay : (change : Kept → Kept) → KeepsName change → (text : List ℕ) (entries : List Kept) (other : List ℕ) → other ≢ text → file_of (changed change text entries) other ≡ file_of entries other
others_stay change keeps text entries other differs = ap (λ found. option_and_then (λ (entry : Kept). entry.file) found) (entry_of-changed_other change keeps text other differs entries)

file_here : (change : Kept → Kept) → KeepsName change → (text : List ℕ) (entries : List Kept) (entry : Kept) → entry_of entries text ≡ Some entry → file_of (changed change text entries) text ≡ (change entry).file
file_here change keeps text entries entry found = ap (λ e. option_and_then (λ (kept : Kept). kept.file) e) (entry_of-changed_here change keeps text entries ∙ ap (λ e. option_map change e) found)

file_before : (text : List ℕ) (entries : List Kept) (entry : Kept) → entry_of entries text ≡ Some entry → file_of entries text ≡ entry.file
file_before text entries entry found = ap (λ e. option_and_then (λ (kept : Kept). kept.file) e) found

-- a begin of a name that has room
Changes-begun : (text : List ℕ) (entries : List Kept) (entry : Kept) → entry_of entries text ≡ Some entry → Changes (Some (file_of entries)) (Some (file_of (changed with_no_bytes text entries))) text IsBegun
Changes-begun text entries entry found = Changes-told _ _ text IsBegun (record { here = file_here with_no_bytes (λ e. refl) text entries entry found; others = others_stay with_no_bytes (λ e. refl) text entries })

-- an append of what fits, and of the part that fits
Changes-appended : (text piece : List ℕ) (entries : List Kept) (entry : Kept) → entry_of entries text ≡ Some entry → passes_room piece entry ≡ false → Changes (Some (file_of entries)) (Some (file_of (changed (with_piece piece) text entries))) text (IsAppended piece)
Changes-appended text piece entries entry found fits =
    let all = take_all (entry.room - length (bytes_of entry)) piece (omega (arith, ltb-false entry.room (length (bytes_of entry) + length piece) fits)) in
    let after = file_here (with_piece piece) (λ e. refl) text entries entry found in
    let before = ap (λ was. Some (unwrap_or was [] ++ piece)) (sym (file_before text entries entry found)) in
    Changes-told _ _ text (IsAppended piece) (record { here = after ∙ ap (λ l. Some (bytes_of entry ++ l)) all ∙ before; others = others_stay (with_piece piece) (λ e. refl) text entries })

Changes-part : (text piece : List ℕ) (entries : List Kept) (entry : Kept) → entry_of entries text ≡ Some entry → Changes (Some (file_of entries)) (Some (file_of (changed (with_piece piece) text entries))) text (MayBeAppended piece)
Changes-part text piece entries entry found =
    let part = take (entry.room - length (bytes_of entry)) piece in
    let after = file_here (with_piece piece) (λ e. refl) text entries entry found in
    let before = ap (λ was. Some (unwrap_or was [] ++ part)) (sym (file_before text entries entry found)) in
    Changes-told _ _ text (MayBeAppended piece) (record { here = inr (part, take_IsPrefix (entry.room - length (bytes_of entry)) piece, after ∙ before); others = others_stay (with_piece piece) (λ e. refl) text entries })

some_entry : (found : Option Kept) → is_some found ≡ true → (entry : Kept) × (found ≡ Some entry)
some_entry None is = absurd (cc)
some_entry (Some entry) is = (entry, refl)

placed_entry : (piece : List ℕ) (found : Option Kept) → not (has_no_place piece found) ≡ true → (entry : Kept) × (found ≡ Some entry) × (passes_room piece entry ≡ false)
placed_entry piece None is = absurd (cc)
placed_entry piece (Some entry) is = (entry, refl, not-true (passes_room piece entry) is)

append_step : (text piece : List ℕ) (entries : List Kept) (found : Option Kept) → entry_of entries text ≡ found → Changes (Some (file_of entries)) (Some (file_of (changed (with_piece piece) text entries))) text (MayBeAppended piece)
append_step text piece entries None is =
    let P : List Kept → Type 0 = λ es. Changes (Some (file_of entries)) (Some (file_of es)) text (MayBeAppended piece) in
    subst P (sym (changed-missing (with_piece piece) text entries is)) (Changes-none (Some (file_of entries)) text (MayBeAppended piece) (λ was. inl refl))
append_step text piece entries (Some entry) is = Changes-part text piece entries entry is

-- what the calls do to the files, as their answers tell
module _ (text : List ℕ) (before entries after : List Kept) (same : entries ≡ before) where
  pub begin-ok : after ≡ changed with_no_bytes text entries → is_some (entry_of entries text) ≡ true → Changes (Some (file_of before)) (Some (file_of after)) text IsBegun
  begin-ok is some =
      let entry = some_entry (entry_of entries text) some in
      let P : List Kept → List Kept → Type 0 = λ es fs. Changes (Some (file_of es)) (Some (file_of fs)) text IsBegun in
      subst (λ (es : List Kept). P es after) same (subst (P entries) (sym is) (Changes-begun text entries entry.0 entry.1))

  pub begin-err : after ≡ changed with_no_bytes text entries → is_some (entry_of entries text) ≡ false → Changes (Some (file_of before)) (Some (file_of after)) text MayBeBegun
  begin-err is none =
      let unchanged = changed-missing with_no_bytes text entries (none_from_is_some (entry_of entries text) none) in
      let P : List Kept → Type 0 = λ es. Changes (Some (file_of before)) (Some (file_of es)) text MayBeBegun in
      subst P (sym (is ∙ unchanged ∙ same)) (Changes-none (Some (file_of before)) text MayBeBegun (λ was. inl refl))

  pub append-ok : (piece : List ℕ) → after ≡ changed (with_piece piece) text entries → not (has_no_place piece (entry_of entries text)) ≡ true → Changes (Some (file_of before)) (Some (file_of after)) text (IsAppended piece)
  append-ok piece is fits =
      let entry = placed_entry piece (entry_of entries text) fits in
      let P : List Kept → List Kept → Type 0 = λ es fs. Changes (Some (file_of es)) (Some (file_of fs)) text (IsAppended piece) in
      subst (λ (es : List Kept). P es after) same (subst (P entries) (sym is) (Changes-appended text piece entries entry.0 entry.1 entry.2))

  pub append-err : (piece : List ℕ) → after ≡ changed (with_piece piece) text entries → Changes (Some (file_of before)) (Some (file_of after)) text (MayBeAppended piece)
  append-err piece is =
      let P : List Kept → List Kept → Type 0 = λ es fs. Changes (Some (file_of es)) (Some (file_of fs)) text (MayBeAppended piece) in
      subst (λ (es : List Kept). P es after) same (subst (P entries) (sym is) (append_step text piece entries (entry_of entries text) refl))

-- where a search for the name ended: its entry, and what a write there and a new entry after the others make
module _ (text : List ℕ) (entries slice : List Kept) (same : slice ≡ entries) where
  at_entries : {found : Option ℕ} → found ≡ position (is_named text) slice → position (is_named text) entries ≡ found
  at_entries at = ap (λ l. position (is_named text) l) (sym same) ∙ sym at

  pub entry_of-found : (index : ℕ) (entry : Kept) → Some index ≡ position (is_named text) slice → entry ≡ get_or entries index entry → entry_of entries text ≡ Some entry
  entry_of-found index entry at is = entry_of-at text entries index entry (first_at text entries index entry (at_entries at)) ∙ ap Some (sym is)

  pub entry_of-missed : None ≡ position (is_named text) slice → entry_of entries text ≡ None
  entry_of-missed at = entry_of-no_place text entries (at_entries at)

  pub room-found : (bytes index : ℕ) (entry : Kept) → Some index ≡ position (is_named text) slice → entry ≡ get_or entries index entry → HasRoom (entry_of entries text) bytes → bytes ≤ entry.room
  room-found bytes index entry at is room = let P : Option Kept → Type 0 = λ found. HasRoom found bytes in subst P (entry_of-found index entry at is) room

  pub room-missed : (bytes : ℕ) → None ≡ position (is_named text) slice → HasRoom (entry_of entries text) bytes → ⊥
  room-missed bytes at room = let P : Option Kept → Type 0 = λ found. HasRoom found bytes in subst P (entry_of-missed at) room

  pub changed-found : (change : Kept → Kept) (index : ℕ) (entry after : Kept) → Some index ≡ position (is_named text) slice → entry ≡ get_or entries index entry → after ≡ change entry → set entries index after ≡ changed change text entries
  changed-found change index entry after at is then =
      ap (λ e. set entries index e) (then ∙ ap change is) ∙ sym (changed-at change text entries index entry (first_at text entries index entry (at_entries at)))

  pub changed-missed : (change : Kept → Kept) → None ≡ position (is_named text) slice → entries ≡ changed change text entries
  changed-missed change at = sym (changed-missing change text entries (entry_of-missed at))

  pub changed_or_added-found : (change : Kept → Kept) (fresh : Kept) (index : ℕ) (entry after : Kept) → Some index ≡ position (is_named text) slice → entry ≡ get_or entries index entry → after ≡ change entry → set entries index after ≡ changed_or_added change fresh text entries
  changed_or_added-found change fresh index entry after at is then =
      changed-found change index entry after at is then ∙ sym (ap (λ e. cond (is_some e) (changed change text entries) (entries ++ fresh ∷ [])) (entry_of-found index entry at is))

  pub changed_or_added-missed : (change : Kept → Kept) (fresh added : Kept) (after : List Kept) → None ≡ position (is_named text) slice → added ≡ fresh → after ≡ entries ++ added ∷ [] → after ≡ changed_or_added change fresh text entries
  changed_or_added-missed change fresh added after at is then =
      then ∙ ap (λ e. entries ++ e ∷ []) is ∙ sym (ap (λ e. cond (is_some e) (changed change text entries) (entries ++ fresh ∷ [])) (entry_of-missed at))
