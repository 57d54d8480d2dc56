-- The test of a pattern, and the plain pattern.
use Rattle.std.proofs.Common.{◌≡◌, ◌↔◌, ℕ, zero, suc, ◌+◌, ◌<◌, ◌≤◌, Bool, true, false, ◌&&◌, ◌||◌, IsTrue, nat_lt, List, [], ◌∷◌, ◌++◌, length, inl, inr, refl, arith, ◌∙◌, ap, subst, length-append}
use Rattle.std.specs.List.{All, Contains, list_all, list_any}
use Rattle.std.proofs.lemmas.Bool.{eqb-true, eq-eqb, ltb-true, lt-ltb, cases_lt, cases_Bool, and_parts, and_from, and_left, and_right, or_left, or_right}
use Rattle.std.proofs.lemmas.List.Elements.{All-nil, All-cons, All-head, All-tail, All-append, All-push, Contains-append_left, Contains-append_right, Contains-append_cases, Contains-push, Contains-push_cases}
use Rattle.run_settings.specs.declared.letter.Letter.{Letter}
use Rattle.run_settings.specs.declared.letter.Letter.TheVariants.{Record, Read, Release}
use Rattle.run_settings.specs.Patterns.{IsLetter, IsPattern, is_letter, is_record, is_release, is_read, has_reads, is_pattern, reads_below, plain_turns}

first_there : (letter : Letter) (turns : List Letter) → Contains (letter ∷ turns) letter
first_there letter turns = (0, omega arith, refl)

-- what a test finds that only one letter passes
there : (test : Letter → Bool) (letter : Letter) → ((l : Letter) → test l ≡ true → l ≡ letter) → (turns : List Letter) → list_any test turns ≡ true → Contains turns letter
there test letter only [] found = absurd (let h : false ≡ true = found in cc)
there test letter only (l ∷ turns) found =
    elim (cases_Bool (test l)) [
      | inl e ↦ subst (λ (x : Letter). Contains (l ∷ turns) x) (only l e) (first_there l turns)
      | inr e ↦ Contains-append_right (l ∷ []) turns letter (there test letter only turns (let h : (false || list_any test turns) ≡ true = rw e at found in h))
    ]

-- and the other way
found : (test : Letter → Bool) (letter : Letter) → test letter ≡ true → (turns : List Letter) → Contains turns letter → list_any test turns ≡ true
found test letter passes [] at = absurd (let h : at.0 < 0 = at.1 in omega arith)
found test letter passes (l ∷ turns) at =
    elim (Contains-append_cases (l ∷ []) turns letter at) [
      | inl here ↦ elim (Contains-push_cases [] l letter here) [
        | inl none ↦ absurd (let h : none.0 < 0 = none.1 in omega arith)
        | inr e ↦ or_left (test l) (list_any test turns) (ap test e ∙ passes)
      ]
      | inr later ↦ or_right (test l) (list_any test turns) (found test letter passes turns later)
    ]

record_only : (l : Letter) → is_record l ≡ true → l ≡ Record
record_only Record e = refl
record_only (Read reader) e = absurd (let h : false ≡ true = e in cc)
record_only Release e = absurd (let h : false ≡ true = e in cc)

release_only : (l : Letter) → is_release l ≡ true → l ≡ Release
release_only Record e = absurd (let h : false ≡ true = e in cc)
release_only (Read reader) e = absurd (let h : false ≡ true = e in cc)
release_only Release e = refl

read_only : (reader : ℕ) (l : Letter) → is_read reader l ≡ true → l ≡ Read reader
read_only reader Record e = absurd (let h : false ≡ true = e in cc)
read_only reader (Read other) e = ap Read (eqb-true other reader e)
read_only reader Release e = absurd (let h : false ≡ true = e in cc)

-- a follower that has no turn
pub reads_missing : (readers reader : ℕ) (turns : List Letter) → reader < readers → list_any (is_read reader) turns ≡ false → has_reads readers turns ≡ false
reads_missing zero reader turns below missing = absurd (omega arith)
reads_missing (suc readers) reader turns below missing =
    elim (cases_lt reader readers) [
      | inl lower ↦ and_left _ _ (reads_missing readers reader turns lower missing)
      | inr higher ↦ let e : reader ≡ readers = omega arith in and_right _ _ (subst (λ (r : ℕ). list_any (is_read r) turns ≡ false) e missing)
    ]

letters_found : (readers : ℕ) (turns : List Letter) → list_all (is_letter readers) turns ≡ true → All (IsLetter readers) turns
letters_found readers [] h = All-nil (IsLetter readers)
letters_found readers (Record ∷ turns) h = All-cons (IsLetter readers) Record turns tt (letters_found readers turns h)
letters_found readers (Release ∷ turns) h = All-cons (IsLetter readers) Release turns tt (letters_found readers turns h)
letters_found readers (Read r ∷ turns) h =
    let parts = and_parts (nat_lt r readers) (list_all (is_letter readers) turns) h in
    All-cons (IsLetter readers) (Read r) turns (ltb-true r readers parts.0) (letters_found readers turns parts.1)

letters_told : (readers : ℕ) (turns : List Letter) → All (IsLetter readers) turns → list_all (is_letter readers) turns ≡ true
letters_told readers [] h = refl
letters_told readers (Record ∷ turns) h = letters_told readers turns (All-tail (IsLetter readers) Record turns h)
letters_told readers (Release ∷ turns) h = letters_told readers turns (All-tail (IsLetter readers) Release turns h)
letters_told readers (Read r ∷ turns) h =
    let first : r < readers = All-head (IsLetter readers) (Read r) turns h in
    and_from (nat_lt r readers) (list_all (is_letter readers) turns) (lt-ltb r readers first) (letters_told readers turns (All-tail (IsLetter readers) (Read r) turns h))

reads_found : (readers : ℕ) (turns : List Letter) → has_reads readers turns ≡ true → (reader : ℕ) → reader < readers → Contains turns (Read reader)
reads_found zero turns h reader below = absurd (omega arith)
reads_found (suc n) turns h reader below =
    let parts = and_parts (has_reads n turns) (list_any (is_read n) turns) h in
    elim (cases_lt reader n) [
      | inl lower ↦ reads_found n turns parts.0 reader lower
      | inr higher ↦ let e : n ≡ reader = omega arith in subst (λ (r : ℕ). Contains turns (Read r)) e (there (is_read n) (Read n) (read_only n) turns parts.1)
    ]

reads_told : (readers : ℕ) (turns : List Letter) → ((reader : ℕ) → reader < readers → Contains turns (Read reader)) → has_reads readers turns ≡ true
reads_told zero turns h = refl
reads_told (suc n) turns h = and_from (has_reads n turns) (list_any (is_read n) turns) (reads_told n turns (λ r below. h r (omega arith))) (found (is_read n) (Read n) (eq-eqb n n refl) turns (h n (omega arith)))

-- the test is the definition
pub tells_pattern : (readers : ℕ) (turns : List Letter) → IsTrue (is_pattern readers turns) ↔ IsPattern readers turns
unfolding is_pattern
tells_pattern readers turns = (
  (λ h.
      let whole = and_parts (list_all (is_letter readers) turns && list_any is_record turns && has_reads readers turns) (list_any is_release turns) h in
      let front = and_parts (list_all (is_letter readers) turns && list_any is_record turns) (has_reads readers turns) whole.0 in
      let first = and_parts (list_all (is_letter readers) turns) (list_any is_record turns) front.0 in
      record {
        letters = letters_found readers turns first.0;
        records = there is_record Record record_only turns first.1;
        reads = reads_found readers turns front.1;
        releases = there is_release Release release_only turns whole.1;
      }),
  (λ p.
      and_from _ _ (and_from _ _ (and_from _ _ (letters_told readers turns p.letters) (found is_record Record refl turns p.records)) (reads_told readers turns p.reads)) (found is_release Release refl turns p.releases)),
)

reads_letters : (readers n : ℕ) → n ≤ readers → All (IsLetter readers) (reads_below n)
unfolding reads_below
reads_letters readers zero h = All-nil (IsLetter readers)
reads_letters readers (suc n) h = All-push (IsLetter readers) (reads_below n) (Read n) (reads_letters readers n (omega arith)) (omega arith)

reads_there : (n reader : ℕ) → reader < n → Contains (reads_below n) (Read reader)
unfolding reads_below
reads_there zero reader h = absurd (omega arith)
reads_there (suc n) reader h =
    elim (cases_lt reader n) [
      | inl lower ↦ Contains-append_left (reads_below n) (Read n ∷ []) (Read reader) (reads_there n reader lower)
      | inr higher ↦ let e : n ≡ reader = omega arith in subst (λ (r : ℕ). Contains (reads_below n ++ Read n ∷ []) (Read r)) e (Contains-push (reads_below n) (Read n))
    ]

pub length-reads : (n : ℕ) → length (reads_below n) ≡ n
unfolding reads_below
length-reads zero = refl
length-reads (suc n) = omega (arith, length-append (reads_below n) (Read n ∷ []), length-reads n)

-- one follower more
pub reads_more : (n : ℕ) → reads_below (n + 1) ≡ reads_below n ++ Read n ∷ []
unfolding reads_below
reads_more n = let e : n + 1 ≡ suc n = omega arith in ap reads_below e

pub plain_pattern : (readers : ℕ) → IsPattern readers (plain_turns readers)
plain_pattern readers = record {
  letters = All-append (IsLetter readers) (Record ∷ reads_below readers) (Release ∷ []) (All-cons (IsLetter readers) Record (reads_below readers) (tt {_}) (reads_letters readers readers (omega arith))) (All-cons (IsLetter readers) Release [] (tt {_}) (All-nil (IsLetter readers)));
  records = first_there Record (reads_below readers ++ Release ∷ []);
  reads = λ reader below. Contains-append_left (Record ∷ reads_below readers) (Release ∷ []) (Read reader) (Contains-append_right (Record ∷ []) (reads_below readers) (Read reader) (reads_there readers reader below));
  releases = Contains-push (Record ∷ reads_below readers) Release;
}
