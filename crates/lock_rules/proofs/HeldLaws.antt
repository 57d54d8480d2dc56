-- Who holds which lock, with one event more.
use Rattle.std.proofs.Common.{◌≡◌, ℕ, zero, suc, ◌<◌, ◌==◌, nat_lt, Bool, true, false, not, ◌&&◌, ◌||◌, cond, List, [], ◌∷◌, ◌++◌, length, map, get_or, Option, None, Some, unwrap_or, refl, sym, ap, ◌∙◌, arith, inl, inr, length-append}
use Rattle.std.specs.List.{AllByRecursion}
use Rattle.std.proofs.lemmas.Bool.{cases_eq}
use Rattle.std.proofs.lemmas.Bool.Decides.{nat_tests}
use Rattle.std.proofs.lemmas.List.{length-map}
use Rattle.run_events.specs.declared.announcement.Announcement.{Announcement}
use Rattle.run_events.specs.declared.announcement.Announcement.TheVariants.{Allocate, Free, Acquire, Release, Enter, Check, Guard}
use Rattle.run_events.specs.declared.event.Event.{Event}
use Rattle.run_events.specs.Announcement.{announced}
use Rattle.analysis_model.specs.Context.{context_after}
use Rattle.analysis_model.specs.Locks.{named, named_by, counted, has_lock, is_held_by, acquire_by, bad_release, lock_by, holder_by, holder_after, locks_kept}
use Rattle.lock_rules.specs.declared.lock.Lock.{Lock}
use Rattle.lock_rules.specs.Entries.{numbers, holder_of, holder_at, with_holder}
use Rattle.lock_rules.specs.State.{AreHeld, known_with, held_after}
use Rattle.lock_rules.proofs.CountedLaws.{counted_with, counted-more}

pub All-append : {A : Type 0} (P : A → Type 0) (xs ys : List A) → AllByRecursion P xs → AllByRecursion P ys → AllByRecursion P (xs ++ ys)
All-append P [] ys a b = b
All-append P (x ∷ xs) ys a b = (a.0, All-append P xs ys a.1 b)

clash : true ≡ false → ⊥
clash e = cc

-- a name is of another lock
abbrev IsApart : Option ℕ → ℕ → Type 0
IsApart None number = Unit {0}
IsApart (Some name) number = (name == number) ≡ false

-- what leaves a lock unnamed has named another
record StillNew (bound : ℕ) (known : List ℕ) (name : Option ℕ) (number : ℕ) : Type 0 where
  pub room : length known < bound
  pub unknown : has_lock known number ≡ false
  pub apart : IsApart name number

has_lock-last : (known : List ℕ) (name number : ℕ) → has_lock (known ++ name ∷ []) number ≡ (has_lock known number || (name == number))
has_lock-last [] name number = or_false (name == number)
  where
    or_false : (b : Bool) → (b || false) ≡ b
    or_false true = refl
    or_false false = refl
has_lock-last (x ∷ known) name number = or_move (x == number) _ (has_lock known number) (name == number) (has_lock-last known name number)
  where
    or_move : (a b c d : Bool) → b ≡ (c || d) → (a || b) ≡ ((a || c) || d)
    or_move true b c d e = refl
    or_move false b c d e = e

still-new : (bound : ℕ) (known : List ℕ) (name : Option ℕ) (number : ℕ) → length (counted_with bound known name) < bound → has_lock (counted_with bound known name) number ≡ false → StillNew bound known name number
still-new bound known None number room none = record { room = room; unknown = none; apart = tt }
still-new bound known (Some name) number room none = by_case (has_lock known name) (nat_lt (length known) bound) refl refl room none
  where
    other : has_lock known name ≡ true → has_lock known number ≡ false → (name == number) ≡ false
    other has without =
        elim (cases_eq name number) [
          | inl same ↦ absurd (clash (sym has ∙ ap (has_lock known) same ∙ without))
          | inr apart ↦ grind (arith, nat_tests)
        ]

    first_false : (a b : Bool) → (a || b) ≡ false → a ≡ false
    first_false false b e = refl
    first_false true b e = absurd (clash e)

    last_false : (a b : Bool) → (a || b) ≡ false → b ≡ false
    last_false false b e = e
    last_false true b e = absurd (clash e)

    by_case : (a b : Bool) → has_lock known name ≡ a → nat_lt (length known) bound ≡ b → length (cond a known (cond b (known ++ name ∷ []) known)) < bound → has_lock (cond a known (cond b (known ++ name ∷ []) known)) number ≡ false → StillNew bound known (Some name) number
    by_case true b has test small without = record { room = small; unknown = without; apart = other has without }
    by_case false true has test small without =
        let both = sym (has_lock-last known name number) ∙ without in
        record {
          room = omega (arith, length-append known (name ∷ []), small);
          unknown = first_false (has_lock known number) (name == number) both;
          apart = last_false (has_lock known number) (name == number) both;
        }
    by_case false false has test small without = absurd (clash (let yes : nat_lt (length known) bound ≡ true = grind (arith, nat_tests, small) in sym yes ∙ test))

-- an announcement of another lock changes nothing of this one
holder_by-apart : (told : Option Announcement) (number context : ℕ) → IsApart (named_by told) number → holder_by told number context ≡ None
holder_by-apart None number context apart = refl
holder_by-apart (Some (Allocate start size)) number context apart = refl
holder_by-apart (Some (Free start size)) number context apart = refl
holder_by-apart (Some (Acquire lock)) number context apart = rw apart refl
holder_by-apart (Some (Release lock)) number context apart = rw apart refl
holder_by-apart (Some (Enter entered)) number context apart = refl
holder_by-apart (Some (Check start size)) number context apart = refl
holder_by-apart (Some (Guard start size lock)) number context apart = refl

-- a lock that was never named is not held
unnamed : (bound : ℕ) (before : List Event) (number : ℕ) → length (counted bound before) < bound → has_lock (counted bound before) number ≡ false → holder_after before number ≡ None
unnamed bound [] number room none = refl
unnamed bound (last ∷ before) number room none =
    let more = counted-more bound last before in
    let small : length (counted_with bound (counted bound before) (named last)) < bound = rw (← more) room in
    let new = still-new bound (counted bound before) (named last) number small (sym (ap (λ l. has_lock l number) more) ∙ none) in
    ap (λ o. unwrap_or o (holder_after before number)) (holder_by-apart (announced last) number (context_after before) new.apart) ∙ unnamed bound before number new.room new.unknown

-- one name more
pub held-known : (entries : List Lock) (before : List Event) (name : Option ℕ) → numbers entries ≡ counted locks_kept before → AreHeld entries before → AreHeld (known_with entries name) before
held-known entries before None known held = held
held-known entries before (Some number) known held = by_case (has_lock (numbers entries) number) (nat_lt (length entries) locks_kept) refl refl
  where
    by_case : (a b : Bool) → has_lock (numbers entries) number ≡ a → nat_lt (length entries) locks_kept ≡ b → AreHeld (cond a entries (cond b (entries ++ record { number = number; holder = None } ∷ []) entries)) before
    by_case true b has test = held
    by_case false false has test = held
    by_case false true has test =
        let room : length entries < locks_kept = grind (arith, nat_tests, test) in
        let long : length (counted locks_kept before) ≡ length entries = ap length (sym known) ∙ length-map entries (λ lock. lock.number) in
        let free = unnamed locks_kept before number (omega arith) (sym (ap (λ l. has_lock l number) known) ∙ has) in
        All-append (λ (lock : Lock). lock.holder ≡ holder_after before lock.number) entries (record { number = number; holder = None } ∷ []) held (sym free, tt)

-- each lock has the holder that an announcement leaves it
abbrev pub AreHeldNow : ℕ → Option Announcement → List Lock → List Event → Type 0
AreHeldNow context told entries before = AllByRecursion (λ lock. lock.holder ≡ unwrap_or (holder_by told lock.number context) (holder_after before lock.number)) entries

held-map : (context : ℕ) (told : Option Announcement) (number : ℕ) (holder : Option ℕ) (before : List Event) → ((n : ℕ) → holder_by told n context ≡ cond (number == n) (Some holder) None) → (entries : List Lock) → AreHeld entries before → AreHeldNow context told (map (with_holder number holder) entries) before
held-map context told number holder before by [] held = tt
held-map context told number holder before by (lock ∷ entries) held = (here (number == lock.number) ∙ ap (λ o. unwrap_or o (holder_after before lock.number)) (sym (by lock.number)), held-map context told number holder before by entries held.1)
  where
    here : (b : Bool) → cond b holder lock.holder ≡ unwrap_or (cond b (Some holder) None) (holder_after before lock.number)
    here true = refl
    here false = held.0

pub held-after : (context : ℕ) (told : Option Announcement) (entries : List Lock) (before : List Event) → AreHeld entries before → AreHeldNow context told (held_after context told entries) before
held-after context None entries before held = held
held-after context (Some (Allocate start size)) entries before held = held
held-after context (Some (Free start size)) entries before held = held
held-after context (Some (Acquire lock)) entries before held = held-map context (Some (Acquire lock)) lock (Some context) before (λ n. refl) entries held
held-after context (Some (Release lock)) entries before held = held-map context (Some (Release lock)) lock None before (λ n. refl) entries held
held-after context (Some (Enter entered)) entries before held = held
held-after context (Some (Check start size)) entries before held = held
held-after context (Some (Guard start size lock)) entries before held = held

-- it changes no number
numbers-map : (number : ℕ) (holder : Option ℕ) (entries : List Lock) → numbers (map (with_holder number holder) entries) ≡ numbers entries
numbers-map number holder [] = refl
numbers-map number holder (entry ∷ entries) = ap (λ l. entry.number ∷ l) (numbers-map number holder entries)

pub numbers-held : (context : ℕ) (told : Option Announcement) (entries : List Lock) → numbers (held_after context told entries) ≡ numbers entries
numbers-held context None entries = refl
numbers-held context (Some (Allocate start size)) entries = refl
numbers-held context (Some (Free start size)) entries = refl
numbers-held context (Some (Acquire lock)) entries = numbers-map lock (Some context) entries
numbers-held context (Some (Release lock)) entries = numbers-map lock None entries
numbers-held context (Some (Enter entered)) entries = refl
numbers-held context (Some (Check start size)) entries = refl
numbers-held context (Some (Guard start size lock)) entries = refl

-- the holder of a lock that counts, by its number and by its place
pub held-of : (entries : List Lock) (before : List Event) → AreHeld entries before → (number : ℕ) → has_lock (numbers entries) number ≡ true → holder_of entries number ≡ holder_after before number
held-of [] before held number has = absurd (let none : false ≡ true = has in cc)
held-of (lock ∷ entries) before held number has =
    elim (cases_eq lock.number number) [
      | inl same ↦
          let test : (lock.number == number) ≡ true = grind (arith, nat_tests) in
          rw test (held.0 ∙ ap (holder_after before) same)
      | inr apart ↦
          let test : (lock.number == number) ≡ false = grind (arith, nat_tests) in
          rw test (held-of entries before held.1 number (sym (ap (λ b. b || has_lock (numbers entries) number) test) ∙ has))
    ]

pub held-at : (entries : List Lock) (before : List Event) → AreHeld entries before → (place : ℕ) → place < length entries → holder_at entries place ≡ holder_after before (get_or (numbers entries) place 0)
held-at [] before held place room = absurd (omega arith)
held-at (lock ∷ entries) before held zero room = held.0
held-at (lock ∷ entries) before held (suc place) room = held-at entries before held.1 place (omega arith)

-- complaints agree where the holders of counted locks do
pub lock_by-same : (counts : ℕ → Bool) (context : ℕ) (f g : ℕ → Option ℕ) → ((number : ℕ) → counts number ≡ true → f number ≡ g number) → (told : Option Announcement) → lock_by counts context f told ≡ lock_by counts context g told
lock_by-same counts context f g same None = refl
lock_by-same counts context f g same (Some (Allocate start size)) = refl
lock_by-same counts context f g same (Some (Free start size)) = refl
lock_by-same counts context f g same (Some (Acquire lock)) = by_case (counts lock) refl
  where
    by_case : (b : Bool) → counts lock ≡ b → cond b (acquire_by (f lock) lock) None ≡ cond b (acquire_by (g lock) lock) None
    by_case true is = ap (λ h. acquire_by h lock) (same lock is)
    by_case false is = refl
lock_by-same counts context f g same (Some (Release lock)) = by_case (counts lock) refl
  where
    by_case : (b : Bool) → counts lock ≡ b → cond (b && not (is_held_by (f lock) context)) (Some (bad_release lock)) None ≡ cond (b && not (is_held_by (g lock) context)) (Some (bad_release lock)) None
    by_case true is = ap (λ h. cond (not (is_held_by h context)) (Some (bad_release lock)) None) (same lock is)
    by_case false is = refl
lock_by-same counts context f g same (Some (Enter entered)) = refl
lock_by-same counts context f g same (Some (Check start size)) = refl
lock_by-same counts context f g same (Some (Guard start size lock)) = refl
