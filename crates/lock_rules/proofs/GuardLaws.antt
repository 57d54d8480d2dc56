-- The guarded ranges, with one event more.
use Rattle.std.proofs.Common.{◌≡◌, ℕ, suc, ◌+◌, ◌<◌, ◌≤◌, ◌==◌, nat_lt, Bool, true, false, not, ◌&&◌, ◌||◌, cond, List, [], ◌∷◌, ◌++◌, length, map, take, get_or, Option, None, Some, refl, sym, ap, ◌∙◌, arith, inl, inr, append-nil, length-append}
use Rattle.std.specs.List.{AllByRecursion, cons_option, position_from}
use Rattle.std.proofs.lemmas.Bool.{cases_eq}
use Rattle.std.proofs.lemmas.Bool.Decides.{nat_tests}
use Rattle.std.proofs.lemmas.List.{length-map, map-append, get_or_append_left}
use Rattle.list_laws.specs.Least.{is_between}
use Rattle.run_events.specs.declared.announcement.Announcement.{Announcement}
use Rattle.run_events.specs.declared.announcement.Announcement.TheVariants.{Allocate, Free, Acquire, Release, Enter, Check, Guard as GuardRange}
use Rattle.run_events.specs.declared.event.Event.{Event}
use Rattle.analysis_model.specs.Locks.{Guarded, guard_by, has_lock, is_held_by, is_unguarded, holder_after, locks_kept}
use Rattle.lock_rules.specs.declared.lock.Lock.{Lock}
use Rattle.lock_rules.specs.declared.guard.Guard.{Guard}
use Rattle.lock_rules.specs.Entries.{numbers, holder_at, is_open, range_of}
use Rattle.lock_rules.specs.State.{AreHeld, known_with, guards_with, guards_after}
use Rattle.lock_rules.proofs.CountedLaws.{take-more}
use Rattle.lock_rules.proofs.HeldLaws.{All-append, held-at}

-- each range's lock is one of so many
abbrev pub ArePlaced : ℕ → List Guard → Type 0
ArePlaced count guards = AllByRecursion (λ guard. guard.place < count) guards

pub placed-more : (few many : ℕ) (guards : List Guard) → few ≤ many → ArePlaced few guards → ArePlaced many guards
placed-more few many [] h placed = tt
placed-more few many (guard ∷ guards) h placed = (let here = placed.0 in omega (arith, here), placed-more few many guards h placed.1)

and_swap : (a b : Bool) → (not a && b) ≡ (b && not a)
and_swap true true = refl
and_swap true false = refl
and_swap false true = refl
and_swap false false = refl

-- open addresses are the unguarded ones
pub open-unguarded : (entries : List Lock) (context : ℕ) (before : List Event) (guards : List Guard) (address : ℕ) → AreHeld entries before → ArePlaced (length entries) guards
    → is_open entries context guards address ≡ is_unguarded context (holder_after before) (map (range_of (numbers entries)) guards) address
open-unguarded entries context before [] address held placed = refl
open-unguarded entries context before (guard ∷ guards) address held placed =
    let between = is_between guard.from guard.to address in
    let here : (not (is_held_by (holder_at entries guard.place) context) && between) ≡ (between && not (is_held_by (holder_after before (get_or (numbers entries) guard.place 0)) context)) =
    and_swap (is_held_by (holder_at entries guard.place) context) between ∙ ap (λ holder. between && not (is_held_by holder context)) (held-at entries before held guard.place placed.0) in
    ap (λ b. b || is_open entries context guards address) here ∙ ap (λ b. (between && not (is_held_by (holder_after before (get_or (numbers entries) guard.place 0)) context)) || b) (open-unguarded entries context before guards address held placed.1)

-- one name more leaves the locks at their places
length-known : (entries : List Lock) (name : Option ℕ) → length entries ≤ length (known_with entries name)
length-known entries None = omega arith
length-known entries (Some number) = by_case (has_lock (numbers entries) number) (nat_lt (length entries) locks_kept)
  where
    by_case : (a b : Bool) → length entries ≤ length (cond a entries (cond b (entries ++ record { number = number; holder = None } ∷ []) entries))
    by_case true b = omega arith
    by_case false false = omega arith
    by_case false true = let new : Lock = record { number = number; holder = None } in omega (arith, length-append entries (new ∷ []))

number-known : (entries : List Lock) (name : Option ℕ) (place : ℕ) → place < length entries → get_or (numbers (known_with entries name)) place 0 ≡ get_or (numbers entries) place 0
number-known entries None place room = refl
number-known entries (Some number) place room = by_case (has_lock (numbers entries) number) (nat_lt (length entries) locks_kept)
  where
    by_case : (a b : Bool) → get_or (numbers (cond a entries (cond b (entries ++ record { number = number; holder = None } ∷ []) entries))) place 0 ≡ get_or (numbers entries) place 0
    by_case true b = refl
    by_case false false = refl
    by_case false true =
        let new : Lock = record { number = number; holder = None } in
        let within : place < length (numbers entries) = omega (arith, length-map entries (λ (lock : Lock). lock.number)) in
        ap (λ l. get_or l place 0) (map-append (λ (lock : Lock). lock.number) entries (new ∷ [])) ∙ get_or_append_left (numbers entries) (number ∷ []) 0 place within

pub ranges-known : (entries : List Lock) (name : Option ℕ) (guards : List Guard) → ArePlaced (length entries) guards → map (range_of (numbers (known_with entries name))) guards ≡ map (range_of (numbers entries)) guards
ranges-known entries name [] placed = refl
ranges-known entries name (guard ∷ guards) placed =
    let rest = ranges-known entries name guards placed.1 in
    let range : ℕ → Guarded = λ lock. record { from = guard.from; to = guard.to; lock = lock } in
    ap (λ lock. range lock ∷ map (range_of (numbers (known_with entries name))) guards) (number-known entries name guard.place placed.0) ∙ ap (λ l. range_of (numbers entries) guard ∷ l) rest

-- the place of a lock that counts
record IsPlaceOf (entries : List Lock) (lock place : ℕ) : Type 0 where
  pub room : place < length entries
  pub number : get_or (numbers entries) place 0 ≡ lock
  pub known : has_lock (numbers entries) lock ≡ true

abbrev PlacedFrom : List Lock → ℕ → ℕ → Option ℕ → Type 0
PlacedFrom entries lock first None = has_lock (numbers entries) lock ≡ false
PlacedFrom entries lock first (Some place) = (k : ℕ) × ((place ≡ first + k) × IsPlaceOf entries lock k)

position-placed : (entries : List Lock) (lock first : ℕ) → PlacedFrom entries lock first (position_from (λ (entry : Lock). entry.number == lock) first entries)
position-placed [] lock first = refl
position-placed (entry ∷ entries) lock first =
    elim (cases_eq entry.number lock) [
      | inl same ↦
          let test : (entry.number == lock) ≡ true = grind (arith, nat_tests) in
          rw test (0, (omega arith, record { room = omega arith; number = same; known = ap (λ b. b || has_lock (numbers entries) lock) test }))
      | inr apart ↦
          let test : (entry.number == lock) ≡ false = grind (arith, nat_tests) in
          rw test (one_more (position_from (λ (entry : Lock). entry.number == lock) (first + 1) entries) test (position-placed entries lock (first + 1)))
    ]
  where
    one_more : (o : Option ℕ) → (entry.number == lock) ≡ false → PlacedFrom entries lock (first + 1) o → PlacedFrom (entry ∷ entries) lock first o
    one_more None test none = ap (λ b. b || has_lock (numbers entries) lock) test ∙ none
    one_more (Some place) test found =
        let is = found.1.1 in
        let at = found.1.0 in
        (suc found.0, (omega (arith, at), record { room = omega (arith, is.room); number = is.number; known = ap (λ b. b || has_lock (numbers entries) lock) test ∙ is.known }))

-- one range more, or none
ranges-more : (entries : List Lock) (guards : List Guard) (told : List Guarded) (start size lock : ℕ) (place : Option ℕ) → PlacedFrom entries lock 0 place → map (range_of (numbers entries)) guards ≡ take locks_kept told
    → map (range_of (numbers entries)) (guards_with guards start size place) ≡ take locks_kept (told ++ cons_option (guard_by (has_lock (numbers entries)) (Some (GuardRange start size lock))) [])
ranges-more entries guards told start size lock None none same = rw none (same ∙ ap (take locks_kept) (sym (append-nil told)))
ranges-more entries guards told start size lock (Some place) found same =
    let is = found.1.1 in
    let at : place ≡ found.0 = let e = found.1.0 in omega (arith, e) in
    let range : Guarded = record { from = start; to = start + size; lock = lock } in
    let guard : Guard = record { from = start; to = start + size; place = place } in
    let made : range_of (numbers entries) guard ≡ range = ap (λ l. let r : Guarded = record { from = start; to = start + size; lock = l } in r) (ap (λ p. get_or (numbers entries) p 0) at ∙ is.number) in
    let long : length guards ≡ length (take locks_kept told) = sym (length-map guards (range_of (numbers entries))) ∙ ap length same in
    rw is.known (by_room guard range made (nat_lt (length guards) locks_kept) ∙ ap (λ n. cond (nat_lt n locks_kept) (take locks_kept told ++ range ∷ []) (take locks_kept told)) long ∙ sym (take-more locks_kept told range))
  where
    by_room : (guard : Guard) (range : Guarded) → range_of (numbers entries) guard ≡ range → (b : Bool) → map (range_of (numbers entries)) (cond b (guards ++ guard ∷ []) guards) ≡ cond b (take locks_kept told ++ range ∷ []) (take locks_kept told)
    by_room guard range made false = same
    by_room guard range made true = map-append (range_of (numbers entries)) guards (guard ∷ []) ∙ ap (λ l. l ++ range_of (numbers entries) guard ∷ []) same ∙ ap (λ r. take locks_kept told ++ r ∷ []) made

pub ranges-after : (entries : List Lock) (guards : List Guard) (told : List Guarded) (announced : Option Announcement) → map (range_of (numbers entries)) guards ≡ take locks_kept told
    → map (range_of (numbers entries)) (guards_after entries guards announced) ≡ take locks_kept (told ++ cons_option (guard_by (has_lock (numbers entries)) announced) [])
ranges-after entries guards told None same = same ∙ ap (take locks_kept) (sym (append-nil told))
ranges-after entries guards told (Some (Allocate start size)) same = same ∙ ap (take locks_kept) (sym (append-nil told))
ranges-after entries guards told (Some (Free start size)) same = same ∙ ap (take locks_kept) (sym (append-nil told))
ranges-after entries guards told (Some (Acquire lock)) same = same ∙ ap (take locks_kept) (sym (append-nil told))
ranges-after entries guards told (Some (Release lock)) same = same ∙ ap (take locks_kept) (sym (append-nil told))
ranges-after entries guards told (Some (Enter context)) same = same ∙ ap (take locks_kept) (sym (append-nil told))
ranges-after entries guards told (Some (Check start size)) same = same ∙ ap (take locks_kept) (sym (append-nil told))
ranges-after entries guards told (Some (GuardRange start size lock)) same = ranges-more entries guards told start size lock (position_from (λ (entry : Lock). entry.number == lock) 0 entries) (position-placed entries lock 0) same

placed-with : (entries : List Lock) (guards : List Guard) (start size lock : ℕ) (place : Option ℕ) → PlacedFrom entries lock 0 place → ArePlaced (length entries) guards → ArePlaced (length entries) (guards_with guards start size place)
placed-with entries guards start size lock None none placed = placed
placed-with entries guards start size lock (Some place) found placed = by_room (nat_lt (length guards) locks_kept)
  where
    by_room : (b : Bool) → ArePlaced (length entries) (cond b (guards ++ record { from = start; to = start + size; place = place } ∷ []) guards)
    by_room false = placed
    by_room true =
        let is = found.1.1 in
        let e = found.1.0 in
        All-append (λ (guard : Guard). guard.place < length entries) guards (record { from = start; to = start + size; place = place } ∷ []) placed (omega (arith, e, is.room), tt)

placed-told : (entries : List Lock) (guards : List Guard) (announced : Option Announcement) → ArePlaced (length entries) guards → ArePlaced (length entries) (guards_after entries guards announced)
placed-told entries guards None placed = placed
placed-told entries guards (Some (Allocate start size)) placed = placed
placed-told entries guards (Some (Free start size)) placed = placed
placed-told entries guards (Some (Acquire lock)) placed = placed
placed-told entries guards (Some (Release lock)) placed = placed
placed-told entries guards (Some (Enter context)) placed = placed
placed-told entries guards (Some (Check start size)) placed = placed
placed-told entries guards (Some (GuardRange start size lock)) placed = placed-with entries guards start size lock (position_from (λ (entry : Lock). entry.number == lock) 0 entries) (position-placed entries lock 0) placed

pub placed-after : (entries : List Lock) (name : Option ℕ) (guards : List Guard) (announced : Option Announcement) → ArePlaced (length entries) guards → ArePlaced (length (known_with entries name)) (guards_after (known_with entries name) guards announced)
placed-after entries name guards announced placed = placed-told (known_with entries name) guards announced (placed-more (length entries) (length (known_with entries name)) guards (length-known entries name) placed)
