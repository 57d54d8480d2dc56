-- What the analysis stands for, with one event more.
use Rattle.std.proofs.Common.{◌≡◌, ℕ, List, [], ◌∷◌, ◌++◌, length, map, reverse, take, Option, None, Some, unwrap_or, refl, sym, ap, ◌∙◌, subst}
use Rattle.std.specs.List.{cons_option}
use Rattle.std.specs.Option.{option_map, option_or}
use Rattle.std.proofs.lemmas.List.{length-map}
use Rattle.list_laws.proofs.LeastLaws.{least_same}
use Rattle.list_laws.proofs.ReverseLaws.{reverse-last}
use Rattle.run_events.specs.declared.access.Access.{Access}
use Rattle.run_events.specs.declared.event.Event.{Event}
use Rattle.run_events.specs.declared.event.Event.TheVariants.{Dma, Irq, Trap, Exec}
use Rattle.run_events.specs.Access.{touched_from, touched_len}
use Rattle.run_events.specs.declared.finding.Kind.TheVariants as kind
use Rattle.run_events.specs.Announcement.{announced_by, announced}
use Rattle.analysis_model.specs.Complaints.{findings}
use Rattle.analysis_model.specs.Context.{entered, context_after}
use Rattle.analysis_model.specs.Locks.{named, counted, has_lock, guard_at, guard_by, guards, holder_after, is_unguarded, bad_access, lock_by, access_by, locks, locks_kept}
use Rattle.analysis_model.specs.Look.{Complaint, told_at, finding_at, finding_of, found_at}
use Rattle.analysis_model.proofs.ContextLaws.{context-more}
use Rattle.analysis_model.proofs.LookLaws.{told_at-more}
use Rattle.std.proofs.lemmas.List.{reverse-reverse}
use Rattle.finding_tally.specs.Tallied.{tallied, tallied_with}
use Rattle.finding_tally.proofs.TalliedLaws.{tallied_with-more}
use Rattle.lock_rules.specs.declared.lock.Lock.{Lock}
use Rattle.lock_rules.specs.Entries.{numbers, holder_of, is_open, range_of}
use Rattle.lock_rules.specs.State.{LockState, Stands, AreHeld, guest_now, known_with, known_after, held_after, guards_after, told_state, heard, opened, noted, after}
use Rattle.lock_rules.proofs.CountedLaws.{counted_with, counted-more, numbers-known}
use Rattle.lock_rules.proofs.HeldLaws.{AreHeldNow, held-known, held-after, numbers-held, held-of, lock_by-same}
use Rattle.lock_rules.proofs.GuardLaws.{open-unguarded, ranges-known, ranges-after, placed-after}

-- what there is to complain of an event
abbrev complaint_now : LockState → Event → Option Complaint
complaint_now s (Dma step address word mark) = None
complaint_now s (Irq step pc cause next) = None
complaint_now s (Trap step pc word cause value next) = None
complaint_now s (Exec step pc word next result access told) = option_or (heard s (announced_by word told)) (opened s access)

map_or : {A B : Type 0} (f : A → B) (x y : Option A) → option_or (option_map f x) (option_map f y) ≡ option_map f (option_or x y)
map_or f None y = refl
map_or f (Some x) y = refl

-- every event is taken in alike
after-is : (s : LockState) (event : Event) → after s event ≡ noted (told_state s (announced event)) (option_map (finding_of event) (complaint_now s event))
after-is s (Dma step address word mark) = refl
after-is s (Irq step pc cause next) = refl
after-is s (Trap step pc word cause value next) = refl
after-is s (Exec step pc word next result access told) =
    ap (noted (told_state s (announced_by word told))) (map_or (finding_at step pc) (heard s (announced_by word told)) (opened s access))

known-more : (s : LockState) (h : List Event) (event : Event) → Stands s h → numbers (known_after s.locks (announced event)) ≡ counted locks_kept (event ∷ reverse h)
known-more s h event stands =
    numbers-known s.locks (named event) ∙ ap (λ known. counted_with locks_kept known (named event)) stands.known ∙ sym (counted-more locks_kept event (reverse h))

heard-same : (s : LockState) (h : List Event) (event : Event) → Stands s h → heard s (announced event) ≡ lock_by (has_lock (counted locks_kept (event ∷ reverse h))) (context_after (reverse h)) (holder_after (reverse h)) (announced event)
heard-same s h event stands =
    let before = reverse h in
    let known = known_after s.locks (announced event) in
    let held = held-known s.locks before (named event) stands.known stands.held in
    lock_by-same (has_lock (numbers known)) s.context (holder_of known) (holder_after before) (held-of known before held) (announced event)
    ∙ ap (λ context. lock_by (has_lock (numbers known)) context (holder_after before) (announced event)) stands.context_is
    ∙ ap (λ counts. lock_by (has_lock counts) (context_after before) (holder_after before) (announced event)) (known-more s h event stands)

ranges-are : (s : LockState) (h : List Event) → Stands s h → map (range_of (numbers s.locks)) s.guards ≡ guards locks_kept (reverse h)
ranges-are s h stands = stands.guarded ∙ ap (λ l. take locks_kept (told_at (guard_at locks_kept) l)) (sym (reverse-reverse h))

opened-same : (s : LockState) (h : List Event) (access : Access) → Stands s h → opened s access ≡ access_by (context_after (reverse h)) (holder_after (reverse h)) (guards locks_kept (reverse h)) access
opened-same s h access stands =
    let before = reverse h in
    let ranges = map (range_of (numbers s.locks)) s.guards in
    ap (option_map bad_access) (least_same (is_open s.locks s.context s.guards) (is_unguarded s.context (holder_after before) ranges) (touched_from access) (touched_len access) (λ n low high. open-unguarded s.locks s.context before s.guards n stands.held stands.placed))
    ∙ ap (λ context. access_by context (holder_after before) ranges access) stands.context_is
    ∙ ap (λ l. access_by (context_after before) (holder_after before) l access) (ranges-are s h stands)

complaint-same : (s : LockState) (h : List Event) (event : Event) → Stands s h → complaint_now s event ≡ locks locks_kept (reverse h) event
complaint-same s h (Dma step address word mark) stands = refl
complaint-same s h (Irq step pc cause next) stands = refl
complaint-same s h (Trap step pc word cause value next) stands = refl
complaint-same s h (Exec step pc word next result access told) stands =
    let event : Event = Exec step pc word next result access told in
    ap (λ o. option_or o (opened s access)) (heard-same s h event stands)
    ∙ ap (option_or (lock_by (has_lock (counted locks_kept (event ∷ reverse h))) (context_after (reverse h)) (holder_after (reverse h)) (announced event))) (opened-same s h access stands)

-- it stands for one event more, once it has taken that in
stands-after : (s : LockState) (event : Event) (h : List Event) → Stands s h → Stands (noted (told_state s (announced event)) (option_map (finding_of event) (complaint_now s event))) (h ++ event ∷ [])
stands-after s event h stands =
    let before = reverse h in
    let told = announced event in
    let name = named event in
    let known = known_with s.locks name in
    let now = held_after s.context told known in
    let newest : event ∷ before ≡ reverse (h ++ event ∷ []) = sym (reverse-last h event) in
    let same = numbers-held s.context told known in
    let counts = known-more s h event stands in
    let held = held-after s.context told known before (held-known s.locks before name stands.known stands.held) in
    let HeldIn : ℕ → Type 0 = λ context. AreHeldNow context told now before in
    let Held : List Event → Type 0 = AreHeld now in
    let ranges = ranges-after known s.guards (told_at (guard_at locks_kept) h) told (ranges-known s.locks name s.guards stands.placed ∙ stands.guarded) in
    let placed = placed-after s.locks name s.guards told stands.placed in
    let as_long : length known ≡ length now = sym (length-map known (λ (lock : Lock). lock.number)) ∙ ap length (sym same) ∙ length-map now (λ (lock : Lock). lock.number) in
    record {
      context_is = ap (unwrap_or (entered told)) stands.context_is ∙ sym (context-more h event);
      known = same ∙ counts ∙ ap (counted locks_kept) newest;
      held = subst Held newest (subst HeldIn stands.context_is held);
      placed = rw (← as_long) placed;
      guarded =
          ap (λ l. map (range_of l) (guards_after known s.guards told)) same ∙ ranges
          ∙ ap (λ l. take locks_kept (told_at (guard_at locks_kept) h ++ cons_option (guard_by (has_lock l) told) [])) counts
          ∙ ap (take locks_kept) (sym (told_at-more (guard_at locks_kept) h event));
      tallied =
          ap (λ o. tallied_with s.found (option_map (finding_of event) o)) (complaint-same s h event stands)
          ∙ tallied_with-more s.found (findings kind.Locks (guest_now s) h) (found_at (locks locks_kept) before event) stands.tallied
          ∙ ap tallied (sym (told_at-more (found_at (locks locks_kept)) h event));
    }

pub Stands-more : (s : LockState) (event : Event) (h : List Event) → Stands s h → Stands (after s event) (h ++ event ∷ [])
Stands-more s event h stands = rw (after-is s event) (stands-after s event h stands)
