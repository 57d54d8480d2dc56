-- Every event of the core keeps a sound state sound.
use Rattle.std.proofs.Common.{◌≡◌, ◌⊎◌, ℕ, ◌+◌, ◌-◌, ◌<◌, ◌≤◌, inl, inr, Bool, true, false, List, [], ◌∷◌, ◌++◌, length, take, drop, reverse, slice_index, slice_set, arith, refl, sym, ap, subst, ◌∙◌, zero, suc}
use Rattle.std.proofs.Math.Seq.{drop-nil}
use Rattle.std.proofs.lemmas.List.{length-drop, length-reverse, length-replicate, length-set, reverse-append, take-append-drop, drop_at, get_or-replicate, get_or-set_same, get_or-set_other, set_past}
use Rattle.std.proofs.lemmas.Bool.{cases_lt, cases_eq, and_parts}
use Rattle.run_events.specs.declared.record.Record.{Record}
use Rattle.run_events.proofs.RecordLaws.{admitted_rises}
use Rattle.run_events.specs.Record.{is_admitted, is_ordered_back, is_ordered, reach_back, reach}
use Rattle.gate_core.specs.Core.{Plan, CoreState, CoreEvent, Append, Close, TakeNext, Post, Release, Break, reached, IsPlan, opening, MayGoOut, IsReleasable, MayAppend, May, approves, core_after, Leads, IsSoundAt, IsSound, StaysSound}

reach_falls : (items : List Record) → is_ordered_back items ≡ true → (j k : ℕ) → j ≤ k → reach_back (drop k items) ≤ reach_back (drop j items)
reach_falls [] h j k low = omega (arith, ap reach_back (drop-nil j), ap reach_back (drop-nil k))
reach_falls (item ∷ before) h zero zero low = omega arith
reach_falls (item ∷ before) h (suc j) zero low = absurd (omega (arith, low))
reach_falls (item ∷ before) h zero (suc k) low =
    let parts = and_parts (is_admitted before item) (is_ordered_back before) h in
    omega (arith, admitted_rises before item parts.0, reach_falls before parts.1 zero k (omega arith))
reach_falls (item ∷ before) h (suc j) (suc k) low = reach_falls before (and_parts (is_admitted before item) (is_ordered_back before) h).1 j k (omega arith)

reverse_take : {X : Type 0} (n : ℕ) (xs : List X) → reverse (take n xs) ≡ drop (length xs - n) (reverse xs)
reverse_take n xs =
    let parts : reverse xs ≡ reverse (drop n xs) ++ reverse (take n xs) = ap reverse (sym (take-append-drop n xs)) ∙ reverse-append (take n xs) (drop n xs) in
    let long : length (reverse (drop n xs)) ≡ length xs - n = length-reverse (drop n xs) ∙ length-drop n xs in
    sym (ap (drop (length xs - n)) parts ∙ drop_at (reverse (drop n xs)) (reverse (take n xs)) (length xs - n) long)

-- more records reach no less far
pub reach_rises : (items : List Record) → is_ordered items ≡ true → (m n : ℕ) → m ≤ n → reach (take m items) ≤ reach (take n items)
reach_rises items h m n low =
    rw (reverse_take m items, reverse_take n items) (reach_falls (reverse items) h (length items - n) (length items - m) (omega arith))

-- what is true of each number of a list stays so where one is replaced
set_keeps : (P : ℕ → ℕ → Type 0) (xs : List ℕ) (i y : ℕ) → ((k : ℕ) → k < length xs → P k (slice_index xs k)) → P i y → (k : ℕ) → k < length xs → P k (slice_index (slice_set xs i y) k)
set_keeps P xs i y all here k low = grind (arith, get_or-set_same, get_or-set_other, cases_eq k i, all k low)

pub set_grows : (xs : List ℕ) (i y : ℕ) → slice_index xs i ≤ y → (k : ℕ) → slice_index xs k ≤ slice_index (slice_set xs i y) k
set_grows xs i y low k = grind (arith, get_or-set_same, get_or-set_other, set_past, cases_eq k i, cases_lt i (length xs))

opening_IsSound : (plan : Plan) → IsSound plan (opening plan)
opening_IsSound plan =
    let none : (reader : ℕ) → reader < length plan.limits → slice_index (opening plan).taken reader ≡ 0 = λ reader low. get_or-replicate (length plan.limits) reader 0 0 low in
    record {
      taken = length-replicate (length plan.limits) 0;
      approved = length-replicate (length plan.limits) 0;
      appended = omega arith;
      readers = λ reader low. record {
        taken = omega (arith, none reader low);
        room = omega arith;
        limit = omega (arith, none reader low);
        seen = omega (arith, none reader low);
      };
      released = omega arith;
      may_go = λ byte low. absurd (omega arith);
      closed = λ h. grind arith;
    }

append_IsSound : (plan : Plan) (s : CoreState) → IsPlan plan → IsSound plan s → MayAppend plan s → IsSound plan (core_after plan s Append)
append_IsSound plan s ok was may =
    let more : reached plan s.appended ≤ reached plan (s.appended + 1) = reach_rises plan.items ok.items s.appended (s.appended + 1) (omega arith) in
    record {
      taken = was.taken;
      approved = was.approved;
      appended = omega (arith, may.more);
      readers = λ reader low. record {
        taken = omega (arith, (was.readers reader low).taken);
        room = omega (arith, may.room reader low);
        limit = (was.readers reader low).limit;
        seen = (was.readers reader low).seen;
      };
      released = was.released;
      may_go = λ byte low. record { reached = omega (arith, more, (was.may_go byte low).reached); approved = (was.may_go byte low).approved };
      closed = λ h. let both : false ≡ true = sym may.«open» ∙ h in grind arith;
    }

-- what is sound of the log and its readers stays so, whatever was closed, has failed or was released
outside_IsSound : (plan : Plan) (s : CoreState) → IsSound plan s → (closed failed : Bool) (released : ℕ) → released ≤ length plan.outputs
    → ((byte : ℕ) → byte < released → MayGoOut plan s (slice_index plan.outputs byte)) → (closed ≡ true → (s.appended ≡ length plan.items) ⊎ (failed ≡ true))
    → IsSound plan (record s { closed = closed; failed = failed; released = released })
outside_IsSound plan s was closed failed released there may_go over = record {
  taken = was.taken;
  approved = was.approved;
  appended = was.appended;
  readers = λ reader low. record {
    taken = (was.readers reader low).taken;
    room = (was.readers reader low).room;
    limit = (was.readers reader low).limit;
    seen = (was.readers reader low).seen;
  };
  released = there;
  may_go = λ byte low. record { reached = (may_go byte low).reached; approved = (may_go byte low).approved };
  closed = over;
}

take_IsSound : (plan : Plan) (s : CoreState) (reader : ℕ) → IsPlan plan → IsSound plan s → May plan s (TakeNext reader) → IsSound plan (core_after plan s (TakeNext reader))
take_IsSound plan s reader ok was may =
    let count : ℕ = slice_index s.taken reader in
    let more : reached plan count ≤ reached plan (count + 1) = reach_rises plan.items ok.items count (count + 1) (omega arith) in
    let Fine : ℕ → ℕ → Type 0 = λ k n. (n ≤ s.appended) × (s.appended ≤ n + plan.cap) × (slice_index s.approved k ≤ reached plan n) in
    let before : (k : ℕ) → k < length s.taken → Fine k (slice_index s.taken k) =
    λ k low.
    let old : IsSoundAt plan s k = was.readers k (omega (arith, was.taken)) in
    (old.taken, old.room, old.seen) in
    let old : IsSoundAt plan s reader = was.readers reader may.0 in
    let here : Fine reader (count + 1) = (omega (arith, may.1), omega (arith, old.room), omega (arith, more, old.seen)) in
    let after : (k : ℕ) → k < length s.taken → Fine k (slice_index (slice_set s.taken reader (count + 1)) k) = set_keeps Fine s.taken reader (count + 1) before here in
    record {
      taken = length-set _ _ _ ∙ was.taken;
      approved = was.approved;
      appended = was.appended;
      readers = λ k low. let now : Fine k (slice_index (slice_set s.taken reader (count + 1)) k) = after k (omega (arith, was.taken)) in record {
        taken = now.0;
        room = now.1;
        limit = (was.readers k low).limit;
        seen = now.2;
      };
      released = was.released;
      may_go = λ byte low. record { reached = (was.may_go byte low).reached; approved = (was.may_go byte low).approved };
      closed = was.closed;
    }

post_IsSound : (plan : Plan) (s : CoreState) (reader : ℕ) → IsSound plan s → May plan s (Post reader) → IsSound plan (core_after plan s (Post reader))
post_IsSound plan s reader was may =
    let step : ℕ = approves plan s reader in
    let Fine : ℕ → ℕ → Type 0 = λ k n. (n ≤ slice_index plan.limits k) × (n ≤ reached plan (slice_index s.taken k)) in
    let before : (k : ℕ) → k < length s.approved → Fine k (slice_index s.approved k) =
    λ k low.
    let old : IsSoundAt plan s k = was.readers k (omega (arith, was.approved)) in
    (old.limit, old.seen) in
    let old : IsSoundAt plan s reader = was.readers reader may in
    let here : Fine reader step = (omega arith, omega arith) in
    let rises : slice_index s.approved reader ≤ step = omega (arith, old.limit, old.seen) in
    let after : (k : ℕ) → k < length s.approved → Fine k (slice_index (slice_set s.approved reader step) k) = set_keeps Fine s.approved reader step before here in
    record {
      taken = was.taken;
      approved = length-set _ _ _ ∙ was.approved;
      appended = was.appended;
      readers = λ k low. let now : Fine k (slice_index (slice_set s.approved reader step) k) = after k (omega (arith, was.approved)) in record {
        taken = (was.readers k low).taken;
        room = (was.readers k low).room;
        limit = now.0;
        seen = now.1;
      };
      released = was.released;
      may_go = λ byte low. record {
        reached = (was.may_go byte low).reached;
        approved = λ k needed. omega (arith, (was.may_go byte low).approved k needed, set_grows s.approved reader step rises k);
      };
      closed = was.closed;
    }

-- bytes that may be released may go out, as those before them may
may_go_more : (plan : Plan) (s : CoreState) (count done : ℕ) → IsSound plan s → IsReleasable plan s count → done ≤ count → (byte : ℕ) → byte < s.released + done → MayGoOut plan s (slice_index plan.outputs byte)
may_go_more plan s count done was may part byte low =
    elim (cases_lt byte s.released) as (λ _. MayGoOut plan s (slice_index plan.outputs byte)) [
      | inl near ↦ was.may_go byte near
      | inr far ↦ may.may_go byte far (omega arith)
    ]

pub event_IsSound : (plan : Plan) (s : CoreState) (event : CoreEvent) → IsPlan plan → IsSound plan s → May plan s event → IsSound plan (core_after plan s event)
event_IsSound plan s Append ok was may = append_IsSound plan s ok was may
event_IsSound plan s Close ok was may = outside_IsSound plan s was true s.failed s.released was.released was.may_go (λ _. may.1)
event_IsSound plan s (TakeNext reader) ok was may = take_IsSound plan s reader ok was may
event_IsSound plan s (Post reader) ok was may = post_IsSound plan s reader was may
event_IsSound plan s (Release count) ok was may = outside_IsSound plan s was s.closed s.failed (s.released + count) may.there (may_go_more plan s count count was may (omega arith)) was.closed
event_IsSound plan s (Break count done) ok was may =
    outside_IsSound plan s was s.closed true (s.released + done) (omega (arith, may.0.there, may.1)) (may_go_more plan s count done was may.0 may.1) (λ _. inr refl)

events_IsSound : (plan : Plan) → IsPlan plan → (events : List CoreEvent) (s last : CoreState) → IsSound plan s → Leads plan s events last → IsSound plan last
events_IsSound plan ok [] s last was leads = subst (IsSound plan) leads was
events_IsSound plan ok (event ∷ events) s last was leads = events_IsSound plan ok events (core_after plan s event) last (event_IsSound plan s event ok was leads.0) leads.1

pub stays_IsSound : StaysSound
stays_IsSound plan ok events s leads = events_IsSound plan ok events (opening plan) s (opening_IsSound plan) leads
