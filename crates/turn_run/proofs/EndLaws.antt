-- What has gone out when a run is over.
use Rattle.std.proofs.Common.{◌≡◌, inl, inr, ℕ, ◌+◌, ◌-◌, ◌<◌, ◌≤◌, true, false, List, [], ◌++◌, length, take, drop, Option, Some, None, refl, sym, ap, subst, ◌∙◌, arith}
use Rattle.std.specs.Prelude.{get_or, min, slice_index}
use Rattle.std.proofs.lemmas.Bool.{cases_lt}
use Rattle.std.proofs.lemmas.List.{get_or-map, length-drop, length-map, length-take-le, take-append-le, take-map, take-take, take_all, take_more}
use Rattle.std.proofs.lemmas.List.Elements.{All-get_or, All-push}
use Rattle.after_edge.specs.Sink.{Telling}
use Rattle.after_edge.proofs.SinkLaws.{Writes-same}
use Rattle.list_laws.specs.Prefix.{IsPrefix}
use Rattle.list_laws.proofs.PrefixLaws.{IsPrefix-length, IsPrefix-take}
use Rattle.any_machine.specs.Log.{before_step, SentByte, sent_at, steps_of, bytes_in}
use Rattle.any_machine.specs.Recording.{Recording}
use Rattle.gate_core.specs.Core.{CoreState, IsAllowed, IsFinished, IsReleasable, IsRequired, IsSound, reached}
use Rattle.gate_core.specs.Hub.{HubState}
use Rattle.gate_core.proofs.FinishLaws.{releases_all}
use Rattle.output_gate.proofs.GateLaws.{count_below-before}
use Rattle.turn_run.specs.declared.parts.Parts.{Parts}
use Rattle.turn_run.specs.Following.{Following}
use Rattle.turn_run.specs.Closings.{HasEnded, HasStopped, IsReadOut, IsStopped}
use Rattle.turn_run.specs.Course.{Course, IsCourse, end_of, output_of, plan_of, released_bytes, stop_of}
use Rattle.turn_run.specs.Gates.{IsWithheldFrom, issued_by, not_withheld, released_by, still_waiting}
use Rattle.turn_run.specs.Runs.{AllTaken, HasCome, HasCrashed, HasReleased, IsAt, bytes_between, with_released}
use Rattle.turn_run.proofs.CourseLaws.{is_plan, issued_IsPrefix, issued_all, length_log, reach_whole}
use Rattle.turn_run.proofs.LeastLaws.{least-each}
use Rattle.turn_run.proofs.ListLaws.{AllBelow, before-long, before-split, count-before, split_IsPrefix, splits}
use Rattle.turn_run.proofs.PeriodLaws.{put_on}
use Rattle.turn_run.proofs.ReleaseLaws.{released_below, released_limit}
use Rattle.turn_run.proofs.TurnLaws.{posted_is, verdict_agrees}

-- THE BYTES THAT A SOUND CORE HAS RELEASED

module _ (c : Course) (is : IsCourse c) (core : CoreState) (sound : IsSound (plan_of c) core) (there : core.released ≤ length (issued_by c core.appended)) where
  abbrev issued : List SentByte
  issued = issued_by c core.appended

  first_issued : take core.released (issued_by c core.appended) ≡ take core.released (output_of c)
  first_issued = IsPrefix-take core.released (issued_by c core.appended) (output_of c) (issued_IsPrefix c is core.appended) there

  all_below : AllBelow (stop_of c) (take core.released (issued_by c core.appended))
  all_below = subst (AllBelow (stop_of c)) (sym first_issued) (released_below c is core sound)

  -- they are no more than are let out of the records that were appended
  pub within_released : core.released ≤ length (released_by c core.appended)
  within_released =
      let long : core.released ≤ length (before_step (stop_of c) (issued_by c core.appended)) = before-long (stop_of c) core.released (issued_by c core.appended) there all_below in
      omega (arith, long, length-map (before_step (stop_of c) (issued_by c core.appended)) (λ (byte : SentByte). byte.byte))

  -- and the first of these
  pub first_released : bytes_between c 0 core.released ≡ take core.released (released_by c core.appended)
  first_released =
      let n : ℕ = core.released in
      let same : take n (before_step (stop_of c) (issued_by c core.appended)) ≡ take n (output_of c) =
      ap (take n) (before-split (stop_of c) n (issued_by c core.appended) all_below)
      ∙ take-append-le n (take n (issued_by c core.appended)) (before_step (stop_of c) (drop n (issued_by c core.appended))) (omega (arith, length-take-le n (issued_by c core.appended) there))
      ∙ take-take n n (issued_by c core.appended) (omega arith)
      ∙ first_issued in
      sym (take-map (λ (byte : SentByte). byte.byte) n (before_step (stop_of c) (issued_by c core.appended)) ∙ ap bytes_in same)

-- THE END OF A RUN

module _ {M F : Type 0} (r : Recording M) (f : Following F) (c : Course) (core : CoreState) (parts : Parts M F) (at : IsAt r f c core parts) (whole : core.appended ≡ length c.items) (taken : AllTaken c core)
    (none : parts.gate.steps ≡ []) where
  is : IsCourse c
  is = at.follows.course

  sound : IsSound (plan_of c) core
  sound = at.follows.sound

  abbrev sent : List SentByte
  sent = output_of c

  abbrev steps : List ℕ
  steps = steps_of (output_of c)

  length_steps : length (steps_of (output_of c)) ≡ length (output_of c)
  length_steps = length-map (output_of c) (λ (byte : SentByte). byte.step)

  reader_there : (reader : ℕ) → IsRequired (plan_of c) reader → reader < length c.limits
  reader_there reader required = subst (λ n. n < length c.limits) required.2 (All-get_or (λ n. n < length c.limits) c.required required.0 0 required.1 is.required)

  -- each replica has approved all that it ever will
  all_approved : (reader : ℕ) → IsRequired (plan_of c) reader → slice_index core.approved reader ≡ min (slice_index c.limits reader) (end_of c)
  all_approved reader required =
      let there = reader_there reader required in
      let agrees = verdict_agrees r f c core parts at reader there in
      let all : slice_index core.taken reader ≡ length c.items = taken reader there ∙ whole in
      let reached_all : reached (plan_of c) (slice_index core.taken reader) ≡ end_of c = ap (reached (plan_of c)) all ∙ reach_whole c is (length c.items) (omega arith) in
      omega (arith, posted_is r f c core parts at reader, agrees.approved, reached_all)

  -- were the next byte approved, it would wait
  kept_more : (step : ℕ) → core.released < length (output_of c) → slice_index (steps_of (output_of c)) core.released ≡ step → ((reader : ℕ) → IsRequired (plan_of c) reader → step < slice_index core.approved reader)
      → (o : Option ℕ) → IsWithheldFrom c o → core.released < length (not_withheld o (output_of c))
  kept_more step less step_is approved None withheld = less
  kept_more step less step_is approved (Some from) limit =
      let reader : ℕ = slice_index c.required limit.place in
      let needed : IsRequired (plan_of c) reader = (limit.place, limit.there, refl) in
      let low : step < from = omega (arith, approved reader needed, (sound.readers reader (reader_there reader needed)).limit, limit.is) in
      let here : (get_or (output_of c) core.released (sent_at 0 0)).step < from = omega (arith, get_or-map (λ (byte : SentByte). byte.step) (output_of c) core.released (sent_at 0 0) 0 less, step_is, low) in
      let more : AllBelow from (take (core.released + 1) (output_of c)) =
      subst (AllBelow from) (sym (take_more (output_of c) core.released (sent_at 0 0) less))
      (All-push (λ (byte : SentByte). byte.step < from) (take core.released (output_of c)) (get_or (output_of c) core.released (sent_at 0 0)) (released_limit c is core sound from limit) here) in
      omega (arith, before-long from (core.released + 1) (output_of c) (omega (arith, less)) more)

  none_releasable : (count : ℕ) → IsReleasable (plan_of c) core count → ⊥
  none_releasable count may =
      let there = may.there in
      let some = may.some in
      let less : core.released < length (output_of c) = omega (arith, there, some, length_steps) in
      let next = may.may_go core.released (omega arith) (omega (arith, some)) in
      let waits = kept_more (slice_index (steps_of (output_of c)) core.released) less refl next.approved parts.gate.from at.gates.withheld in
      let all : issued_by c core.appended ≡ output_of c = issued_all c is core.appended (omega (arith, whole)) in
      let left : length (still_waiting c core parts.gate.from) ≡ length (not_withheld parts.gate.from (output_of c)) - core.released = length-drop core.released (not_withheld parts.gate.from (issued_by c core.appended)) ∙ ap (λ l. length (not_withheld parts.gate.from l) - core.released) all in
      let empty : length (still_waiting c core parts.gate.from) ≡ 0 = sym (length-map (still_waiting c core parts.gate.from) (λ (byte : SentByte). byte.step)) ∙ ap length (sym at.gates.steps ∙ none) in
      omega (arith, waits, left, empty)

  finished : IsFinished (plan_of c) core
  finished = record { sound = at.sound; appended = whole ∙ sym (length_log c is); taken = taken; approved = all_approved; none = none_releasable }

  let_out : IsPrefix (before_step (stop_of c) (output_of c)) (output_of c)
  let_out = split_IsPrefix (stop_of c) (output_of c) (splits (stop_of c) 0 (end_of c) (output_of c) is.climbs)

  -- a byte that is let out is allowed by all
  allowed : (byte : ℕ) → byte < length (before_step (stop_of c) (output_of c)) → IsAllowed (plan_of c) byte
  allowed byte less reader required =
      let low = count_below-before (steps_of (output_of c)) 0 (end_of c) (stop_of c) byte is.climbs (omega (arith, less, count-before (stop_of c) (output_of c))) in
      let each = least-each c.limits (end_of c) c.required required.0 required.1 in
      subst (λ n. slice_index (steps_of (output_of c)) byte < slice_index c.limits n) required.2 (omega (arith, low, each))

  no_fewer : core.released < length (before_step (stop_of c) (output_of c)) → ⊥
  no_fewer less =
      let there : core.released < length (steps_of (output_of c)) = omega (arith, less, IsPrefix-length (before_step (stop_of c) (output_of c)) (output_of c) let_out, length_steps) in
      let law = releases_all (plan_of c) (is_plan c is) core sound finished core.released there in
      omega (arith, law.1 (allowed core.released less))

  no_more : core.released ≤ length (before_step (stop_of c) (output_of c))
  no_more = before-long (stop_of c) core.released (output_of c) (omega (arith, sound.released, length_steps)) (released_below c is core sound)

  count_is : core.released ≡ length (before_step (stop_of c) (output_of c))
  count_is = elim (cases_lt core.released (length (before_step (stop_of c) (output_of c)))) [
    | inl less ↦ absurd (no_fewer less)
    | inr le ↦ omega (arith, le, no_more)
  ]

  pub released_is : core.released ≡ length (released_bytes c)
  released_is = count_is ∙ sym (length-map (before_step (stop_of c) (output_of c)) (λ (byte : SentByte). byte.byte))

  pub put_is : bytes_between c 0 core.released ≡ released_bytes c
  put_is =
      let n : ℕ = core.released in
      ap bytes_in (sym (IsPrefix-take n (before_step (stop_of c) (output_of c)) (output_of c) let_out (omega (arith, count_is))) ∙ take_all n (before_step (stop_of c) (output_of c)) (omega (arith, count_is)))

-- A RUN THAT WAS READ OUT

module _ {M F : Type 0} (r : Recording M) (f : Following F) (c : Course) where
  module _ (core : CoreState) (parts : Parts M F) (at : IsAt r f c core parts) (out : IsReadOut parts) where
    pub read_closed : core.closed ≡ true
    read_closed = sym (ap (λ (h : HubState). h.closed) at.follows.stands) ∙ out.0

    pub read_taken : AllTaken c core
    read_taken reader there =
        let taken : parts.hub.taken ≡ core.taken = λ i. (at.follows.stands i).taken in
        let appended : parts.hub.appended ≡ core.appended = λ i. (at.follows.stands i).appended in
        sym (ap (λ l. slice_index l reader) taken) ∙ out.1 reader (omega (arith, there, ap length taken, at.follows.sound.taken)) ∙ appended

    pub read_whole : core.appended ≡ length c.items
    read_whole = elim (at.follows.sound.closed read_closed) [
      | inl all ↦ all ∙ length_log c at.follows.course
      | inr failed ↦ (let both : false ≡ true = sym at.sound ∙ failed in cc)
    ]

  -- the last turn of the gate ends it
  pub ends : {S : Type 0} (sink : Telling S) (mid after : Parts M F) (old now new : S) (has : HasCome r f c 0 mid sink old now) → IsReadOut mid → HasReleased r f c has.next mid after sink now new → HasEnded r f c after sink old new
  ends sink mid after old now new has out last =
      let core : CoreState = with_released has.next last.count in
      let whole : has.next.appended ≡ length c.items = read_whole has.next mid has.at out in
      let taken : AllTaken c has.next = read_taken has.next mid has.at out in
      let none : after.gate.steps ≡ [] = last.none taken in
      record {
        ended = record {
          core = core;
          at = last.at;
          closed = read_closed has.next mid has.at out;
          appended = whole;
          taken = taken;
          released = released_is r f c core after last.at whole taken none;
          none = none;
        };
        put = Writes-same sink old new (put_is r f c core after last.at whole taken none) (put_on r f c sink 0 has.next.released last.count has.more last.more old now new has.put last.put);
      }

  -- a run that a put has ended, and that was stopped
  pub is_stopped : {S : Type 0} (sink : Telling S) (mid after : Parts M F) (old new : S) (has : HasCrashed r f c 0 mid sink old new) → IsStopped r f c has.next.appended has.next.released after → HasStopped r f c after sink old new
  is_stopped sink mid after old new has stopped = record {
    count = has.next.appended;
    put = has.next.released;
    failed = has.failed;
    stopped = stopped;
    added = subst (λ l. (held : List ℕ) → sink.holds old held → sink.holds new (held ++ l)) (first_released c has.broken.follows.course has.next has.broken.follows.sound has.broken.there) has.put;
    rose = has.rose;
  }
