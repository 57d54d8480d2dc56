-- The gate of a run, when it releases and withholds.
use Rattle.memory_map.specs.declared.TheConstants.{MOST_STEPS}
use Rattle.std.proofs.Common.{◌≡◌, inl, inr, ℕ, zero, suc, ◌+◌, ◌-◌, ◌<◌, ◌≤◌, true, false, List, [], length, take, drop, Option, Some, None, refl, sym, ap, subst, ◌∙◌, arith, lt-ltb, ltb-true}
use Rattle.std.specs.Prelude.{nat_lt, slice_index, get_or, filter}
use Rattle.std.specs.List.{All}
use Rattle.std.proofs.Math.Seq.{drop-append_seam}
use Rattle.std.proofs.lemmas.List.{length-map, drop-map, drop-drop, drop-take, length-drop, take_all, take-take, length-take, take-map, get_or-map, get_or-drop, drop_all, length-take-le, get_or-take}
use Rattle.std.proofs.lemmas.Bool.{cases_lt}
use Rattle.std.proofs.lemmas.List.Prefix.{front_reads}
use Rattle.std.proofs.lemmas.List.Elements.{All-weaker, All-filter, All-drop, All-get_or, All-from_get_or, All-map, filter_passes, recursion_from_All}
use Rattle.list_laws.specs.Prefix.{IsPrefix}
use Rattle.list_laws.proofs.AllLaws.{filter-kept}
use Rattle.list_laws.proofs.PrefixLaws.{IsPrefix-trans, IsPrefix-map, IsPrefix-take, IsPrefix-length}
use Rattle.any_machine.specs.Log.{before_step, SentByte, sent_at, steps_of, bytes_in}
use Rattle.gate_core.specs.Core.{CoreState, Release, reached, IsSound, IsReleasable}
use Rattle.gate_core.proofs.CoreLaws.{event_IsSound}
use Rattle.output_gate.specs.Gate.{GateState, Climbs, passed_after, count_below, first_withheld, with_release, with_withheld}
use Rattle.output_gate.proofs.GateLaws.{Climbs-take, Climbs-drop, filter-climbs, count_below-within, count_below-before}
use Rattle.turn_run.specs.Course.{Course, IsCourse, output_of, stop_of, plan_of, end_of}
use Rattle.turn_run.specs.Gates.{Gates, IsLimit, IsWithheldFrom, issued_by, not_withheld, least_approved, still_waiting}
use Rattle.turn_run.specs.Runs.{with_released, bytes_between}
use Rattle.turn_run.proofs.ListLaws.{AllBelow, Climbs-prefix, passed_after-below, splits, split_IsPrefix, count-before, before-both, before-drop, before-long, filter-map-steps}
use Rattle.turn_run.proofs.LeastLaws.{least-each, least-above}
use Rattle.turn_run.proofs.CourseLaws.{is_plan, issued_IsPrefix, length_log}
use Rattle.turn_run.proofs.IssueLaws.{issued_under}

-- what is below a bound comes first among output whose steps rise
before-take : (bound low high : ℕ) (sent : List SentByte) → Climbs low (steps_of sent) high → take (count_below bound (steps_of sent)) sent ≡ before_step bound sent
before-take bound low high sent climbs =
    let split = splits bound low high sent climbs in
    ap (λ n. take n sent) (count-before bound sent)
    ∙ sym (IsPrefix-take (length (before_step bound sent)) (before_step bound sent) sent (split_IsPrefix bound sent split) (omega arith))
    ∙ take_all (length (before_step bound sent)) (before_step bound sent) (omega arith)

-- the output between two places, in other words
pub between_is : (c : Course) (from count : ℕ) → bytes_between c from (from + count) ≡ take count (bytes_in (drop from (output_of c)))
between_is c from count = ap bytes_in (drop-take from count (output_of c)) ∙ sym (take-map (λ (byte : SentByte). byte.byte) count (drop from (output_of c)))

-- some first ones of the output between two places
pub between-prefix : (c : Course) (from count : ℕ) (part_of : List ℕ) → IsPrefix part_of (bytes_between c from (from + count)) → (length part_of ≤ count) × (part_of ≡ bytes_between c from (from + length part_of))
between-prefix c from count part_of is =
    let rest = bytes_in (drop from (output_of c)) in
    let of_rest : IsPrefix part_of (take count rest) = subst (IsPrefix part_of) (between_is c from count) is in
    let short : length part_of ≤ count = omega (arith, IsPrefix-length part_of (take count rest) of_rest, length-take count rest) in (
      short,
      sym (take_all (length part_of) part_of (omega arith)) ∙ IsPrefix-take (length part_of) part_of (take count rest) of_rest (omega arith) ∙ take-take (length part_of) count rest short ∙ sym (between_is c from (length part_of)),
    )

-- after it nothing is below the bound
none-after : (bound low high : ℕ) (sent : List SentByte) → Climbs low (steps_of sent) high → before_step bound (drop (count_below bound (steps_of sent)) sent) ≡ []
none-after bound low high sent climbs =
    let split = splits bound low high sent climbs in
    ap (before_step bound) (ap (λ n. drop n sent) (count-before bound sent) ∙ ap (drop (length (before_step bound sent))) (sym split.joined) ∙ drop-append_seam (before_step bound sent) split.rest) ∙ split.none

module _ (c : Course) (is : IsCourse c) (from : Option ℕ) (a : ℕ) where
  issued_climbs : Climbs 0 (steps_of (issued_by c a)) (end_of c)
  issued_climbs =
      Climbs-prefix (steps_of (issued_by c a)) (steps_of (output_of c)) 0 (end_of c) (IsPrefix-map (λ (byte : SentByte). byte.step) (issued_IsPrefix c is a)) is.climbs

  kept_by : (o : Option ℕ) → Climbs 0 (steps_of (not_withheld o (issued_by c a))) (end_of c) × IsPrefix (not_withheld o (issued_by c a)) (output_of c)
  kept_by None = (issued_climbs, issued_IsPrefix c is a)
  kept_by (Some step) =
      let split = splits step 0 (end_of c) (issued_by c a) issued_climbs in (
        subst (λ l. Climbs 0 l (end_of c)) (sym (filter-climbs (steps_of (issued_by c a)) 0 (end_of c) step issued_climbs) ∙ filter-map-steps step (issued_by c a))
            (Climbs-take (count_below step (steps_of (issued_by c a))) (steps_of (issued_by c a)) 0 (end_of c) issued_climbs),
        IsPrefix-trans (split_IsPrefix step (issued_by c a) split) (issued_IsPrefix c is a),
      )

  pub kept_IsPrefix : IsPrefix (not_withheld from (issued_by c a)) (output_of c)
  kept_IsPrefix = (kept_by from).1

  kept_climbs : Climbs 0 (steps_of (not_withheld from (issued_by c a))) (end_of c)
  kept_climbs = (kept_by from).0

  kept_short_by : (o : Option ℕ) → length (not_withheld o (issued_by c a)) ≤ length (issued_by c a)
  kept_short_by None = omega arith
  kept_short_by (Some step) = IsPrefix-length (before_step step (issued_by c a)) (issued_by c a) (split_IsPrefix step (issued_by c a) (splits step 0 (end_of c) (issued_by c a) issued_climbs))

  kept_short : length (not_withheld from (issued_by c a)) ≤ length (issued_by c a)
  kept_short = kept_short_by from

  kept_under_by : (low : ℕ) (o : Option ℕ) → AllBelow low (issued_by c a) → AllBelow low (not_withheld o (issued_by c a))
  kept_under_by low None all = all
  kept_under_by low (Some step) all = All-filter (λ (byte : SentByte). nat_lt byte.step step) (λ (byte : SentByte). byte.step < low) (issued_by c a) all

-- the bytes that a sound core has released are below the limit of each required replica, and below the stop
module _ (c : Course) (is : IsCourse c) (core : CoreState) (sound : IsSound (plan_of c) core) where
  long : core.released ≤ length (output_of c)
  long = omega (arith, sound.released, length-map (output_of c) (λ (byte : SentByte). byte.step))

  below_limit : (i : ℕ) → i < core.released → (place : ℕ) → place < length c.required → slice_index (steps_of (output_of c)) i < slice_index c.limits (slice_index c.required place)
  below_limit i less place there =
      let approved = (sound.may_go i less).approved (slice_index c.required place) (place, there, refl) in
      let reader : slice_index c.required place < length c.limits = All-get_or (λ reader. reader < length c.limits) c.required place 0 there is.required in
      let limit = (sound.readers (slice_index c.required place) reader).limit in
      omega (arith, approved, limit)

  below_stop : (i : ℕ) → i < core.released → slice_index (steps_of (output_of c)) i < stop_of c
  below_stop i less =
      let within = (is_plan c is).within i (omega (arith, less, sound.released)) in
      least-above c.limits (end_of c) (slice_index (steps_of (output_of c)) i) within c.required (below_limit i less)

  all_under : (bound : ℕ) → ((i : ℕ) → i < core.released → slice_index (steps_of (output_of c)) i < bound) → AllBelow bound (take core.released (output_of c))
  all_under bound each =
      All-from_get_or (λ (byte : SentByte). byte.step < bound) (take core.released (output_of c)) (sent_at 0 0) (λ i less.
      let within : i < core.released = omega (arith, less, length-take-le core.released (output_of c) long) in
      let same : (get_or (take core.released (output_of c)) i (sent_at 0 0)).step ≡ slice_index (steps_of (output_of c)) i =
      ap (λ (byte : SentByte). byte.step) (get_or-take core.released (output_of c) i (sent_at 0 0) within)
      ∙ sym (get_or-map (λ (byte : SentByte). byte.step) (output_of c) i (sent_at 0 0) 0 (omega (arith, within, long))) in
      let below = each i within in omega (arith, below, same))

  pub released_below : AllBelow (stop_of c) (take core.released (output_of c))
  released_below = all_under (stop_of c) below_stop

  pub released_limit : (from : ℕ) → IsLimit c from → AllBelow from (take core.released (output_of c))
  released_limit from limit = all_under from (λ i less. let below = below_limit i less limit.place limit.there in omega (arith, below, limit.is))

module _ (c : Course) (is : IsCourse c) (core : CoreState) (gate : GateState) (g : Gates c core gate) where
  abbrev all_kept : List SentByte
  all_kept = not_withheld gate.from (issued_by c core.appended)

  begins : IsPrefix all_kept (output_of c)
  begins = kept_IsPrefix c is gate.from core.appended

  waiting_climbs : Climbs (passed_after 0 (take core.released (steps_of all_kept))) gate.steps (end_of c)
  waiting_climbs =
      subst (λ l. Climbs (passed_after 0 (take core.released (steps_of all_kept))) l (end_of c)) (drop-map (λ (byte : SentByte). byte.step) core.released all_kept ∙ sym g.steps)
      (Climbs-drop core.released (steps_of all_kept) 0 (end_of c) (kept_climbs c is gate.from core.appended))

  still_climbs : Climbs (passed_after 0 (take core.released (steps_of all_kept))) (steps_of (still_waiting c core gate.from)) (end_of c)
  still_climbs = subst (λ l. Climbs (passed_after 0 (take core.released (steps_of all_kept))) l (end_of c)) g.steps waiting_climbs

  module _ (below : ℕ) (least : below ≡ least_approved core.approved c.required) where
    abbrev count : ℕ
    count = count_below below gate.steps

    room : core.released + count_below below gate.steps ≤ length all_kept
    room = omega (arith, count_below-within below gate.steps, ap length g.steps, length-map (still_waiting c core gate.from) (λ (byte : SentByte). byte.step), length-drop core.released all_kept, g.there)

    pub within_issued : core.released + count_below below gate.steps ≤ length (issued_by c core.appended)
    within_issued = omega (arith, room, kept_short c is gate.from core.appended)

    passed_below : passed_after gate.passed (take count gate.steps) ≤ below
    passed_below =
        passed_after-below (take count gate.steps) gate.passed below (omega (arith, g.passed, least))
        (subst (All (λ step. step < below)) (filter-climbs gate.steps (passed_after 0 (take core.released (steps_of all_kept))) (end_of c) below waiting_climbs)
        (All-weaker (λ step. nat_lt step below ≡ true) (λ step. step < below) (λ step lt. ltb-true step below lt) (filter (λ step. nat_lt step below) gate.steps) (filter_passes (λ step. nat_lt step below) gate.steps)))

    pub after_release : Gates c (with_released core (core.released + count_below below gate.steps)) (with_release gate (count_below below gate.steps))
    after_release = record {
      steps = ap (drop count) g.steps ∙ drop-map (λ (byte : SentByte). byte.step) count (still_waiting c core gate.from) ∙ ap steps_of (drop-drop count core.released all_kept);
      bytes = ap (drop count) g.bytes ∙ drop-map (λ (byte : SentByte). byte.byte) count (still_waiting c core gate.from) ∙ ap bytes_in (drop-drop count core.released all_kept);
      issued = g.issued;
      released = ap (λ n. n + count) g.released;
      last = g.last;
      passed = omega (arith, passed_below, least);
      withheld = g.withheld;
      sound = g.sound;
      there = room;
      few = omega (arith, length-drop count gate.steps, g.few);
    }

    -- the bytes that are put
    pub put_is : take (count_below below gate.steps) gate.bytes ≡ bytes_between c core.released (core.released + count_below below gate.steps)
    put_is =
        ap (take count) g.bytes
        ∙ take-map (λ (byte : SentByte). byte.byte) count (still_waiting c core gate.from)
        ∙ ap bytes_in (sym (drop-take core.released count all_kept) ∙ ap (drop core.released) (IsPrefix-take (core.released + count) all_kept (output_of c) begins room))

    -- each of them may be released
    step_is : (byte : ℕ) → core.released ≤ byte → byte < core.released + count → slice_index (steps_of (output_of c)) byte ≡ slice_index gate.steps (byte - core.released)
    step_is byte from to =
        let within : byte < length (steps_of all_kept) = omega (arith, to, room, length-map all_kept (λ (byte : SentByte). byte.step)) in
        let steps = IsPrefix-map (λ (byte : SentByte). byte.step) begins in
        front_reads 0 (steps_of (output_of c)) (steps_of all_kept) steps.rest (sym steps.joined) byte within
        ∙ ap (λ n. slice_index (steps_of all_kept) n) (let e : byte ≡ core.released + (byte - core.released) = omega (arith, from) in e)
        ∙ sym (get_or-drop core.released (steps_of all_kept) (byte - core.released) 0)
        ∙ ap (λ l. slice_index l (byte - core.released)) (drop-map (λ (byte : SentByte). byte.step) core.released all_kept ∙ sym g.steps)

    few : IsSound (plan_of c) core → core.appended ≤ length c.items
    few sound = omega (arith, sound.appended, length_log c is)

    pub all_reached : core.appended ≤ length c.items → All (λ step. step < reached (plan_of c) core.appended) gate.steps
    all_reached le =
        subst (All (λ step. step < reached (plan_of c) core.appended)) (sym g.steps)
        (All-map (λ step. step < reached (plan_of c) core.appended) (λ (byte : SentByte). byte.step) (still_waiting c core gate.from)
        (All-drop (λ (byte : SentByte). byte.step < reached (plan_of c) core.appended) core.released all_kept (kept_under_by c is gate.from core.appended (reached (plan_of c) core.appended) gate.from (issued_under c is core.appended le))))

    pub releasable : IsSound (plan_of c) core → core.failed ≡ false → 1 ≤ count_below below gate.steps → IsReleasable (plan_of c) core (count_below below gate.steps)
    releasable sound fine some = record {
      sound = fine;
      some = some;
      piece = omega (arith, count_below-within below gate.steps, g.few);
      there = omega (arith, room, IsPrefix-length all_kept (output_of c) begins, length-map (output_of c) (λ (byte : SentByte). byte.step));
      may_go = λ byte from to.
          let here = step_is byte from to in
          let place : byte - core.released < count_below below gate.steps = omega (arith, from, to) in
          let low = count_below-before gate.steps (passed_after 0 (take core.released (steps_of all_kept))) (end_of c) below (byte - core.released) waiting_climbs place in
          let reach = All-get_or (λ step. step < reached (plan_of c) core.appended) gate.steps (byte - core.released) 0 (omega (arith, place, count_below-within below gate.steps)) (all_reached (few sound)) in
          record {
            reached = omega (arith, here, reach);
            approved = λ reader required. (
                let each = least-each core.approved MOST_STEPS c.required required.0 required.1 in
                subst (λ r. slice_index (steps_of (output_of c)) byte < slice_index core.approved r) required.2 (omega (arith, here, low, least, each)));
          };
    }

    -- and the core stays sound
    pub release_sound : IsSound (plan_of c) core → core.failed ≡ false → IsSound (plan_of c) (with_released core (core.released + count_below below gate.steps))
    release_sound sound fine = by count refl
      where
        by : (n : ℕ) → count_below below gate.steps ≡ n → IsSound (plan_of c) (with_released core (core.released + count_below below gate.steps))
        by zero none = subst (λ n. IsSound (plan_of c) (with_released core n)) (let e : core.released ≡ core.released + count_below below gate.steps = omega (arith, none) in e) sound
        by (suc n) some = event_IsSound (plan_of c) core (Release (count_below below gate.steps)) (is_plan c is) sound (releasable sound fine (omega (arith, some)))

    -- where all that was appended is approved, nothing waits after a release
    pub none_waits : core.appended ≤ length c.items → reached (plan_of c) core.appended ≤ below → drop (count_below below gate.steps) gate.steps ≡ []
    none_waits le all =
        let every : filter (λ step. nat_lt step below) gate.steps ≡ gate.steps =
        filter-kept (λ step. nat_lt step below) gate.steps (recursion_from_All (λ step. nat_lt step below ≡ true) gate.steps (All-weaker (λ step. step < reached (plan_of c) core.appended) (λ step. nat_lt step below ≡ true) (λ step less. lt-ltb step below (omega (arith, less, all))) gate.steps (all_reached le))) in
        let whole : length (filter (λ step. nat_lt step below) gate.steps) ≡ length gate.steps = ap length every in
        drop_all (count_below below gate.steps) gate.steps (omega (arith, whole))

    -- after a release nothing is below the bound
    pub none_below : count_below below (drop (count_below below gate.steps) gate.steps) ≡ 0
    none_below =
        let low = passed_after 0 (take core.released (steps_of all_kept)) in
        let sent = still_waiting c core gate.from in
        let rest : drop (count_below below gate.steps) gate.steps ≡ steps_of (drop (count_below below (steps_of sent)) sent) =
        (λ i. drop (count_below below (g.steps i)) (g.steps i)) ∙ drop-map (λ (byte : SentByte). byte.step) (count_below below (steps_of sent)) sent in
        ap (count_below below) rest ∙ count-before below (drop (count_below below (steps_of sent)) sent) ∙ ap length (none-after below low (end_of c) sent still_climbs)

  -- after the gate withheld from the limit of a required replica on
  module _ (sound : IsSound (plan_of c) core) (from : ℕ) (limit : IsLimit c from) where
    kept_first : AllBelow from (take core.released all_kept)
    kept_first = subst (AllBelow from) (sym (IsPrefix-take core.released all_kept (output_of c) begins g.there)) (released_limit c is core sound from limit)

    kept_both : before_step from all_kept ≡ not_withheld (Some (first_withheld gate.from from)) (issued_by c core.appended)
    kept_both = by gate.from
      where
        by : (o : Option ℕ) → before_step from (not_withheld o (issued_by c core.appended)) ≡ not_withheld (Some (first_withheld o from)) (issued_by c core.appended)
        by None = refl
        by (Some first) = before-both first from (issued_by c core.appended)

    limit_both : IsWithheldFrom c (Some (first_withheld gate.from from))
    limit_both = by gate.from g.withheld
      where
        by : (o : Option ℕ) → IsWithheldFrom c o → IsWithheldFrom c (Some (first_withheld o from))
        by None none = limit
        by (Some first) before = elim (cases_lt first from) [
          | inl less ↦ record { place = before.place; there = before.there; is = omega (arith, less, before.is) }
          | inr le ↦ record { place = limit.place; there = limit.there; is = omega (arith, le, limit.is) }
        ]

    still_is : take (count_below from gate.steps) (still_waiting c core gate.from) ≡ still_waiting c core (Some (first_withheld gate.from from))
    still_is =
        ap (λ l. take (count_below from l) (still_waiting c core gate.from)) g.steps
        ∙ before-take from (passed_after 0 (take core.released (steps_of all_kept))) (end_of c) (still_waiting c core gate.from) still_climbs
        ∙ before-drop from core.released all_kept g.there kept_first
        ∙ ap (drop core.released) kept_both

    pub after_withhold : Gates c core (with_withheld gate from)
    after_withhold = record {
      steps = ap (take (count_below from gate.steps)) g.steps ∙ take-map (λ (byte : SentByte). byte.step) (count_below from gate.steps) (still_waiting c core gate.from) ∙ ap steps_of still_is;
      bytes = ap (take (count_below from gate.steps)) g.bytes ∙ take-map (λ (byte : SentByte). byte.byte) (count_below from gate.steps) (still_waiting c core gate.from) ∙ ap bytes_in still_is;
      issued = g.issued;
      released = g.released;
      last = g.last;
      passed = g.passed;
      withheld = limit_both;
      sound = g.sound;
      there = subst (λ l. core.released ≤ length l) kept_both (before-long from core.released all_kept g.there kept_first);
      few = omega (arith, length-take-le (count_below from gate.steps) gate.steps (count_below-within from gate.steps), count_below-within from gate.steps, g.few);
    }
