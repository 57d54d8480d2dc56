-- A turn of the gate, where the core stands.
use Rattle.memory_map.specs.declared.TheConstants.{MOST_STEPS}
use Rattle.std.proofs.Common.{◌≡◌, ◌⊎◌, inl, inr, ℕ, ◌+◌, ◌<◌, ◌≤◌, true, false, Bool, List, [], length, take, drop, refl, sym, ap, subst, ◌∙◌, arith}
use Rattle.std.specs.Prelude.{slice_index}
use Rattle.std.specs.List.{All}
use Rattle.std.proofs.lemmas.Bool.{cases_lt}
use Rattle.std.proofs.lemmas.List.{length-drop, nil_from_length}
use Rattle.std.proofs.lemmas.Option.{slice_get_cases}
use Rattle.std.proofs.lemmas.List.Elements.{All-from_get_or, All-get_or}
use Rattle.after_edge.specs.Sink.{Telling, Adds, Writes, WritesPart}
use Rattle.after_edge.proofs.SinkLaws.{Writes-same, WritesPart-same}
use Rattle.gate_core.specs.Core.{CoreState, Break, May, IsSound}
use Rattle.gate_core.specs.Hub.{HubState, approved_at, verdict_at}
use Rattle.gate_core.specs.Follow.{approvals}
use Rattle.gate_core.proofs.CoreLaws.{event_IsSound}
use Rattle.output_gate.specs.Gate.{GateState, count_below, with_failure, with_release}
use Rattle.output_gate.proofs.GateLaws.{count_below-within}
use Rattle.turn_run.specs.declared.parts.Parts.{Parts}
use Rattle.any_machine.specs.Recording.{Recording}
use Rattle.turn_run.specs.Following.{Following}
use Rattle.turn_run.specs.Course.{Course, IsCourse, Agrees, plan_of}
use Rattle.turn_run.specs.Gates.{Gates, IsLimit, least_approved, refusals, withheld_from}
use Rattle.turn_run.specs.Replicas.{Follows}
use Rattle.turn_run.specs.Runs.{AllTaken, HasBroken, HasReleased, IsAt, approved_count, bytes_between, with_released}
use Rattle.turn_run.proofs.CourseLaws.{is_plan, length_log, reach_within}
use Rattle.turn_run.proofs.LeastLaws.{least-each, least-is}
use Rattle.turn_run.proofs.PartLaws.{approved_is}
use Rattle.turn_run.proofs.ReleaseLaws.{after_release, between-prefix, none_below, none_waits, put_is, releasable, release_sound, within_issued}
use Rattle.turn_run.proofs.WithholdLaws.{all-withheld, refusals-all, refusals-one, withheld-fewer, withheld-none, withheld-short}

-- the followers stand as well where other bytes were released or a put has failed
pub follows_on : {F : Type 0} (f : Following F) (c : Course) (core : CoreState) (hub : HubState) (followers : List F) → Follows f c core hub followers → (failed : Bool) (released : ℕ)
    → IsSound (plan_of c) (record core { failed = failed; released = released }) → Follows f c (record core { failed = failed; released = released }) hub followers
follows_on f c core hub followers fs failed released sound =
    record { course = fs.course; stands = fs.stands; approved = fs.approved; sound = sound; count = fs.count; each = fs.each; posted = fs.posted }

module _ {M F : Type 0} (r : Recording M) (f : Following F) (c : Course) (core : CoreState) (parts : Parts M F) (at : IsAt r f c core parts) where
  abbrev is : IsCourse c
  is = at.follows.course

  -- what is posted for a reader is what its follower says of the records that it has taken
  pub verdict_agrees : (reader : ℕ) → reader < length c.limits → Agrees c reader (slice_index core.taken reader) (verdict_at parts.hub reader)
  verdict_agrees reader there = elim (slice_get_cases parts.followers.items reader).1 [
    | inl (follower, less, here, same) ↦ (
        let fs = at.follows in
        let taken = (fs.sound.readers reader there).taken in
        subst (Agrees c reader (slice_index core.taken reader)) (sym (fs.posted reader follower here)) ((fs.each reader follower here).agrees (slice_index core.taken reader) (omega (arith, taken, fs.sound.appended, length_log c is))))
    | inr (past, none) ↦ absurd (omega (arith, past, there, at.follows.count))
  ]

  required_there : (place : ℕ) → place < length c.required → slice_index c.required place < length c.limits
  required_there place less = All-get_or (λ reader. reader < length c.limits) c.required place 0 less is.required

  pub posted_is : (reader : ℕ) → approved_at parts.hub reader ≡ slice_index core.approved reader
  posted_is reader = approved_is parts.hub reader ∙ ap (λ l. slice_index l reader) at.follows.approved

  -- what a required reader refuses is its limit
  limit_of : (place : ℕ) → place < length c.required → (verdict_at parts.hub (slice_index c.required place)).refused ≡ true → IsLimit c (approved_at parts.hub (slice_index c.required place))
  limit_of place less refused =
      let agrees = verdict_agrees (slice_index c.required place) (required_there place less) in
      record { place = place; there = less; is = omega (arith, agrees.approved, agrees.refused refused) }

  limits_of : (place : ℕ) → place < length (refusals parts.hub c.required) → IsLimit c (slice_index (refusals parts.hub c.required) place)
  limits_of = refusals-all parts.hub (IsLimit c) c.required limit_of

  module _ (below : ℕ) (low : below ≡ least_approved (approvals parts.hub.verdicts) parts.required.items) where
    least : below ≡ least_approved core.approved c.required
    least = low ∙ (λ i. least_approved (at.follows.approved i) (at.required i))

    abbrev count : ℕ
    count = count_below below parts.gate.steps

    abbrev freed : GateState
    freed = with_release parts.gate (count_below below parts.gate.steps)

    gates_now : Gates c (with_released core (core.released + count_below below parts.gate.steps)) (with_release parts.gate (count_below below parts.gate.steps))
    gates_now = after_release c is core parts.gate at.gates below least

    sound_now : IsSound (plan_of c) (with_released core (core.released + count_below below parts.gate.steps))
    sound_now = release_sound c is core parts.gate at.gates below least at.follows.sound at.sound

    -- what was put is approved by each required reader
    pub passed_low : (gate : GateState) → gate ≡ with_release parts.gate (count_below below parts.gate.steps) → All (λ reader. gate.passed ≤ approved_at parts.hub reader) parts.required.items
    passed_low gate made = subst (All (λ reader. gate.passed ≤ approved_at parts.hub reader)) (sym at.required)
        (All-from_get_or (λ reader. gate.passed ≤ approved_at parts.hub reader) c.required 0 (λ place less.
        let each = least-each core.approved MOST_STEPS c.required place less in
        omega (arith, ap (λ (g : GateState). g.passed) made, gates_now.passed, each, posted_is (slice_index c.required place))))

    gates_after : Gates c (with_released core (core.released + count_below below parts.gate.steps)) (withheld_from (refusals parts.hub c.required) (with_release parts.gate (count_below below parts.gate.steps)))
    gates_after = all-withheld c is (with_released core (core.released + count)) sound_now (refusals parts.hub c.required) limits_of freed gates_now

    -- where all was taken and approved, nothing waits
    gone : drop (count_below below parts.gate.steps) parts.gate.steps ≡ [] → (withheld_from (refusals parts.hub c.required) (with_release parts.gate (count_below below parts.gate.steps))).steps ≡ []
    gone none = nil_from_length (withheld_from (refusals parts.hub c.required) freed).steps (omega (arith, withheld-short (refusals parts.hub c.required) freed, ap length none))

    short : core.appended ≤ length c.items
    short = omega (arith, at.follows.sound.appended, length_log c is)

    by_verdict : (place : ℕ) → place < length c.required → below ≡ slice_index core.approved (slice_index c.required place) → slice_index core.taken (slice_index c.required place) ≡ core.appended
        → (b : Bool) → (verdict_at parts.hub (slice_index c.required place)).refused ≡ b → (withheld_from (refusals parts.hub c.required) (with_release parts.gate (count_below below parts.gate.steps))).steps ≡ []
    by_verdict place less here all true refused =
        let one = refusals-one parts.hub c.required place less refused in
        withheld-none (refusals parts.hub c.required) freed below one.0 one.1 (one.2 ∙ posted_is (slice_index c.required place) ∙ sym here) (none_below c is core parts.gate at.gates below least)
    by_verdict place less here all false passed =
        let reader = slice_index c.required place in
        let agrees = subst (λ n. Agrees c reader n (verdict_at parts.hub reader)) all (verdict_agrees reader (required_there place less)) in
        gone (none_waits c is core parts.gate at.gates below least short (omega (arith, agrees.approved, agrees.passed passed, posted_is reader, here)))

    none_left : AllTaken c core → (withheld_from (refusals parts.hub c.required) (with_release parts.gate (count_below below parts.gate.steps))).steps ≡ []
    none_left taken = elim (least-is core.approved MOST_STEPS c.required) [
      | inl all ↦ gone (none_waits c is core parts.gate at.gates below least short (omega (arith, reach_within c is core.appended, is.within, least, all)))
      | inr (place, less, here) ↦ by_verdict place less (least ∙ here) (taken (slice_index c.required place) (required_there place less)) (verdict_at parts.hub (slice_index c.required place)).refused refl
    ]

    -- something was put or dropped, or nothing has changed
    fewer_of : ((withheld_from (refusals parts.hub c.required) (with_release parts.gate (count_below below parts.gate.steps))).steps ≡ parts.gate.steps) × (core.released + count_below below parts.gate.steps ≡ core.released)
        ⊎ (length (withheld_from (refusals parts.hub c.required) (with_release parts.gate (count_below below parts.gate.steps))).steps < length parts.gate.steps)
    fewer_of = elim (cases_lt 0 (count_below below parts.gate.steps)) [
      | inl some ↦ inr (omega (arith, some, withheld-short (refusals parts.hub c.required) freed, length-drop (count_below below parts.gate.steps) parts.gate.steps, count_below-within below parts.gate.steps))
      | inr none ↦ (
          let zero_is : count_below below parts.gate.steps ≡ 0 = omega (arith, none) in
          let same : drop (count_below below parts.gate.steps) parts.gate.steps ≡ parts.gate.steps = ap (λ n. drop n parts.gate.steps) zero_is in
          elim (withheld-fewer (refusals parts.hub c.required) freed) [
            | inl still ↦ inl (still ∙ same, omega (arith, zero_is))
            | inr less ↦ inr (omega (arith, less, ap length same))
          ])
    ]

    module _ {S : Type 0} (sink : Telling S) (old new : S) where
      pub released_on : (gate : GateState) → gate ≡ withheld_from (refusals parts.hub parts.required.items) (with_release parts.gate (count_below below parts.gate.steps)) → Writes sink old new (take (count_below below parts.gate.steps) parts.gate.bytes)
          → HasReleased r f c core parts (record { source = parts.source; hub = parts.hub; followers = parts.followers; required = parts.required; gate = gate; end = parts.end }) sink old new
      released_on gate made added =
          let here : gate ≡ withheld_from (refusals parts.hub c.required) (with_release parts.gate (count_below below parts.gate.steps)) = made ∙ ap (λ l. withheld_from (refusals parts.hub l) freed) at.required in
          record {
            count = core.released + count_below below parts.gate.steps;
            exact = ap (λ n. core.released + count_below n parts.gate.steps) least;
            gate = here ∙ ap (λ n. withheld_from (refusals parts.hub c.required) (with_release parts.gate (count_below n parts.gate.steps))) least;
            more = omega arith;
            at = record {
              follows = follows_on f c core parts.hub parts.followers.items at.follows core.failed (core.released + count_below below parts.gate.steps) sound_now;
              rest = at.rest;
              gates = subst (Gates c (with_released core (core.released + count_below below parts.gate.steps))) (sym here) gates_after;
              required = at.required;
              end = at.end;
              sound = at.sound;
            };
            put = Writes-same sink old new (put_is c is core parts.gate at.gates below least) added;
            none = λ taken. ap (λ (g : GateState). g.steps) here ∙ none_left taken;
            source = refl;
            hub = refl;
            followers = refl;
            fewer = subst (λ (g : GateState). (g.steps ≡ parts.gate.steps) × (core.released + count_below below parts.gate.steps ≡ core.released) ⊎ (length g.steps < length parts.gate.steps)) (sym here) fewer_of;
          }

      pub broken_off : (gate : GateState) → gate ≡ with_failure parts.gate (count_below below parts.gate.steps) → 1 ≤ count_below below parts.gate.steps → WritesPart sink old new (take (count_below below parts.gate.steps) parts.gate.bytes)
          → HasBroken r f c core parts (record { source = parts.source; hub = parts.hub; followers = parts.followers; required = parts.required; gate = gate; end = parts.end }) sink old new
      broken_off gate made some added =
          let plan = plan_of c in
          let low = least_approved core.approved c.required in
          let piece = approved_count r f c core parts.gate in
          let same : count ≡ piece = ap (λ n. count_below n parts.gate.steps) least in
          let failed : gate ≡ with_failure parts.gate piece = made ∙ ap (with_failure parts.gate) same in
          let puts : take count parts.gate.bytes ≡ bytes_between c core.released (core.released + piece) = ap (λ n. take n parts.gate.bytes) same ∙ put_is c is core parts.gate at.gates low refl in
          let part : WritesPart sink old new (bytes_between c core.released (core.released + piece)) = WritesPart-same sink old new puts added in
          let begins = between-prefix c core.released piece part.part part.is_prefix in
          let done = length part.part in
          let may : May plan core (Break piece done) = (releasable c is core parts.gate at.gates low refl at.follows.sound at.sound (omega (arith, some, same)), begins.0) in
          record {
            done = done;
            may = may;
            put = subst (Adds sink.holds old new) begins.1 part.added;
            rose = part.rose;
            gate = failed;
            broken = record {
              follows = follows_on f c core parts.hub parts.followers.items at.follows true (core.released + done) (event_IsSound plan core (Break piece done) (is_plan c is) at.follows.sound may);
              end = at.end;
              issued = ap (λ (g : GateState). g.issued) failed ∙ at.gates.issued;
              released = omega (arith, ap (λ (g : GateState). g.released) failed, at.gates.released);
              there = omega (arith, begins.0, within_issued c is core parts.gate at.gates low refl);
              failed = refl;
            };
            source = refl;
            hub = refl;
            followers = refl;
            required = refl;
          }
