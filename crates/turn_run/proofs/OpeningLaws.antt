-- A run before its first turn.
use Rattle.std.proofs.Common.{◌≡◌, ℕ, zero, suc, ◌-◌, false, List, [], ◌∷◌, length, take, Some, None, refl, sym, ap, subst, ◌∙◌, arith}
use Rattle.std.specs.Prelude.{get_or, replicate, slice_get, slice_index}
use Rattle.std.proofs.Math.Seq.{drop-nil}
use Rattle.std.proofs.lemmas.List.{get_or-replicate}
use Rattle.std.proofs.lemmas.Option.{slice_get_within}
use Rattle.gate_core.specs.Core.{opening}
use Rattle.gate_core.specs.Hub.{HubState, empty_hub, hub_state, no_verdict}
use Rattle.gate_core.specs.Follow.{OpenFollows, approvals, hub_of}
use Rattle.gate_core.proofs.CoreLaws.{stays_IsSound}
use Rattle.output_gate.specs.Gate.{empty_gate}
use Rattle.any_machine.specs.Recording.{Recording}
use Rattle.turn_run.specs.declared.parts.Parts.{Parts}
use Rattle.turn_run.specs.Following.{Following, SaysNothing}
use Rattle.turn_run.specs.Course.{Course, log_of, plan_of}
use Rattle.turn_run.specs.Gates.{Gates}
use Rattle.turn_run.specs.Openings.{IsCourseOf, IsOpened}
use Rattle.turn_run.specs.Replicas.{Follows, IsFollower}
use Rattle.turn_run.specs.Sources.{StillToCome}
use Rattle.turn_run.proofs.CourseLaws.{is_plan}

opens : OpenFollows
opens plan = ap (λ l. hub_state plan.cap l 0 (replicate (length plan.limits) 0) (replicate (length plan.limits) no_verdict) false) (sym (drop-nil (0 - plan.cap)))

approvals-none : (n : ℕ) → approvals (replicate n no_verdict) ≡ replicate n 0
approvals-none zero = refl
approvals-none (suc n) = ap (λ l. 0 ∷ l) (approvals-none n)

opening_gates : (c : Course) → Gates c (opening (plan_of c)) empty_gate
opening_gates c = record {
  steps = refl;
  bytes = refl;
  issued = refl;
  released = refl;
  last = refl;
  passed = omega arith;
  withheld = tt;
  sound = refl;
  there = omega arith;
  few = omega arith;
}

module _ {M F : Type 0} (r : Recording M) (f : Following F) (starts : (x : F) → SaysNothing (f.verdict x [])) (c : Course) (recorder : M) (followers : List F) (readers : List ℕ) (places : ℕ)
    (of : IsCourseOf r f c recorder followers readers places) where
  none_taken : (reader : ℕ) (follower : F) → slice_get followers reader ≡ Some follower → slice_index (opening (plan_of c)).taken reader ≡ 0
  none_taken reader follower at = get_or-replicate (length c.limits) reader 0 0 (omega (arith, slice_get_within followers reader follower at, of.count))

  opening_follows : (hub : HubState) → hub ≡ empty_hub places (length followers) → Follows f c (opening (plan_of c)) hub followers
  opening_follows hub is =
      let all : hub ≡ hub_of (plan_of c) (opening (plan_of c)) (replicate (length c.limits) no_verdict) = is ∙ (λ i. empty_hub (sym of.cap i) (of.count i)) ∙ opens (plan_of c) in
      let verdicts : hub.verdicts ≡ replicate (length c.limits) no_verdict = ap (λ (h : HubState). h.verdicts) all in
      record {
        course = of.course;
        stands = all ∙ ap (hub_of (plan_of c) (opening (plan_of c))) (sym verdicts);
        approved = ap approvals verdicts ∙ approvals-none (length c.limits);
        sound = stays_IsSound (plan_of c) (is_plan c of.course) [] (opening (plan_of c)) refl;
        count = of.count;
        each = λ reader follower at. subst (λ n. IsFollower f c reader n follower) (sym (none_taken reader follower at)) (of.each reader follower at);
        posted = λ reader follower at.
            ap (λ l. get_or l reader no_verdict) verdicts
            ∙ get_or-replicate (length c.limits) reader no_verdict no_verdict (omega (arith, slice_get_within followers reader follower at, of.count))
            ∙ sym (starts follower)
            ∙ ap (λ n. f.verdict follower (take n (log_of c))) (sym (none_taken reader follower at));
      }

  pub opened : (parts : Parts M F) → StillToCome r parts.source c.items → parts.hub ≡ empty_hub places (length followers) → parts.followers.items ≡ followers → parts.required.items ≡ readers → parts.gate ≡ empty_gate
      → parts.end ≡ None → IsOpened r f c parts
  opened parts rest hub_is followers_are readers_are gate_is end_is = record {
    follows = subst (Follows f c (opening (plan_of c)) parts.hub) (sym followers_are) (opening_follows parts.hub hub_is);
    rest = rest;
    gates = subst (Gates c (opening (plan_of c))) (sym gate_is) (opening_gates c);
    required = readers_are ∙ of.required;
    end = end_is;
    sound = refl;
  }
