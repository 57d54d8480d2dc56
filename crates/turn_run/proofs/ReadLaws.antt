-- A turn of a follower, where the core stands.
use Rattle.std.proofs.Common.{◌≡◌, ◌≢◌, ℕ, ◌+◌, ◌-◌, ◌<◌, Bool, true, false, cond, List, [], ◌∷◌, ◌++◌, length, take, Some, refl, sym, ap, subst, ◌∙◌, arith, lt-ltb}
use Rattle.std.specs.Prelude.{min, get_or, nat_eq, slice_get, slice_index, slice_set}
use Rattle.std.specs.List.{sum_by}
use Rattle.std.proofs.lemmas.Bool.{eqb-true, eqb-false}
use Rattle.std.proofs.lemmas.List.{get_or-set_same, get_or-set_other, length-map, length-set}
use Rattle.std.proofs.lemmas.List.Sums.{sum_by-set}
use Rattle.std.proofs.lemmas.Option.{slice_get_within}
use Rattle.circular_buffer.proofs.Places.{slice_get-set_same, slice_get-set_other}
use Rattle.list_laws.proofs.PrefixLaws.{take-next}
use Rattle.gate_core.specs.declared.take.Take.TheVariants.{Got}
use Rattle.gate_core.specs.declared.verdict.Verdict.{Verdict}
use Rattle.gate_core.specs.Core.{CoreState, TakeNext, Post, core_after, reached, IsSound}
use Rattle.gate_core.specs.Hub.{HubState, Gets, no_verdict, verdict_at, with_take, with_verdict}
use Rattle.gate_core.specs.Follow.{Does, approvals, hub_of}
use Rattle.gate_core.proofs.CoreLaws.{event_IsSound}
use Rattle.gate_core.proofs.FollowLaws.{takes, posts}
use Rattle.turn_run.specs.Following.{Following}
use Rattle.turn_run.specs.Course.{Course, Agrees, log_of, plan_of}
use Rattle.turn_run.specs.Replicas.{Follows, HasTaken, IsFollower, IsReaderOf, core_after_read}
use Rattle.turn_run.specs.Runs.{unread}
use Rattle.turn_run.proofs.CourseLaws.{is_plan, length_log}

module _ {F : Type 0} (f : Following F) (c : Course) (core : CoreState) (hub : HubState) (followers : List F) (fs : Follows f c core hub followers) where
  -- a follower is the hub's reader of its number
  pub is_reader : (reader : ℕ) (follower : F) → slice_get followers reader ≡ Some follower → IsReaderOf f hub reader follower (take (slice_index core.taken reader) (log_of c))
  is_reader reader follower at = record {
    there = omega (arith, slice_get_within followers reader follower at, fs.count, fs.sound.taken, ap (λ (h : HubState). length h.taken) fs.stands);
    taken = (fs.each reader follower at).taken;
    posted = fs.posted reader follower at;
  }

  module _ (reader : ℕ) (old new : F) (at : slice_get followers reader ≡ Some old) (hub' : HubState) (t : HasTaken f hub hub' reader old new (take (slice_index core.taken reader) (log_of c))) where
    abbrev count : ℕ
    count = slice_index core.taken reader

    there : reader < length c.limits
    there = omega (arith, slice_get_within followers reader old at, fs.count)

    law : Does (plan_of c) core (TakeNext reader) hub.verdicts (with_take (hub_of (plan_of c) core hub.verdicts) reader) × (slice_get (log_of c) count ≡ Some t.item)
    law = takes (plan_of c) core hub.verdicts reader t.item fs.sound there (subst (λ h. Gets h reader (Got t.item)) fs.stands t.given)

    pub took_less : slice_index core.taken reader < core.appended
    took_less = law.0.may.1

    longer : take (count + 1) (log_of c) ≡ take count (log_of c) ++ t.item ∷ []
    longer = take-next count (log_of c) t.item law.1

    core1 : CoreState
    core1 = core_after (plan_of c) core (TakeNext reader)

    number : slice_index (slice_set core.taken reader (count + 1)) reader ≡ count + 1
    number = get_or-set_same core.taken reader (count + 1) 0 (omega (arith, there, fs.sound.taken))

    others : (other : ℕ) → other ≢ reader → slice_index (slice_set core.taken reader (count + 1)) other ≡ slice_index core.taken other
    others other differs = get_or-set_other core.taken reader other (count + 1) 0 differs

    verdict : Verdict
    verdict = f.verdict new (take count (log_of c) ++ t.item ∷ [])

    verdict_is : f.verdict new (take count (log_of c) ++ t.item ∷ []) ≡ f.verdict old (take (count + 1) (log_of c))
    verdict_is = t.same (take count (log_of c) ++ t.item ∷ []) ∙ ap (f.verdict old) (sym longer)

    agrees_now : Agrees c reader (count + 1) (f.verdict old (take (count + 1) (log_of c)))
    agrees_now = (fs.each reader old at).agrees (count + 1) (omega (arith, took_less, fs.sound.appended, length_log c fs.course))

    approves_is : (f.verdict new (take count (log_of c) ++ t.item ∷ [])).approved ≡ min (slice_index c.limits reader) (reached (plan_of c) (slice_index (slice_set core.taken reader (count + 1)) reader))
    approves_is = ap (λ (v : Verdict). v.approved) verdict_is ∙ agrees_now.approved ∙ ap (λ n. min (slice_index c.limits reader) (reached (plan_of c) n)) (sym number)

    sound1 : IsSound (plan_of c) (core_after (plan_of c) core (TakeNext reader))
    sound1 = event_IsSound (plan_of c) core (TakeNext reader) (is_plan c fs.course) fs.sound law.0.may

    posted_law : Does (plan_of c) (core_after (plan_of c) core (TakeNext reader)) (Post reader) (slice_set hub.verdicts reader (f.verdict new (take count (log_of c) ++ t.item ∷ [])))
        (with_verdict (hub_of (plan_of c) (core_after (plan_of c) core (TakeNext reader)) hub.verdicts) reader (f.verdict new (take count (log_of c) ++ t.item ∷ [])))
        × (approvals (slice_set hub.verdicts reader (f.verdict new (take count (log_of c) ++ t.item ∷ []))) ≡ (core_after (plan_of c) (core_after (plan_of c) core (TakeNext reader)) (Post reader)).approved)
    posted_law = posts (plan_of c) (core_after (plan_of c) core (TakeNext reader)) hub.verdicts reader (f.verdict new (take count (log_of c) ++ t.item ∷ [])) there fs.approved approves_is

    hub_now : hub' ≡ hub_of (plan_of c) (core_after_read c core reader) (slice_set hub.verdicts reader (f.verdict new (take count (log_of c) ++ t.item ∷ [])))
    hub_now =
        t.hub_is
        ∙ ap (λ h. with_verdict (with_take h reader) reader (f.verdict new (take count (log_of c) ++ t.item ∷ []))) fs.stands
        ∙ ap (λ h. with_verdict h reader (f.verdict new (take count (log_of c) ++ t.item ∷ []))) law.0.after
        ∙ posted_law.0.after

    verdicts_now : hub'.verdicts ≡ slice_set hub.verdicts reader (f.verdict new (take count (log_of c) ++ t.item ∷ []))
    verdicts_now = λ i. (hub_now i).verdicts

    -- what holds of a follower and its number, once the record is taken
    module _ (P : ℕ → F → Type 0) (here : P reader new) (others_keep : (other : ℕ) (follower : F) → other ≢ reader → slice_get followers other ≡ Some follower → P other follower) where
      of_each : (other : ℕ) (follower : F) → slice_get (slice_set followers reader new) other ≡ Some follower → P other follower
      of_each other follower found = by (nat_eq other reader) refl
        where
          by : (b : Bool) → nat_eq other reader ≡ b → P other follower
          by true is =
              let same : other ≡ reader = eqb-true other reader is in
              let both : Some new ≡ Some follower = sym (slice_get-set_same followers reader new (slice_get_within followers reader old at)) ∙ ap (slice_get (slice_set followers reader new)) (sym same) ∙ found in
              let it : new ≡ follower = cc in
              subst (λ n. P n follower) (sym same) (subst (P reader) it here)
          by false is =
              let differs : other ≢ reader = eqb-false other reader is in
              others_keep other follower differs (sym (slice_get-set_other followers reader other new differs) ∙ found)

    each_now : (other : ℕ) (follower : F) → slice_get (slice_set followers reader new) other ≡ Some follower → IsFollower f c other (slice_index (slice_set core.taken reader (count + 1)) other) follower
    each_now =
        of_each (λ other follower. IsFollower f c other (slice_index (slice_set core.taken reader (count + 1)) other) follower)
        (record {
          taken = subst (λ n. f.has_taken new (take n (log_of c))) (sym number) (subst (f.has_taken new) (sym longer) t.taken);
          agrees = λ n le. subst (Agrees c reader n) (sym (t.same (take n (log_of c)))) ((fs.each reader old at).agrees n le);
        })
        (λ other follower differs before. subst (λ n. IsFollower f c other n follower) (sym (others other differs)) (fs.each other follower before))

    -- what each posted last
    posted_now : (other : ℕ) (follower : F) → slice_get (slice_set followers reader new) other ≡ Some follower → verdict_at hub' other ≡ f.verdict follower (take (slice_index (slice_set core.taken reader (count + 1)) other) (log_of c))
    posted_now =
        of_each (λ other follower. verdict_at hub' other ≡ f.verdict follower (take (slice_index (slice_set core.taken reader (count + 1)) other) (log_of c)))
        (ap (λ l. get_or l reader no_verdict) verdicts_now
        ∙ get_or-set_same hub.verdicts reader (f.verdict new (take count (log_of c) ++ t.item ∷ [])) no_verdict (omega (arith, there, sym (length-map hub.verdicts (λ (v : Verdict). v.approved)), ap length fs.approved, fs.sound.approved))
        ∙ ap (f.verdict new) (sym longer)
        ∙ ap (λ n. f.verdict new (take n (log_of c))) (sym number))
        (λ other follower differs before.
        ap (λ l. get_or l other no_verdict) verdicts_now
        ∙ get_or-set_other hub.verdicts reader other (f.verdict new (take count (log_of c) ++ t.item ∷ [])) no_verdict differs
        ∙ fs.posted other follower before
        ∙ ap (λ n. f.verdict follower (take n (log_of c))) (sym (others other differs)))

    pub follows_now : Follows f c (core_after_read c core reader) hub' (slice_set followers reader new)
    follows_now = record {
      course = fs.course;
      stands = hub_now ∙ ap (hub_of (plan_of c) (core_after_read c core reader)) (sym verdicts_now);
      approved = ap approvals verdicts_now ∙ posted_law.1;
      sound = event_IsSound (plan_of c) (core_after (plan_of c) core (TakeNext reader)) (Post reader) (is_plan c fs.course) sound1 posted_law.0.may;
      count = length-set followers reader new ∙ fs.count;
      each = each_now;
      posted = posted_now;
    }

-- each record that is taken is one less to be taken
pub unread-took : (hub : HubState) (reader : ℕ) (verdict : Verdict) → reader < length hub.taken → slice_index hub.taken reader < hub.appended
    → (unread (with_verdict (with_take hub reader) reader verdict) < unread hub) × (length (with_take hub reader).taken ≡ length hub.taken)
unread-took hub reader verdict there less =
    let taken = slice_index hub.taken reader in
    let is : (with_take hub reader).taken ≡ slice_set hub.taken reader (taken + 1) = ap (λ b. cond b (slice_set hub.taken reader (taken + 1)) hub.taken) (lt-ltb taken hub.appended less) in
    let sums = sum_by-set (λ count. hub.appended - count) hub.taken reader (taken + 1) 0 there in
    (omega (arith, ap (sum_by (λ count. hub.appended - count)) is, sums, less), ap length is ∙ length-set hub.taken reader (taken + 1))
