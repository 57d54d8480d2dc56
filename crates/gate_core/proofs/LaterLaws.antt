-- No event takes back what was done.
use Rattle.std.proofs.Common.{◌≡◌, ℕ, ◌+◌, Bool, true, false, [], ◌∷◌, slice_index, arith, refl, sym, subst, ◌∙◌}
use Rattle.gate_core.specs.Core.{Plan, CoreState, CoreEvent, Append, Close, TakeNext, Post, Release, Break, IsReleasable, MayAppend, May, approves, core_after, IsSoundAt, IsSound, IsLater, TakesNothingBack}
use Rattle.gate_core.proofs.CoreLaws.{event_IsSound, set_grows}

same_IsLater : (plan : Plan) (s : CoreState) → IsLater plan s s
same_IsLater plan s = record {
  appended = omega arith;
  released = omega arith;
  taken = λ reader low. omega arith;
  approved = λ reader low. omega arith;
  closed = λ h. (h, refl);
  failed = λ h. (h, refl, refl);
}

then_IsLater : (plan : Plan) (a b c : CoreState) → IsLater plan a b → IsLater plan b c → IsLater plan a c
then_IsLater plan a b c first second = record {
  appended = omega (arith, first.appended, second.appended);
  released = omega (arith, first.released, second.released);
  taken = λ reader low. omega (arith, first.taken reader low, second.taken reader low);
  approved = λ reader low. omega (arith, first.approved reader low, second.approved reader low);
  closed = λ h.
      let one = first.closed h in
      let two = second.closed one.0 in
      (two.0, two.1 ∙ one.1);
  failed = λ h.
      let one = first.failed h in
      let two = second.failed one.0 in
      (two.0, two.1 ∙ one.1, two.2 ∙ one.2);
}

append_IsLater : (plan : Plan) (s : CoreState) → MayAppend plan s → IsLater plan s (core_after plan s Append)
append_IsLater plan s may = record {
  appended = omega arith;
  released = omega arith;
  taken = λ reader low. omega arith;
  approved = λ reader low. omega arith;
  closed = λ h. let both : false ≡ true = sym may.«open» ∙ h in grind arith;
  failed = λ h. let both : false ≡ true = sym may.sound ∙ h in grind arith;
}

close_IsLater : (plan : Plan) (s : CoreState) → IsLater plan s (core_after plan s Close)
close_IsLater plan s = record {
  appended = omega arith;
  released = omega arith;
  taken = λ reader low. omega arith;
  approved = λ reader low. omega arith;
  closed = λ h. (refl, refl);
  failed = λ h. (h, refl, refl);
}

take_IsLater : (plan : Plan) (s : CoreState) (reader : ℕ) → IsLater plan s (core_after plan s (TakeNext reader))
take_IsLater plan s reader = record {
  appended = omega arith;
  released = omega arith;
  taken = λ k low. set_grows s.taken reader (slice_index s.taken reader + 1) (omega arith) k;
  approved = λ k low. omega arith;
  closed = λ h. (h, refl);
  failed = λ h. (h, refl, refl);
}

post_IsLater : (plan : Plan) (s : CoreState) (reader : ℕ) → IsSoundAt plan s reader → IsLater plan s (core_after plan s (Post reader))
post_IsLater plan s reader was = record {
  appended = omega arith;
  released = omega arith;
  taken = λ k low. omega arith;
  approved = λ k low. set_grows s.approved reader (approves plan s reader) (omega (arith, was.limit, was.seen)) k;
  closed = λ h. (h, refl);
  failed = λ h. (h, refl, refl);
}

-- so does a put, whole or in part
put_IsLater : (plan : Plan) (s : CoreState) (count done : ℕ) (failed : Bool) → IsReleasable plan s count → IsLater plan s (record s { failed = failed; released = s.released + done })
put_IsLater plan s count done failed may = record {
  appended = omega arith;
  released = omega arith;
  taken = λ reader low. omega arith;
  approved = λ reader low. omega arith;
  closed = λ h. (h, refl);
  failed = λ h. let both : false ≡ true = sym may.sound ∙ h in grind arith;
}

event_IsLater : (plan : Plan) (s : CoreState) (event : CoreEvent) → IsSound plan s → May plan s event → IsLater plan s (core_after plan s event)
event_IsLater plan s Append was may = append_IsLater plan s may
event_IsLater plan s Close was may = close_IsLater plan s
event_IsLater plan s (TakeNext reader) was may = take_IsLater plan s reader
event_IsLater plan s (Post reader) was may = post_IsLater plan s reader (was.readers reader may)
event_IsLater plan s (Release count) was may = put_IsLater plan s count count s.failed may
event_IsLater plan s (Break count done) was may = put_IsLater plan s count done true may.0

pub nothing_back : TakesNothingBack
nothing_back plan ok [] before now was leads = subst (IsLater plan before) leads (same_IsLater plan before)
nothing_back plan ok (event ∷ events) before now was leads =
    let next : CoreState = core_after plan before event in
    let first : IsLater plan before next = event_IsLater plan before event was leads.0 in
    then_IsLater plan before next now first (nothing_back plan ok events next now (event_IsSound plan before event ok was leads.0) leads.1)
