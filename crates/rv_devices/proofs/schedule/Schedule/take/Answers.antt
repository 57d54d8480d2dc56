use Rattle.std.proofs.Common.{◌≡◌, ◌+◌, ◌<◌, length, drop, true, arith, ◌∙◌, ap, sym, subst, List}
use Rattle.std.specs.Prelude.{nat_lt}
use Rattle.std.specs.List.{flat_map}
use Rattle.std.proofs.lemmas.List.{drop-drop}
use Rattle.machine_model.specs.Script.{Entry}
use Rattle.machine_model.specs.Board.{arrivals_of}
use Rattle.rv_devices.specs.Entries.{arrivals_at, latency_before}
use Rattle.rv_devices.specs.Follows.{Follows}
use Rattle.rv_devices.proofs.FollowLaws.{own, waits_true}
use Rattle.rv_devices.proofs.schedule.Schedule.take.Goals as goal

pub returns-clause-follows : goal.returns-clause-follows
returns-clause-follows c = λ entries begun taken follows.
    let old = c.args.self.now in
    let next = c.skip.new.self in
    let skipped = c.skip.ensures in
    let all : List Entry = old.entries.items in
    let f : Follows all begun taken old = own entries begun taken old follows in
    let waits : nat_lt old.source old.place ≡ true = waits_true old c.in-Some.byte c.in-Some.ensures.byte in
    let below : old.source < old.place = grind (arith, waits) in
    let one : old.taken < length (arrivals_at old.source all) = f.clear below in
    let bytes = flat_map arrivals_of (drop old.source all) in
    let left : drop (taken + 1) (flat_map arrivals_of all) ≡ drop (old.taken + 1) bytes = sym (drop-drop 1 taken (flat_map arrivals_of all)) ∙ ap (drop 1) f.left ∙ drop-drop 1 old.taken bytes in
    let g : Follows all begun (taken + 1) next = record {
      entries_are = skipped.entries;
      due = rw skipped.place f.due;
      later = rw skipped.place f.later;
      latency_is = skipped.latency ∙ f.latency_is ∙ ap (λ n. latency_before n all) (sym skipped.place);
      within = skipped.within (omega (arith, below));
      left = left ∙ sym (skipped.left (omega (arith, one)));
      clear = λ less. rw (← skipped.entries) (skipped.clear less);
      fresh = λ past. skipped.fresh (λ before. absurd (omega (arith, before, below))) past;
    } in
    rw waits (subst (λ l. Follows l begun (taken + 1) next) follows.entries_are g)
