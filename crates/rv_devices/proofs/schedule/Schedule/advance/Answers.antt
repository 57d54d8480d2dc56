use Rattle.std.proofs.Common.{◌≡◌, ◌+◌, ◌≤◌, length, arith, ◌∙◌, ap, sym, subst, List}
use Rattle.machine_model.specs.Script.{Entry}
use Rattle.machine_model.specs.Board.{RisesFrom}
use Rattle.rv_devices.specs.Entries.{AreDue, arrivals_at, latency_before}
use Rattle.rv_devices.specs.Follows.{Follows, left_of}
use Rattle.rv_devices.proofs.EntryLaws.{AreDue-more, later_from}
use Rattle.rv_devices.proofs.FollowLaws.{own, taken_within}
use Rattle.rv_devices.proofs.schedule.Schedule.advance.Goals as goal

pub returns-clause-follows : goal.returns-clause-follows
returns-clause-follows c = λ entries taken rises follows.
    let old = c.args.self.now in
    let mid = c.pass_due-passed.new.self in
    let next = c.skip.new.self in
    let passed = c.pass_due-passed.ensures in
    let skipped = c.skip.ensures in
    let all : List Entry = old.entries.items in
    let f : Follows all c.args.step taken old = own entries c.args.step taken old follows in
    let r : RisesFrom 0 all = subst (RisesFrom 0) (sym follows.entries_are) rises in
    let same_left : left_of old ≡ left_of mid = cc (passed.entries, passed.source, passed.taken) in
    let some : mid.taken ≤ length (arrivals_at mid.source mid.entries.items) = rw (passed.taken, passed.source, passed.entries) (taken_within all c.args.step taken old f) in
    let due : AreDue (c.args.step + 1) mid.place all = passed.due (AreDue-more c.args.step (c.args.step + 1) old.place all (omega arith) f.due) in
    let g : Follows all (c.args.step + 1) taken next = record {
      entries_are = skipped.entries ∙ passed.entries;
      due = rw skipped.place due;
      later = rw skipped.place (later_from (c.args.step + 1) mid.place all r passed.stops);
      latency_is = skipped.latency ∙ passed.latency f.latency_is ∙ ap (λ n. latency_before n all) (sym skipped.place);
      within = skipped.within (omega (arith, f.within, passed.forward, passed.source));
      left = f.left ∙ same_left ∙ sym (skipped.left some);
      clear = λ below. rw (← passed.entries, ← skipped.entries) (skipped.clear below);
      fresh = λ past. skipped.fresh (λ before. passed.taken ∙ f.fresh (omega (arith, before, passed.forward, passed.source))) past;
    } in
    subst (λ l. Follows l (c.args.step + 1) taken next) follows.entries_are g
