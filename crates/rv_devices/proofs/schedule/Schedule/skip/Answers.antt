use Rattle.std.proofs.Common.{◌≤◌, length, arith, rules, ◌∙◌, refl}
use Rattle.rv_devices.specs.Entries.{arrivals_at}
use Rattle.rv_devices.proofs.EntryLaws.{left_skipped}
use Rattle.rv_devices.proofs.schedule.Schedule.skip.Goals as goal

pub spent-preserved : goal.spent-preserved
spent-preserved c =
    let s = c.spent.self in
    let spent : length (arrivals_at s.source s.entries.items) ≤ s.taken = search rules in
    record {
      same = c.spent.invariant.same;
      place = c.spent.invariant.place;
      latency = c.spent.invariant.latency;
      within = λ _. omega arith;
      left = λ some. left_skipped s.source s.taken s.entries.items (c.spent.invariant.some some) spent ∙ c.spent.invariant.left some;
      some = λ _. omega arith;
      fresh = λ _ _. refl;
    }
