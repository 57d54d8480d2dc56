use Rattle.std.proofs.Common.{◌≡◌, ◌-◌, ◌≤◌, length}
use Rattle.rv_devices.specs.Entries.{arrivals_at}
use Rattle.rv_devices.specs.Follows.{left_of}
use Rattle.rv_devices.proofs.schedule.Schedule.skip.Given as goal

abbrev pub invariant-spent : goal.invariant-spent
invariant-spent l = record {
  same : l.self.entries.items ≡ l.initial.self.entries.items;
  place : l.self.place ≡ l.initial.self.place;
  latency : l.self.latency ≡ l.initial.self.latency;
  within : l.initial.self.source ≤ l.initial.self.place → l.self.source ≤ l.self.place;
  left : l.initial.self.taken ≤ length (arrivals_at l.initial.self.source l.initial.self.entries.items) → left_of l.self ≡ left_of l.initial.self;
  some : l.initial.self.taken ≤ length (arrivals_at l.initial.self.source l.initial.self.entries.items) → l.self.taken ≤ length (arrivals_at l.self.source l.self.entries.items);
  fresh : (l.initial.self.place ≤ l.initial.self.source → l.initial.self.taken ≡ 0) → l.self.place ≤ l.self.source → l.self.taken ≡ 0;
}

abbrev pub decreases-spent : goal.decreases-spent
decreases-spent l = l.self.place - l.self.source
