use Rattle.std.proofs.Common.{◌≡◌, ◌+◌, ◌-◌, ◌%◌, ◌^◌, ◌≤◌, length}
use Rattle.rv_devices.specs.Entries.{AreDue, ticks_before, latency_before}
use Rattle.rv_devices.proofs.schedule.Schedule.pass_due.Given as goal

abbrev pub invariant-entries : goal.invariant-entries
invariant-entries l = record {
  same : l.self.entries.items ≡ l.initial.self.entries.items;
  source : l.self.source ≡ l.initial.self.source;
  taken : l.self.taken ≡ l.initial.self.taken;
  forward : l.initial.self.place ≤ l.self.place;
  due : AreDue (l.step + 1) l.initial.self.place l.initial.self.entries.items → AreDue (l.step + 1) l.self.place l.initial.self.entries.items;
  ticks : (l.passed + ticks_before l.initial.self.place l.initial.self.entries.items) % 2 ^ 64 ≡ ticks_before l.self.place l.initial.self.entries.items % 2 ^ 64;
  latency : l.initial.self.latency ≡ latency_before l.initial.self.place l.initial.self.entries.items → l.self.latency ≡ latency_before l.self.place l.initial.self.entries.items;
}

abbrev pub decreases-entries : goal.decreases-entries
decreases-entries l = length l.self.entries.items - l.self.place
