use Rattle.std.proofs.Common.{◌≡◌, ◌-◌, ◌≤◌}
use Rattle.rv_cpu.proofs.ShownLaws.{Standing}
use Rattle.rv_cpu.proofs.engine.Engine.run_shown.Given as goal

-- so many plain steps were done and shown
abbrev pub invariant-steps : goal.invariant-steps
invariant-steps g l = record {
  stands : Standing l.lines l.number l.behind l.fn.self l.self (g.W.Watcher.has_seen l.fn.seen) (g.W.Watcher.has_seen l.seen);
  few : l.behind ≤ l.most;
  size : g.W.Watcher.ram_kib l.seen ≡ g.W.Watcher.ram_kib l.fn.seen;
  made : g.W.Watcher.make l.seen ≡ g.W.Watcher.make l.fn.seen;
}

abbrev pub decreases-steps : goal.decreases-steps
decreases-steps g l = l.most - l.behind
