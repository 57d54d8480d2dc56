use Rattle.std.proofs.Common.{◌≡◌, ◌-◌}
use Rattle.any_replay.specs.Standing.{held_of}
use Rattle.any_machine.specs.Running.{RunSoFar}
use Rattle.any_replay.proofs.running.run_to.Given as goal

-- some steps of the run were done and shown
abbrev pub invariant-turns : goal.invariant-turns
invariant-turns g l = record {
  so_far : RunSoFar g.H.Hart.machine l.number (held_of g.H.Hart.done l.fn.standing) (held_of g.H.Hart.done l.standing) (g.W.Watcher.has_seen l.fn.seen) (g.W.Watcher.has_seen l.seen);
  ram : g.H.Hart.ram_size l.standing.hart ≡ g.H.Hart.ram_size l.fn.standing.hart;
  size : g.W.Watcher.ram_kib l.seen ≡ g.W.Watcher.ram_kib l.fn.seen;
  made : g.W.Watcher.make l.seen ≡ g.W.Watcher.make l.fn.seen;
}

abbrev pub decreases-turns : goal.decreases-turns
decreases-turns g l = l.number - g.H.Hart.done l.standing.hart
