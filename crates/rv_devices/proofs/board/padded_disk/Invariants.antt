use Rattle.std.proofs.Common.{◌≡◌, ◌++◌, replicate}
use Rattle.rv_devices.proofs.board.padded_disk.Given as goal

abbrev pub invariant-loop-added : goal.invariant-loop-added
invariant-loop-added l = l.disk.items ≡ l.initial.disk.items ++ replicate l._added 0
