use Rattle.std.proofs.Common.{◌≡◌, ◌*◌, length}
use Rattle.rv_cpu.proofs.tests.hart_of.Given as goal

-- RAM keeps its size
abbrev pub invariant-loop-word : goal.invariant-loop-word
invariant-loop-word l = record { size : length l.ram ≡ 1024 * 64 }
