-- a replica for each kind so far
use Rattle.std.proofs.Common.{take}
use Rattle.guard_run.specs.Replicas.{AreFresh}
use Rattle.guard_run.proofs.parts.replicas_of.Given as goal

abbrev pub invariant-loop-index : goal.invariant-loop-index
invariant-loop-index l = AreFresh l.image l.job.ram_kib (take l.index l.job.kinds) l.replicas.items
