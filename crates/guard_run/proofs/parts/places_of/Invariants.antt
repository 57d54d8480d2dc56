-- the places of the kinds so far
use Rattle.std.proofs.Common.{take}
use Rattle.guard_run.specs.Jobs.{ArePlaces}
use Rattle.guard_run.proofs.parts.places_of.Given as goal

abbrev pub invariant-loop-index : goal.invariant-loop-index
invariant-loop-index l = ArePlaces l.kinds (take l.index l.some) l.places.items
