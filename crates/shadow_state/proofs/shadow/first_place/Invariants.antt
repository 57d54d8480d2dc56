use Rattle.shadow_state.specs.Places.{NoPlace}
use Rattle.shadow_state.proofs.shadow.first_place.Given as goal

abbrev pub invariant-loop-place : goal.invariant-loop-place
invariant-loop-place l = NoPlace l.bytes l.set l.start l.place
