use Rattle.std.proofs.Common.{◌≡◌, ◌<◌, false, slice_index, ℕ, nat_eq}
use Rattle.gate_core.proofs.hub.place_of.Given as goal

abbrev pub invariant-loop-place : goal.invariant-loop-place
invariant-loop-place l = (k : ℕ) → k < l.place → nat_eq (slice_index l.counts k) l.number ≡ false
