use Rattle.std.proofs.Common.{length, ◌-◌, ◌≡◌, ◌≤◌}
use Rattle.coverage_map.specs.Places.{marked_from_place}
use Rattle.coverage_map.proofs.ranges.next_marked.Given as goal

abbrev pub invariant-loop-place : goal.invariant-loop-place
invariant-loop-place l = record {
  from : l.start ≤ l.place;
  to : l.place ≤ length l.marks;
  same : marked_from_place l.marks l.start ≡ marked_from_place l.marks l.place;
}

abbrev pub decreases-loop-place : goal.decreases-loop-place
decreases-loop-place l = length l.marks - l.place
