use Rattle.std.proofs.Common.{length, ◌+◌, ◌-◌, ◌≡◌, ◌<◌, ◌≤◌, true, slice_get, Some}
use Rattle.analysis_model.specs.Cover.{runs}
use Rattle.coverage_map.specs.Coverage.{marked}
use Rattle.coverage_map.specs.Places.{marked_from_place}
use Rattle.coverage_map.proofs.ranges.count_ranges.Given as goal

abbrev pub invariant-loop-place : goal.invariant-loop-place
invariant-loop-place l = record {
  to : l.place ≤ length l.marks;
  found : l.place < length l.marks → slice_get l.marks l.place ≡ Some true;
  few : l.ranges ≤ l.place;
  counted : l.ranges + length (runs (marked_from_place l.marks l.place)) ≡ length (runs (marked l.marks));
}

abbrev pub decreases-loop-place : goal.decreases-loop-place
decreases-loop-place l = length l.marks - l.place
