use Rattle.std.proofs.Common.{length, ◌-◌, ◌≡◌, ◌<◌, ◌≤◌}
use Rattle.analysis_model.specs.Cover.{runs}
use Rattle.coverage_map.specs.Places.{place_address, marked_from_place}
use Rattle.coverage_map.proofs.RangeLaws.{grown}
use Rattle.coverage_map.proofs.ranges.range_end.Given as goal

abbrev pub invariant-loop-place : goal.invariant-loop-place
invariant-loop-place l = record {
  from : l.start < l.place;
  to : l.place ≤ length l.marks;
  range : runs (marked_from_place l.marks l.start) ≡ grown (place_address l.start) (place_address l.place) (runs (marked_from_place l.marks l.place));
}

abbrev pub decreases-loop-place : goal.decreases-loop-place
decreases-loop-place l = length l.marks - l.place
