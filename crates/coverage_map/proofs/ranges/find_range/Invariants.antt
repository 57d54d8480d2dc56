use Rattle.std.proofs.Common.{length, ◌≡◌, ◌<◌, ◌≤◌, true, drop, slice_get, Some}
use Rattle.analysis_model.specs.Cover.{runs}
use Rattle.coverage_map.specs.Coverage.{marked}
use Rattle.coverage_map.specs.Places.{marked_from_place}
use Rattle.coverage_map.proofs.ranges.find_range.Given as goal

abbrev pub invariant-loop-passed : goal.invariant-loop-passed
invariant-loop-passed l = record {
  to : l.place ≤ length l.marks;
  found : l.place < length l.marks → slice_get l.marks l.place ≡ Some true;
  rest : drop l.passed (runs (marked l.marks)) ≡ runs (marked_from_place l.marks l.place);
}
