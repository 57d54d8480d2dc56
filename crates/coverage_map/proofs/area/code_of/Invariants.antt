use Rattle.std.proofs.Common.{◌≡◌, ◌++◌, drop}
use Rattle.analysis_model.specs.Made.{code_numbers}
use Rattle.coverage_map.specs.Coverage.{area_numbers}
use Rattle.coverage_map.proofs.area.code_of.Given as goal

abbrev pub invariant-loop-segment : goal.invariant-loop-segment
invariant-loop-segment l = area_numbers l.code.items ++ code_numbers (drop l.segment-index l.segments) ≡ code_numbers l.segments
