use Rattle.std.proofs.Common.{take}
use Rattle.std.specs.List.{flat_map}
use Rattle.after_edge.specs.Sink.{Writes}
use Rattle.analysis_model.specs.Report.{range_line}
use Rattle.coverage_map.specs.Coverage.{ranges_now}
use Rattle.analysis_set.proofs.part.put_ranges.Given as goal

abbrev pub invariant-loop-index : goal.invariant-loop-index
invariant-loop-index g l =
    Writes g.O.Sink.told l.initial.out l.out (flat_map range_line (take l.index (take 64 (ranges_now l.coverage))))
