use Rattle.std.proofs.Common.{take}
use Rattle.std.specs.List.{flat_map}
use Rattle.after_edge.specs.Sink.{Writes}
use Rattle.analysis_model.specs.Report.{finding_line}
use Rattle.analysis_set.proofs.put.put_findings.Given as goal

abbrev pub invariant-loop-finding : goal.invariant-loop-finding
invariant-loop-finding g l =
    Writes g.O.Sink.told l.initial.out l.out (flat_map (finding_line l.kind) (take l.finding-index l.found))
