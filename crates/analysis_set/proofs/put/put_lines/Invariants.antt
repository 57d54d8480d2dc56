use Rattle.std.proofs.Common.{take}
use Rattle.std.specs.List.{flat_map}
use Rattle.after_edge.specs.Sink.{Writes}
use Rattle.analysis_set.proofs.put.put_lines.Given as goal

abbrev pub invariant-loop-line : goal.invariant-loop-line
invariant-loop-line g l =
    Writes g.O.Sink.told l.initial.out l.out (flat_map (λ line. line) (take l.line-index l.all))
