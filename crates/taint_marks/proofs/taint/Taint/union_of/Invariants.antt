use Rattle.std.proofs.Common.{◌≡◌, ◌+◌, ◌-◌}
use Rattle.analysis_model.specs.Taint.{bytes_from, union_of}
use Rattle.taint_marks.specs.Marks.{mark_now}
use Rattle.taint_marks.proofs.taint.Taint.union_of.Given as goal

abbrev pub invariant-loop-index : goal.invariant-loop-index
invariant-loop-index l = l.mark ≡ union_of (mark_now l.self) (bytes_from (l.address + l.index) (l.width - l.index))
