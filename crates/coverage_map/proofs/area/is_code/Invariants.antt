use Rattle.std.proofs.Common.{◌≡◌}
use Rattle.coverage_map.proofs.AreaLaws.{is_code_behind}
use Rattle.coverage_map.proofs.area.is_code.Given as goal

abbrev pub invariant-loop-area : goal.invariant-loop-area
invariant-loop-area l = is_code_behind l.code l.area-index l.pc ≡ is_code_behind l.code 0 l.pc
