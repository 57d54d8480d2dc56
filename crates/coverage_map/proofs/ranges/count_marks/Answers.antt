use Rattle.std.proofs.Common.{◌≡◌, ◌∙◌, rules}
use Rattle.std.specs.List.{count_by}
use Rattle.memory_map.specs.declared.TheConstants.{RAM_START}
use Rattle.coverage_map.proofs.MarkLaws.{count_by-marked}
use Rattle.coverage_map.proofs.ranges.count_marks.Goals as goal

pub returns : goal.returns
returns c =
    let counted : c.count.result ≡ count_by (λ mark. mark) c.args.marks.now = search rules in
    counted ∙ count_by-marked RAM_START c.args.marks.now
