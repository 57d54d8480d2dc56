use Rattle.std.proofs.Common.{◌∙◌, sym, ap}
use Rattle.analysis_model.specs.Report.{range_line}
use Rattle.coverage_map.specs.Coverage.{ranges_now}
use Rattle.analysis_set.proofs.LineLaws.{shown}
use Rattle.analysis_set.proofs.part.shown_range.Goals as goal

pub returns : goal.returns
returns c =
    c.range.ensures ∙ ap range_line (sym (shown (ranges_now c.args.coverage.now) 64 c.args.index _ _ c.requires.shown c.range-from.ensures.now))
