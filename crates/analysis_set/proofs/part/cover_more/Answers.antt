use Rattle.std.proofs.Common.{◌≡◌, ◌∙◌, length}
use Rattle.std.proofs.lemmas.Result.{on_err_weaker}
use Rattle.after_edge.proofs.SinkLaws.{Writes-same, WritesPart-then}
use Rattle.analysis_model.specs.Report.{pcs_line, ranges_text}
use Rattle.coverage_map.specs.Coverage.{pcs_now, ranges_now}
use Rattle.analysis_set.proofs.part.cover_more.Goals as goal

pub returns-clause-err : goal.returns-clause-err
unfolding ranges_text
returns-clause-err g c =
    let is : c.as_bytes.result.now ≡ pcs_line (length (pcs_now c.args.coverage.now)) (length (ranges_now c.args.coverage.now)) =
    rw (← c.pcs.ensures.now, ← c.ranges-2.ensures.now) (c.as_bytes.ensures ∙ c.pcs-2.ensures)
    in
    let line = Writes-same g.O.Sink.told _ _ is c.in_ok-put.ensures.ok in
    on_err_weaker c.put_ranges.result (WritesPart-then g.O.Sink.told _ c.put.new.self _ _ _ line) c.put_ranges.ensures.err
