use Rattle.std.proofs.Common.{◌≡◌, ◌∙◌, length, take, arith}
use Rattle.std.proofs.lemmas.List.{length-take}
use Rattle.after_edge.proofs.SinkLaws.{on_err_of}
use Rattle.analysis_model.specs.Report.{range_line}
use Rattle.coverage_map.specs.Coverage.{ranges_now}
use Rattle.analysis_set.proofs.LineLaws.{Writes-next, Writes-all, WritesPart-next}
use Rattle.analysis_set.proofs.part.put_ranges.Goals as goal

pub returns-clause-ok : goal.returns-clause-ok
returns-clause-ok g c =
    let xs = take 64 (ranges_now c.args.coverage.now) in
    let size : length xs ≡ _ = length-take 64 (ranges_now c.args.coverage.now) in
    Writes-all g.O.Sink.told _ _ range_line xs c.loop-index.index (omega arith) c.loop-index.invariant

pub returns-in_err-put-clause-err : goal.returns-in_err-put-clause-err
returns-in_err-put-clause-err g c =
    let xs = take 64 (ranges_now c.args.coverage.now) in
    let size : length xs ≡ _ = length-take 64 (ranges_now c.args.coverage.now) in
    on_err_of c.from_residual.result (WritesPart-next g.O.Sink.told _ c.loop-index.out _ range_line xs c.loop-index.index _ c.as_bytes.result.now (omega arith) (c.as_bytes.ensures ∙ c.shown_range.ensures) c.loop-index.invariant c.in_err-put.ensures.err)

pub loop-index-preserved : goal.loop-index-preserved
loop-index-preserved g c =
    let xs = take 64 (ranges_now c.args.coverage.now) in
    let size : length xs ≡ _ = length-take 64 (ranges_now c.args.coverage.now) in
    Writes-next g.O.Sink.told _ c.loop-index.out _ range_line xs c.loop-index.index _ c.as_bytes.result.now (omega arith) (c.as_bytes.ensures ∙ c.shown_range.ensures) c.loop-index.invariant c.in_ok-put.ensures.ok
