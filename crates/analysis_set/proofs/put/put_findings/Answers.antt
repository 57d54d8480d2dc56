use Rattle.std.proofs.Common.{◌∙◌, arith}
use Rattle.after_edge.proofs.SinkLaws.{on_err_of}
use Rattle.analysis_model.specs.Report.{finding_line}
use Rattle.analysis_set.proofs.LineLaws.{WritesPart-next}
use Rattle.analysis_set.proofs.put.put_findings.Goals as goal

pub returns-in_err-put-clause-err : goal.returns-in_err-put-clause-err
returns-in_err-put-clause-err g c =
    on_err_of c.from_residual.result (WritesPart-next g.O.Sink.told _ c.loop-finding.out _ (finding_line c.args.kind) c.args.found.now c.loop-finding.finding-index _ c.as_bytes.result.now (omega arith) (c.as_bytes.ensures ∙ c.finding.ensures) c.loop-finding.invariant c.in_err-put.ensures.err)
