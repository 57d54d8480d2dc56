use Rattle.std.proofs.Common.{◌∙◌}
use Rattle.std.proofs.lemmas.Result.{on_err_weaker}
use Rattle.after_edge.proofs.SinkLaws.{Writes-same, Writes-then, WritesPart-then, WritesPart-more, WritesPart-same, on_err_of}
use Rattle.analysis_model.specs.Made.{kind_made_of}
use Rattle.analysis_set.specs.Analysis.{kib_of, made_of, findings_made}
use Rattle.analysis_set.proofs.PartLaws.{counted_line}
use Rattle.analysis_set.proofs.part.report_part.Goals as goal

pub returns-in_err-put-clause-err : goal.returns-in_err-put-clause-err
returns-in_err-put-clause-err g c = on_err_of c.from_residual.result (λ h stands.
    let a = c.args.analysis.now in
    let is = counted_line c.as_bytes.result.now _ (kind_made_of (made_of a)) _ _ (findings_made (kib_of a) (made_of a) h)
    (c.as_bytes.ensures ∙ c.findings-counted.ensures) c.kind-kind.ensures (c.count.ensures.seen h stands) (c.first.ensures.seen h stands) in
    WritesPart-more g.O.Sink.told _ _ _ _ (WritesPart-more g.O.Sink.told _ _ _ _ (WritesPart-same g.O.Sink.told _ _ is c.in_err-put.ensures.err)))

pub returns-in_err-put_more-clause-err : goal.returns-in_err-put_more-clause-err
returns-in_err-put_more-clause-err g c = on_err_of c.from_residual-in_err-put_more.result (λ h stands.
    let a = c.args.analysis.now in
    let is = counted_line c.as_bytes.result.now _ (kind_made_of (made_of a)) _ _ (findings_made (kib_of a) (made_of a) h)
    (c.as_bytes.ensures ∙ c.findings-counted.ensures) c.kind-kind.ensures (c.count.ensures.seen h stands) (c.first.ensures.seen h stands) in
    let line = Writes-same g.O.Sink.told _ _ is c.in_ok-put.ensures.ok in
    WritesPart-more g.O.Sink.told _ _ _ _ (WritesPart-then g.O.Sink.told _ c.put.new.self _ _ _ line (c.in_err-put_more.ensures.err h stands)))

pub returns-clause-err : goal.returns-clause-err
returns-clause-err g c = on_err_weaker c.put_findings.result (λ part h stands.
    let a = c.args.analysis.now in
    let is = counted_line c.as_bytes.result.now _ (kind_made_of (made_of a)) _ _ (findings_made (kib_of a) (made_of a) h)
    (c.as_bytes.ensures ∙ c.findings-counted.ensures) c.kind-kind.ensures (c.count.ensures.seen h stands) (c.first.ensures.seen h stands) in
    let line = Writes-same g.O.Sink.told _ _ is c.in_ok-put.ensures.ok in
    let more = Writes-then g.O.Sink.told _ c.put.new.self c.put_more.new.out _ _ line (c.in_ok-put_more.ensures.ok h stands) in
    WritesPart-then g.O.Sink.told _ c.put_more.new.out _ _ _ more (rw (c.kept.ensures.seen h stands, c.kind-kind.ensures) at part)) c.put_findings.ensures.err
