use Rattle.std.proofs.Common.{sym, ◌∙◌, arith}
use Rattle.std.proofs.lemmas.List.Concat.{concat_is}
use Rattle.after_edge.proofs.SinkLaws.{Writes-same, WritesPart-same, on_err_of}
use Rattle.analysis_set.proofs.LineLaws.{Writes-all, WritesPart-next}
use Rattle.analysis_set.proofs.put.put_lines.Goals as goal

pub returns-clause-ok : goal.returns-clause-ok
returns-clause-ok g c =
    Writes-same g.O.Sink.told _ _ (sym (concat_is c.args.all.now)) (Writes-all g.O.Sink.told _ _ (λ line. line) c.args.all.now c.loop-line.line-index (omega arith) c.loop-line.invariant)

pub returns-in_err-put-clause-err : goal.returns-in_err-put-clause-err
returns-in_err-put-clause-err g c =
    on_err_of c.from_residual.result (WritesPart-same g.O.Sink.told _ _ (sym (concat_is c.args.all.now))
    (WritesPart-next g.O.Sink.told _ c.loop-line.out _ (λ line. line) c.args.all.now c.loop-line.line-index c.line-item.result c.as_bytes.result.now (omega arith) (c.as_bytes.ensures ∙ c.line-item.is) c.loop-line.invariant c.in_err-put.ensures.err))
