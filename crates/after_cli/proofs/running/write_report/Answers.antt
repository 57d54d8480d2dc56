use Rattle.std.proofs.lemmas.Result.{on_err_weaker}
use Rattle.after_edge.proofs.SinkLaws.{WritesPart-more, WritesPart-then, on_err_of}
use Rattle.std.specs.List.{flat_map}
use Rattle.analysis_model.specs.Report.{head_text, part_text}
use Rattle.job_model.specs.Job.{events, guest}
use Rattle.after_cli.proofs.running.write_report.Goals as goal

pub returns-in_err-report_head-clause-err : goal.returns-in_err-report_head-clause-err
returns-in_err-report_head-clause-err g c = on_err_of c.from_residual.result (λ job whole.
    WritesPart-more g.O.Sink.told _ _ _ _ c.in_err-report_head.ensures.err)

pub returns-clause-err : goal.returns-clause-err
returns-clause-err g c = on_err_weaker c.report_parts.result (λ part job whole.
    WritesPart-then g.O.Sink.told c.args.out.now c.report_head.new.out c.report_parts.new.out (head_text c.args.facts.now) (flat_map (part_text (guest job) (events job)) job.kinds)
    c.in_ok-report_head.ensures.ok (part job whole)) c.report_parts.ensures.err
