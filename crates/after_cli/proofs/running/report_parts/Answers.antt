use Rattle.std.proofs.Common.{◌+◌, arith, take}
use Rattle.std.specs.List.{flat_map}
use Rattle.after_edge.proofs.SinkLaws.{Writes-same, Writes-then, WritesPart-prefix, WritesPart-same, WritesPart-then, on_err_of}
use Rattle.analysis_model.specs.Report.{part_text}
use Rattle.job_model.specs.Job.{events, guest}
use Rattle.after_cli.proofs.ReportLaws.{tells_of, same_count, parts_front, parts_next}
use Rattle.after_cli.proofs.running.report_parts.Goals as goal

pub returns-in_err-report_part-clause-err : goal.returns-in_err-report_part-clause-err
returns-in_err-report_part-clause-err g c = on_err_of c.from_residual.result (λ job whole.
    let all = same_count job c.args.count c.args.closing.now c.requires whole in
    let number = c.loop-replica.replica in
    let tells = tells_of job c.args.closing.now number c.analysis.result.now whole (omega arith) c.analysis.ensures in
    let part = WritesPart-same g.O.Sink.told c.loop-replica.out c.report_part.new.out tells.part (c.in_err-report_part.ensures.err (events job) tells.seen) in
    let front = flat_map (part_text (guest job) (events job)) (take number job.kinds) in
    WritesPart-prefix g.O.Sink.told c.args.out.now c.report_part.new.out _ (flat_map (part_text (guest job) (events job)) job.kinds) (parts_front job (number + 1))
    (WritesPart-same g.O.Sink.told c.args.out.now c.report_part.new.out (parts_next job number tells.kind tells.there)
    (WritesPart-then g.O.Sink.told c.args.out.now c.loop-replica.out c.report_part.new.out front (part_text (guest job) (events job) tells.kind) (c.loop-replica.invariant job whole) part)))

pub loop-replica-preserved : goal.loop-replica-preserved
loop-replica-preserved g c = λ job whole.
    let all = same_count job c.args.count c.args.closing.now c.requires whole in
    let number = c.loop-replica.replica in
    let tells = tells_of job c.args.closing.now number c.analysis.result.now whole (omega arith) c.analysis.ensures in
    let part = Writes-same g.O.Sink.told c.loop-replica.out c.report_part.new.out tells.part (c.in_ok-report_part.ensures.ok (events job) tells.seen) in
    let front = flat_map (part_text (guest job) (events job)) (take number job.kinds) in
    Writes-same g.O.Sink.told c.args.out.now c.report_part.new.out (parts_next job number tells.kind tells.there)
    (Writes-then g.O.Sink.told c.args.out.now c.loop-replica.out c.report_part.new.out front (part_text (guest job) (events job) tells.kind) (c.loop-replica.invariant job whole) part)
