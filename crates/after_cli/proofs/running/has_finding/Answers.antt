use Rattle.std.proofs.Common.{ap, sym, ◌∙◌, arith}
use Rattle.std.specs.Prelude.{is_some}
use Rattle.analysis_model.specs.Complaints.{findings}
use Rattle.analysis_model.specs.Findings.{first_step}
use Rattle.job_model.specs.Job.{events, guest}
use Rattle.after_cli.proofs.ReportLaws.{tells_of, same_count, any_next, any_found}
use Rattle.after_cli.proofs.running.has_finding.Goals as goal

pub returns-then-is_some : goal.returns-then-is_some
returns-then-is_some c = λ job whole.
    let all = same_count job c.args.count c.args.closing.now c.requires whole in
    let tells = tells_of job c.args.closing.now c.loop-replica.replica c.analysis.result.now whole (omega arith) c.analysis.ensures in
    let found = ap is_some (sym tells.first ∙ sym (c.first.ensures.seen (events job) tells.seen)) ∙ sym c.is_some.ensures ∙ c.if-is_some.true in
    sym (any_found (λ kind. is_some (first_step (findings kind (guest job) (events job)))) job.kinds c.loop-replica.replica tells.kind tells.there found)

pub loop-replica-preserved : goal.loop-replica-preserved
loop-replica-preserved c = λ job whole.
    let all = same_count job c.args.count c.args.closing.now c.requires whole in
    let tells = tells_of job c.args.closing.now c.loop-replica.replica c.analysis.result.now whole (omega arith) c.analysis.ensures in
    let none = ap is_some (sym tells.first ∙ sym (c.first.ensures.seen (events job) tells.seen)) ∙ sym c.is_some.ensures ∙ c.if-is_some.false in
    any_next (λ kind. is_some (first_step (findings kind (guest job) (events job)))) job.kinds c.loop-replica.replica tells.kind tells.there (c.loop-replica.invariant job whole) none
