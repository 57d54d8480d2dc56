use Rattle.std.proofs.Common.{◌∙◌}
use Rattle.turn_run.proofs.PartLaws.{least-next}
use Rattle.turn_run.proofs.parts.least_approved.Goals as goal

pub loop-reader-preserved : goal.loop-reader-preserved
loop-reader-preserved c =
    c.min-least.ensures ∙ least-next c.args.hub.now c.args.required.now c.loop-reader.reader-index c.loop-reader-test.true c.loop-reader.least c.look.result c.look.ensures c.loop-reader.invariant
