use Rattle.std.proofs.Common.{◌≤◌, take, ap, ◌∙◌, arith}
use Rattle.std.proofs.lemmas.List.Elements.{All-get_or}
use Rattle.gate_core.specs.Hub.{approved_at}
use Rattle.output_gate.specs.Gate.{GateState}
use Rattle.turn_run.specs.Gates.{refusals}
use Rattle.turn_run.proofs.WithholdLaws.{withheld-failed, withheld-passed}
use Rattle.turn_run.proofs.PartLaws.{withheld-next}
use Rattle.turn_run.proofs.parts.withhold_refused.Goals as goal

pub withhold_for-requires-clause-sound : goal.withhold_for-requires-clause-sound
withhold_for-requires-clause-sound c =
    ap (λ (g : GateState). g.failed) c.loop-reader.invariant ∙ withheld-failed (refusals c.args.hub.now (take c.loop-reader.reader-index c.args.required.now)) c.args.gate.now ∙ c.requires.sound

pub withhold_for-requires-clause-passed : goal.withhold_for-requires-clause-passed
withhold_for-requires-clause-passed c =
    let same = ap (λ (g : GateState). g.passed) c.loop-reader.invariant ∙ withheld-passed (refusals c.args.hub.now (take c.loop-reader.reader-index c.args.required.now)) c.args.gate.now in
    let low = All-get_or (λ reader. c.args.gate.now.passed ≤ approved_at c.args.hub.now reader) c.args.required.now c.loop-reader.reader-index 0 c.loop-reader-test.true c.requires.passed in
    omega (arith, same, low)

pub loop-reader-preserved : goal.loop-reader-preserved
loop-reader-preserved c = c.withhold_for.ensures ∙ withheld-next c.args.hub.now c.args.required.now c.loop-reader.reader-index c.loop-reader-test.true c.args.gate.now c.loop-reader.gate c.loop-reader.invariant
