use Rattle.std.proofs.Common.{◌≡◌, [], ◌∷◌, ◌++◌, ◌∙◌, ap, drop, ◌+◌}
use Rattle.coverage_map.specs.declared.area.Area.{Area}
use Rattle.machine_model.specs.Image.{Segment}
use Rattle.coverage_map.proofs.AreaLaws.{code_goes_on, code_takes, code_skips}
use Rattle.coverage_map.proofs.area.code_of.Goals as goal
use Rattle.coverage_map.proofs.area.code_of.Goals.{then-segment+in_ok-push, else-segment}

pub loop-segment-preserved : goal.loop-segment-preserved
loop-segment-preserved c =
    let inside = c.segment.inside in
    let segment : Segment = record { address = inside.address; bytes = inside.bytes.items; size = inside.size; executable = inside.executable } in
    let area : Area = record { address = inside.address; size = inside.size } in
    let rest = drop (c.loop-segment.segment-index + 1) c.args.segments.now in
    let goes_on = code_goes_on c.loop-segment.code.items c.args.segments.now c.loop-segment.segment-index segment c.segment-item.result c.loop-segment-test.true (c.segment.view_is ∙ c.segment-item.is) c.loop-segment.invariant in
    elim c.if-segment.branch [
      | then-segment+in_ok-push w ↦
          let items : c.if-segment.code.items ≡ c.loop-segment.code.items ++ area ∷ [] = ap (λ v. v.items) w.code-is ∙ w.in_ok-push.ensures.items in
          rw items (code_takes c.loop-segment.code.items rest segment w.if-segment.true ∙ goes_on)
      | else-segment w ↦ rw w.code-is (code_skips c.loop-segment.code.items rest segment w.if-segment.false ∙ goes_on)
    ]
