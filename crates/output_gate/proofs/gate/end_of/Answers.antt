use Rattle.memory_map.specs.declared.TheConstants.{MOST_STEPS}
use Rattle.std.proofs.Common.{◌≡◌, ◌+◌, ◌-◌, suc, slice_index, take, arith, ap, sym, ◌∙◌}
use Rattle.std.proofs.lemmas.Option.{get_or_from_slice_get}
use Rattle.output_gate.specs.Gate.{passed_after}
use Rattle.output_gate.proofs.GateLaws.{Climbs-at, passed_after-at, no_item_past}
use Rattle.output_gate.proofs.gate.end_of.Goals as goal

pub overflow_add-result : goal.overflow_add-result
overflow_add-result c =
    let found = sym c.in-Some.ensures in
    let here : slice_index c.args.steps.now.items (c.args.count - 1) ≡ c.in-Some.step.now = get_or_from_slice_get c.args.steps.now.items (c.args.count - 1) c.in-Some.step.now 0 found in
    omega (arith, here, Climbs-at c.args.steps.now.items 0 MOST_STEPS (c.args.count - 1) c.requires.climbs (omega arith))

pub returns-in-Some : goal.returns-in-Some
returns-in-Some c =
    let found = sym c.in-Some.ensures in
    let here : slice_index c.args.steps.now.items (c.args.count - 1) ≡ c.in-Some.step.now = get_or_from_slice_get c.args.steps.now.items (c.args.count - 1) c.in-Some.step.now 0 found in
    let last : suc (c.args.count - 1) ≡ c.args.count = omega arith in
    sym (ap (λ n. passed_after c.args.before (take n c.args.steps.now.items)) (sym last) ∙ passed_after-at c.args.steps.now.items c.args.before (c.args.count - 1) (omega arith) ∙ ap (λ n. n + 1) here)

pub returns-in-None : goal.returns-in-None
returns-in-None c =
    absurd (no_item_past c.args.steps.now.items (c.args.count - 1) (sym c.in-None.ensures) (omega arith))
