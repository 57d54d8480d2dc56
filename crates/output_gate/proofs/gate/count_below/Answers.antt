use Rattle.memory_map.specs.declared.TheConstants.{MOST_STEPS}
use Rattle.std.proofs.Common.{◌≡◌, slice_index, arith, sym, ap, ◌∙◌, below_more, slice_get, None}
use Rattle.std.specs.Option.{option_copied}
use Rattle.std.proofs.lemmas.Option.{get_or_from_slice_get}
use Rattle.output_gate.proofs.GateLaws.{count_below-at, no_item_past}
use Rattle.output_gate.proofs.gate.count_below.Goals as goal

pub returns-in_default-clause-count : goal.returns-in_default-clause-count
returns-in_default-clause-count c =
    let here : slice_index c.args.steps.now.items c.loop-place.place ≡ c.in-Some.step.now = get_or_from_slice_get c.args.steps.now.items c.loop-place.place c.in-Some.step.now 0 (sym c.in-Some.ensures) in
    sym (count_below-at c.args.steps.now.items 0 MOST_STEPS c.args.below c.loop-place.place c.requires (omega arith) c.loop-place.invariant (λ less. omega (arith, here)))

pub returns-in_default-2-clause-count : goal.returns-in_default-2-clause-count
returns-in_default-2-clause-count c =
    let none : slice_get c.args.steps.now.items c.loop-place.place ≡ None = sym c.get.ensures ∙ ap option_copied c.in_default.is in
    absurd (no_item_past c.args.steps.now.items c.loop-place.place none (omega arith))

pub loop-place-preserved : goal.loop-place-preserved
loop-place-preserved c =
    let here : slice_index c.args.steps.now.items c.loop-place.place ≡ c.in-Some.step.now = get_or_from_slice_get c.args.steps.now.items c.loop-place.place c.in-Some.step.now 0 (sym c.in-Some.ensures) in
    below_more _ _ c.loop-place.invariant (omega (arith, here))

pub returns-clause-count : goal.returns-clause-count
returns-clause-count c =
    sym (count_below-at c.args.steps.now.items 0 MOST_STEPS c.args.below c.len.result c.requires (omega arith) (λ k less. c.loop-place.invariant k (omega arith)) (λ less. absurd (omega arith)))
