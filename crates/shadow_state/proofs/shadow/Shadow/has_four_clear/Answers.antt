use Rattle.std.proofs.Common.{◌≡◌, ◌+◌, ◌%◌, ◌^◌, take, drop, ap, ◌∙◌, arith}
use Rattle.memory_map.specs.declared.TheConstants.{RAM_START}
use Rattle.shadow_state.specs.Shade.{Shade}
use Rattle.shadow_state.proofs.FourLaws.{four_clear, four_none}
use Rattle.shadow_state.proofs.shadow.Shadow.has_four_clear.Goals as goal

pub returns-then-place-len-clause-clear : goal.returns-then-place-len-clause-clear
returns-then-place-len-clause-clear c lacks =
    let s = c.args.self.now in
    let place = (c.args.address + 2147483648) % 2 ^ 32 in
    let at : RAM_START + place ≡ c.args.address = omega (arith, c.if-place-len.true, c.len.ensures, c.self.invariant, c.ranges.address.fits) in
    let is : c.four_from.result ≡ take 4 (drop place s.bytes) = c.four_from.ensures.four ∙ ap (λ l. take 4 (drop place l)) (c.deref.ensures.value ∙ ap (λ (s : Shade). s.bytes) c.self.view_is) in
    four_clear s _ c.args.set c.args.address place is at (c.lacks.ensures.clear lacks)

pub returns-then-place-len-clause-marked : goal.returns-then-place-len-clause-marked
returns-then-place-len-clause-marked c has inside none =
    let s = c.args.self.now in
    let place = (c.args.address + 2147483648) % 2 ^ 32 in
    let at : RAM_START + place ≡ c.args.address = omega (arith, c.if-place-len.true, c.len.ensures, c.self.invariant, c.ranges.address.fits) in
    let is : c.four_from.result ≡ take 4 (drop place s.bytes) = c.four_from.ensures.four ∙ ap (λ l. take 4 (drop place l)) (c.deref.ensures.value ∙ ap (λ (s : Shade). s.bytes) c.self.view_is) in
    c.lacks.ensures.marked has (four_none s _ c.args.set c.args.address place is at none)
