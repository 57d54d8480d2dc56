use Rattle.std.proofs.Common.{rules, ◌≡◌, false, arith}
use Rattle.output_gate.proofs.KeepLaws.{order-bounds, release-IsGate}
use Rattle.output_gate.proofs.gate.OutputGate.release.Goals as goal

pub count_below-count-requires : goal.count_below-count-requires
count_below-count-requires g c =
    let sound : c.self.inside.failed ≡ false = search rules in
    order-bounds _ c.self.invariant.2 sound

pub end_of-self-inside-requires-clause-climbs : goal.end_of-self-inside-requires-clause-climbs
end_of-self-inside-requires-clause-climbs g c =
    let sound : c.self.inside.failed ≡ false = search rules in
    order-bounds _ c.self.invariant.2 sound

pub put_front-requires : goal.put_front-requires
put_front-requires g c = omega (arith, c.count_below-count.ensures.within, c.self.invariant.2.paired)

pub overflow_add-self : goal.overflow_add-self
overflow_add-self g c = omega (arith, c.count_below-count.ensures.within, c.self.invariant.2)

pub invariant_of-self : goal.invariant_of-self
invariant_of-self g c =
    let kept = release-IsGate _ c.count_below-count.result c.self.invariant.2 c.count_below-count.ensures.within in
    rw (c.drop_front.ensures, c.drop_front-in-Ok.ensures, c.put_front.ensures.same, c.end_of-self-inside.ensures) (c.self.invariant.0, c.self.invariant.1, kept)
