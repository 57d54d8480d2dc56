use Rattle.std.proofs.Common.{rules, ◌≡◌, ◌≤◌, false}
use Rattle.output_gate.proofs.KeepLaws.{order-bounds, withhold-IsGate}
use Rattle.output_gate.proofs.gate.OutputGate.withhold.Goals as goal

pub count_below-kept-requires : goal.count_below-kept-requires
count_below-kept-requires c =
    let sound : c.self.inside.failed ≡ false = search rules in
    order-bounds _ c.self.invariant.2 sound

pub invariant_of-self : goal.invariant_of-self
invariant_of-self c =
    let passed : c.self.inside.passed ≤ c.args.from = search rules in
    let kept = withhold-IsGate _ c.args.from c.self.invariant.2 passed in
    rw (c.truncate_back.ensures, c.truncate_back-2.ensures, c.first_withheld.ensures, c.len.ensures.len, c.count_below-kept.ensures.count) (c.self.invariant.0, c.self.invariant.1, kept)
