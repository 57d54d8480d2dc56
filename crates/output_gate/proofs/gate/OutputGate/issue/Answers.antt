use Rattle.std.proofs.Common.{rules, ◌≡◌, ◌<◌, ◌≤◌, false, length, refl, sym, arith}
use Rattle.output_gate.specs.declared.gate.TheConstants.{ROOM}
use Rattle.output_gate.specs.Gate.{is_withheld}
use Rattle.output_gate.proofs.KeepLaws.{few_wait, keep_last-room, wait-IsGate, withheld-IsGate}
use Rattle.output_gate.proofs.gate.OutputGate.issue.Goals as goal

pub invariant_of-self : goal.invariant_of-self
invariant_of-self c =
    let rises : c.self.inside.next ≤ c.args.step = search rules in
    (c.self.invariant.0, c.self.invariant.1, withheld-IsGate _ c.args.step c.self.invariant.2 rises c.requires.within)

pub invariant_of-self-2 : goal.invariant_of-self-2
invariant_of-self-2 c =
    let rises : c.self.inside.next ≤ c.args.step = search rules in
    let sound : c.self.inside.failed ≡ false = search rules in
    let other : is_withheld c.self.inside.from c.args.step ≡ false = sym c.if-is_withheld.ensures in
    let room : length c.self.inside.steps.items < ROOM = few_wait _ _ c.self.invariant.0 c.self.invariant.2.few c.if-is_full.ensures in
    let also : length c.self.inside.bytes.items < ROOM = omega (arith, c.self.invariant.2.paired) in
    let kept = wait-IsGate _ c.args.step c.args.byte c.self.invariant.2 sound room rises c.requires.within other in
    rw (c.push_back.ensures.items, c.push_back-2.ensures.items, c.self.invariant.0, c.self.invariant.1, keep_last-room c.self.inside.steps.items c.args.step ROOM room, keep_last-room c.self.inside.bytes.items c.args.byte ROOM also) (refl, refl, kept)
