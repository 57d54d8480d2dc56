-- Quiet steps begin one after the other.
use Rattle.std.proofs.Common.{◌≡◌, ◌+◌, ◌*◌, ◌^◌, ◌≤◌, subst, sym, ap, ◌∙◌, arith}
use Rattle.std.proofs.Math.Nat.{add-mul}
use Rattle.rv_devices.specs.Stands.{Stands}
use Rattle.rv_devices.specs.Times.{passed}
use Rattle.rv_devices.proofs.StandLaws.{stands_passed}
use Rattle.rv_devices.proofs.board.Board.pass.Goals as goal

pub returns-clause-stands : goal.returns-clause-stands
returns-clause-stands c = λ script begun words state stands.
    let board = c.args.self.now in
    let to : board.begun + c.from.result ≡ begun + c.args.count = omega (arith, stands.begun_is, c.from.ensures) in
    let within : board.begun + c.from.result ≤ 2 ^ 32 = omega (arith, c.requires, c.from.ensures, stands.begun_is, stands.numbered) in
    let rises = stands.times.rises in
    let whole : (rises + 1) * script.clock ≡ rises * script.clock + script.clock = add-mul rises 1 script.clock ∙ omega arith in
    let near : board.timer.rise ≤ 2 ^ 32 + board.timer.clock = omega (arith, stands.times.rise_is, whole, stands.times.since, stands.times.clock_is, stands.numbered) in
    let timer : c.pass.new.self ≡ passed board.timer (begun + c.args.count) =
    c.pass.ensures.passes (omega (arith, stands.playable.clock, stands.times.clock_is)) within near ∙ ap (passed board.timer) to in
    subst (λ n. Stands script (begun + c.args.count) words state (record board { begun = n; timer = c.pass.new.self })) (sym to)
    (subst (λ t. Stands script (begun + c.args.count) words state (record board { begun = begun + c.args.count; timer = t })) (sym timer) (stands_passed script begun c.args.count words state board stands c.requires))
