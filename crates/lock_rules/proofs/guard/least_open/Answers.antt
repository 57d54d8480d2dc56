use Rattle.std.proofs.Common.{◌+◌, ◌∙◌, refl, sym, ap, get_or, length, ◌≤◌, arith}
use Rattle.lock_rules.specs.declared.guard.Guard.{Guard}
use Rattle.lock_rules.specs.Lesser.{lesser}
use Rattle.lock_rules.proofs.OpenLaws.{open_from, open_more, open_end}
use Rattle.lock_rules.proofs.guard.least_open.Goals as goal

pub loop-guard-preserved : goal.loop-guard-preserved
loop-guard-preserved c =
    let blank : Guard = record { from = 0; to = 0; place = 0 } in
    let locks = c.args.locks.now in
    let guards = c.args.guards.now in
    let place = c.loop-guard.guard-index in
    let rest = open_from locks c.args.context guards (place + 1) c.args.from c.args.size in
    let least = c.lesser-least.ensures ∙ ap (lesser c.loop-guard.least) c.open_part.ensures in
    ap (λ best. lesser best rest) least ∙ open_more locks c.args.context guards place c.args.from c.args.size (get_or guards place blank) blank c.loop-guard.least c.loop-guard-test.true refl ∙ c.loop-guard.invariant

pub returns : goal.returns
returns c =
    let ended : length c.args.guards.now ≤ c.loop-guard.guard-index = omega arith in
    sym (open_end c.args.locks.now c.args.context c.args.guards.now c.loop-guard.guard-index c.args.from c.args.size c.loop-guard.least ended) ∙ c.loop-guard.invariant
