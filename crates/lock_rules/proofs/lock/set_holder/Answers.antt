use Rattle.std.proofs.Common.{◌<◌, ◌∙◌, None, ap, get_or, set, length, arith}
use Rattle.std.proofs.lemmas.List.{get_or_default}
use Rattle.std.proofs.lemmas.List.Edits.{map_over_more}
use Rattle.lock_rules.specs.declared.lock.Lock.{Lock}
use Rattle.lock_rules.specs.Entries.{with_holder}
use Rattle.lock_rules.proofs.lock.set_holder.Goals as goal

pub loop-lock-preserved : goal.loop-lock-preserved
loop-lock-preserved c =
    let blank : Lock = record { number = 0; holder = None } in
    let place = c.loop-lock.lock-index in
    let lock = get_or c.loop-lock.locks place blank in
    let change = with_holder c.args.number c.args.holder in
    let within : place < length c.loop-lock.locks = omega arith in
    ap (set c.loop-lock.locks place) c.with_holder.ensures ∙ map_over_more change c.args.locks.now c.loop-lock.locks place lock c.loop-lock-test.true c.loop-lock.invariant (get_or_default c.loop-lock.locks place blank lock within)
