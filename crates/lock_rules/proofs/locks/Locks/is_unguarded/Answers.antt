use Rattle.std.proofs.Common.{◌≡◌, ◌*◌, None, subst}
use Rattle.memory_map.specs.Ram.{InRam}
use Rattle.list_laws.specs.Least.{least_from}
use Rattle.lock_rules.specs.Entries.{is_open}
use Rattle.lock_rules.specs.State.{LockState}
use Rattle.lock_rules.proofs.ShadedLaws.{none_unguarded}
use Rattle.lock_rules.proofs.locks.Locks.is_unguarded.Goals as goal

pub returns : goal.returns
returns c clear width few =
    let P : LockState → Type 0 = λ s. InRam (1024 * s.ram_kib) c.args.address width → least_from (is_open s.locks s.context s.guards) c.args.address width ≡ None in
    let t = c.self.inside in
    subst P c.self.view_is (λ within. none_unguarded t.guarded (1024 * t.ram_kib) t.locks.items t.context t.guards.items c.args.address width c.self.invariant.2 c.self.invariant.3 within few (c.has_four_clear.ensures.clear clear))
