use Rattle.std.proofs.Common.{rules, ◌≡◌, ◌<◌, refl, None}
use Rattle.gate_core.specs.Hub.{full_at}
use Rattle.gate_core.proofs.HubLaws.{append-IsHub}
use Rattle.gate_core.proofs.hub.Hub.append.Goals as goal

pub invariant_of-self : goal.invariant_of-self
invariant_of-self c =
    let few : c.self.inside.appended < 4611686018427387904 = search rules in
    let none : None ≡ full_at c.self.inside.taken.items c.self.inside.appended c.self.inside.cap = rw c.deref.ensures.value at c.in-None.ensures in
    rw (c.push_back.ensures.items, c.self.invariant.0) (refl, append-IsHub _ _ _ _ _ _ _ c.self.invariant.1 few none c.requires.item)
