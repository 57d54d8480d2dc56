-- What a store to a device register does, where the access is one.
use Rattle.std.proofs.Common.{◌+◌, subst, sym}
use Rattle.machine_model.specs.Board.{BoardState}
use Rattle.rv_devices.specs.Stands.{Stands}
use Rattle.rv_machine.proofs.StoreLaws.{store_at, store_after}
use Rattle.rv_machine.proofs.machine.store_access.Goals as goal

pub store-effect-requires-clause-register : goal.store-effect-requires-clause-register
store-effect-requires-clause-register c = let a = c.in-Store in store_at _ a.address a.width a.value a.device a.is c.if-device.true c.requires.at

pub returns-then-device-clause-stands : goal.returns-then-device-clause-stands
returns-then-device-clause-stands c script step words state is =
    let a = c.in-Store in
    subst (λ (b : BoardState). Stands script (step + 1) words b c.store-effect.new.self)
    (sym (store_after c.args.access.now a.address a.width a.value a.device a.is script step c.args.ram.now state c.if-device.true))
    (c.store-effect.ensures.stands script step words state is)
