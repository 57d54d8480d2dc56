use Rattle.std.proofs.Common.{◌+◌, subst}
use Rattle.std.specs.Option.{option_map_or}
use Rattle.machine_model.specs.Board as model
use Rattle.rv_devices.specs.Stands.{Stands}
use Rattle.rv_devices.proofs.board.Board.store.Goals as goal

pub returns-clause-stands : goal.returns-clause-stands
returns-clause-stands c = λ script step words state s.
    subst (λ r. Stands script (step + 1) words (option_map_or (model.stored_by script step c.args.ram.now c.args.value state) r state) c.put.new.self) c.in-Some.ensures (c.put.ensures.stands script step words state s)
