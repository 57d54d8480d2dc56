-- An executed instruction's access is what the board takes.
use Rattle.std.proofs.Common.{◌+◌, subst, sym}
use Rattle.run_events.specs.declared.event.Event.{Event}
use Rattle.board_model.specs.TheBoard.{after_event}
use Rattle.rv_devices.specs.Stands.{Stands}
use Rattle.rv_machine.proofs.machine.store_outside.Goals as goal

pub returns-in-Exec-clause-stands : goal.returns-in-Exec-clause-stands
returns-in-Exec-clause-stands c script step words state is =
    subst (λ (e : Event). Stands script (step + 1) words (after_event script step c.args.ram.now state e) c.store_access.new.board) (sym c.in-Exec.is) (c.store_access.ensures.stands script step words state is)
