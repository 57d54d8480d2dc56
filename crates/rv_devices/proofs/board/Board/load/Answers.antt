use Rattle.std.proofs.Common.{◌≢◌, Some, ◌+◌, ◌∙◌, ap, sym}
use Rattle.std.specs.Option.{option_map_or}
use Rattle.machine_model.specs.Board as model
use Rattle.rv_devices.specs.Named.{named}
use Rattle.rv_devices.proofs.DueLaws.{waiting_is}
use Rattle.rv_devices.proofs.StandLaws.{loaded, not_data}
use Rattle.rv_devices.proofs.board.Board.load.Goals as goal

pub returns-then-address-eq-SERIAL_DATA-clause-value : goal.returns-then-address-eq-SERIAL_DATA-clause-value
returns-then-address-eq-SERIAL_DATA-clause-value c = λ script step words state s.
    rw c.if-address-eq-SERIAL_DATA.true (c.take.ensures.byte ∙ ap model.byte_given (sym (waiting_is script step state.taken c.args.self.now.schedule s.follows)))

pub returns-then-address-eq-SERIAL_DATA-clause-stands : goal.returns-then-address-eq-SERIAL_DATA-clause-stands
returns-then-address-eq-SERIAL_DATA-clause-stands c = λ script step words state s.
    rw c.if-address-eq-SERIAL_DATA.true (loaded script step words state c.args.self.now c.take.new.self s (c.take.ensures.follows script.entries (step + 1) state.taken s.follows) c.take.ensures.place)

pub returns-clause-value : goal.returns-clause-value
returns-clause-value c = λ script step words state s.
    let other : named c.in-Some.register ≢ model.SerialData = λ is. not_data c.args.address c.if-address-eq-SERIAL_DATA.false (sym c.in-Some.ensures ∙ ap Some is) in
    c.unmarked_value.ensures
    ∙ c.value_of.ensures script step words state s other
    ∙ ap (λ r. option_map_or (model.given_by script step state) r (model.unmarked 0)) c.in-Some.ensures
