-- What a store to a device register does outside the board.
use Rattle.std.specs.Prelude.{ℕ, ◌%◌}
use Rattle.std.specs.Option.{option_map_or}
use Rattle.machine_model.specs.Board as model
use Rattle.rv_devices.specs.declared.effect.Effect.{Effect}
use Rattle.rv_devices.specs.declared.effect.Effect.TheVariants.{Quiet, Byte, Power}

-- a store to the serial data sends its low byte, one to the power register ends the run with it
abbrev pub effect_by : ℕ → model.Register → Effect
effect_by value model.SerialData = Byte (value % 256)
effect_by value model.Power = Power (value % 256)
effect_by value register = Quiet

abbrev pub effect_of : ℕ → ℕ → Effect
effect_of address value = option_map_or (effect_by value) (model.register_at address) Quiet
