-- What arrives, as the definitions of a run see it.
use Rattle.in_script.specs.declared.script.What.{What}
use Rattle.in_script.specs.declared.script.What.TheVariants.{Serial, Tick, Latency}
use Rattle.machine_model.specs.Script as model

abbrev pub arrives : What → model.What
arrives (Serial bytes mark) = model.Serial bytes mark
arrives (Tick count) = model.Tick count
arrives (Latency steps) = model.Latency steps
