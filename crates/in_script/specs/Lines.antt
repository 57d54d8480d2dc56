-- What a line says, as the definition of a script sees it.
use Rattle.in_script.specs.declared.line.Line.{Line}
use Rattle.in_script.specs.declared.line.Line.TheVariants.{Blank, Clock, Sectors, At}
use Rattle.format_model.specs.Script as model

abbrev pub says : Line → model.Line
says Blank = model.Blank
says (Clock period) = model.Clock period
says (Sectors span) = model.Sectors span
says (At entry) = model.At entry
