-- How a log says that its run ended.
use Rattle.std.specs.Prelude.{List, [], ◌∷◌, reverse, Option, Some, None}
use Rattle.run_events.specs.declared.record.Record.{Record}
use Rattle.run_events.specs.declared.record.Record.TheVariants.{End}
use Rattle.turn_run.specs.declared.ending.Ending.{Ending}

-- the ending that a record tells
abbrev pub end_at : Record → Option Ending
end_at (End step cause) = Some (record { steps = step; cause = cause })
end_at _ = None

-- the ending that a log tells whose last record is given first
abbrev pub end_back : List Record → Option Ending
end_back [] = None
end_back (last ∷ before) = end_at last

abbrev pub end_in : List Record → Option Ending
end_in items = end_back (reverse items)
