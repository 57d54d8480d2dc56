-- What a reader answers, against what the definition of reading gives.
use Rattle.std.specs.Prelude.{◌≡◌, ℕ, Result, Ok, Err}
use Rattle.in_script.specs.declared.fault.Broken.{Broken}
use Rattle.in_script.specs.declared.fault.Broken.TheVariants as broken
use Rattle.in_script.specs.declared.fault.ScriptFault.{ScriptFault}
use Rattle.in_script.specs.declared.fault.ScriptFault.TheVariants as fault
use Rattle.format_model.specs.ScriptReading as model

-- the fault of a line of this number
abbrev pub fault_at : Broken → ℕ → ScriptFault
fault_at broken.BadLine line = fault.BadLine line
fault_at broken.BadNumber line = fault.BadNumber line
fault_at broken.Falling line = fault.Falling line
fault_at broken.TooMany line = fault.TooMany line
fault_at broken.NoMemory line = fault.NoMemory

-- a part that was refused is refused for this by the definition, unless there was no memory
abbrev pub Refuses : {Y : Type 0} → Broken → Result Y model.Broken → Type 0
Refuses broken.BadLine read = read ≡ Err model.BadLine
Refuses broken.BadNumber read = read ≡ Err model.BadNumber
Refuses broken.Falling read = read ≡ Err model.Falling
Refuses broken.TooMany read = read ≡ Err model.TooMany
Refuses broken.NoMemory read = Unit {0}

-- a part was read as the definition says; view gives the value of what was returned
abbrev pub Gives : {X Y : Type 0} → (X → Y) → Result X Broken → Result Y model.Broken → Type 0
Gives view (Ok x) read = read ≡ Ok (view x)
Gives view (Err e) read = Refuses e read

-- the same of a file, whose faults name a line
abbrev pub RefusesAt : {Y : Type 0} → ScriptFault → Result Y (ℕ × model.Broken) → Type 0
RefusesAt (fault.BadLine line) read = read ≡ Err (line, model.BadLine)
RefusesAt (fault.BadNumber line) read = read ≡ Err (line, model.BadNumber)
RefusesAt (fault.Falling line) read = read ≡ Err (line, model.Falling)
RefusesAt (fault.TooMany line) read = read ≡ Err (line, model.TooMany)
RefusesAt fault.NoMemory read = Unit {0}

abbrev pub GivesFile : {X Y : Type 0} → (X → Y) → Result X ScriptFault → Result Y (ℕ × model.Broken)
    → Type 0
GivesFile view (Ok x) read = read ≡ Ok (view x)
GivesFile view (Err e) read = RefusesAt e read
