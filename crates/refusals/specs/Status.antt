-- The status that each refusal ends with.
use Rattle.std.specs.Prelude.{ℕ}
use Rattle.run_inputs.specs.declared.fault.InputFault.{InputFault}
use Rattle.run_inputs.specs.declared.fault.InputFault.TheVariants as input
use Rattle.refusals.specs.declared.refusal.Refusal.{Refusal}
use Rattle.refusals.specs.declared.refusal.Refusal.TheVariants.{Words, NotBuilt, Inputs, NoMemory}

-- 3 for the image and the disk, 4 for the script, 5 for files that are absent or failed
abbrev pub input_status : InputFault → ℕ
input_status input.Files = 5
input_status input.ImageTooLong = 3
input_status input.ScriptTooLong = 4
input_status input.DiskTooLong = 3
input_status (input.Image fault) = 3
input_status (input.Script fault) = 4
input_status input.NoMemory = 9

abbrev pub status_of : Refusal → ℕ
status_of (Words fault) = 2
status_of NotBuilt = 10
status_of (Inputs fault) = input_status fault
status_of NoMemory = 9
