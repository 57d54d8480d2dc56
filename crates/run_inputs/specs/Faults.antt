-- The faults of a run's files, and the cause of each.
use Rattle.std.specs.Prelude.{◌≡◌, ◌⊎◌, ℕ, Option, Some, None, IsSome, Result, Err}
use Rattle.after_edge.specs.Fault.{Rose}
use Rattle.after_edge.specs.Files.{Contents, IsThere}
use Rattle.elf_image.specs.declared.fault.ImageFault.{ImageFault}
use Rattle.elf_image.specs.declared.fault.ImageFault.TheVariants as image
use Rattle.in_script.specs.declared.fault.ScriptFault.{ScriptFault}
use Rattle.in_script.specs.declared.fault.ScriptFault.TheVariants as script
use Rattle.format_model.specs.ImageFile as image_model
use Rattle.format_model.specs.ScriptReading as script_model
use Rattle.run_inputs.specs.declared.fault.InputFault.{InputFault}
use Rattle.run_inputs.specs.declared.fault.InputFault.TheVariants as fault
use Rattle.run_inputs.specs.Files.{Names, Comes}
use Rattle.run_inputs.specs.Given.{Found, Refusal, Absent, ImageTooLong, ScriptTooLong, DiskTooLong, BadImage, BadScript}

-- the fault of an image that a fault tells, unless there was no memory
abbrev pub image_fault : ImageFault → Option image_model.Fault
image_fault (image.Short need) = Some (image_model.Short need)
image_fault (image.NotThis field) = Some (image_model.NotThis field)
image_fault image.BadTable = Some image_model.BadTable
image_fault (image.SegmentShape index) = Some (image_model.SegmentShape index)
image_fault (image.SegmentOutside index) = Some (image_model.SegmentOutside index)
image_fault (image.Overlap first second) = Some (image_model.Overlap first second)
image_fault image.NoSegment = Some image_model.NoSegment
image_fault image.EntryOutside = Some image_model.EntryOutside
image_fault image.NoMemory = None

-- the same of a script, with the number of its line
abbrev pub script_fault : ScriptFault → Option (ℕ × script_model.Broken)
script_fault (script.BadLine line) = Some (line, script_model.BadLine)
script_fault (script.BadNumber line) = Some (line, script_model.BadNumber)
script_fault (script.Falling line) = Some (line, script_model.Falling)
script_fault (script.TooMany line) = Some (line, script_model.TooMany)
script_fault script.NoMemory = None

-- what is wrong with a run's files, where it is wrong with the image, and with the script: no memory is told by itself
abbrev pub of_image : ImageFault → InputFault
of_image (image.Short need) = fault.Image (image.Short need)
of_image (image.NotThis field) = fault.Image (image.NotThis field)
of_image image.BadTable = fault.Image image.BadTable
of_image (image.SegmentShape index) = fault.Image (image.SegmentShape index)
of_image (image.SegmentOutside index) = fault.Image (image.SegmentOutside index)
of_image (image.Overlap first second) = fault.Image (image.Overlap first second)
of_image image.NoSegment = fault.Image image.NoSegment
of_image image.EntryOutside = fault.Image image.EntryOutside
of_image image.NoMemory = fault.NoMemory

abbrev pub of_script : ScriptFault → InputFault
of_script (script.BadLine line) = fault.Script (script.BadLine line)
of_script (script.BadNumber line) = fault.Script (script.BadNumber line)
of_script (script.Falling line) = fault.Script (script.Falling line)
of_script (script.TooMany line) = fault.Script (script.TooMany line)
of_script script.NoMemory = fault.NoMemory

-- The fault that a reader gives where no call of the files failed: one is absent, as they tell; the definition refuses
-- them; or there was no memory, which is asked for only once some of the image was read.
abbrev pub GivesFault : {Y : Type 0} → (Found → Result Y Refusal) → Option Contents → Names
    → InputFault → Type 0
GivesFault read content names fault.Files = IsSome content × Comes read content names (Err Absent)
GivesFault read content names fault.ImageTooLong = Comes read content names (Err ImageTooLong)
GivesFault read content names fault.ScriptTooLong = Comes read content names (Err ScriptTooLong)
GivesFault read content names fault.DiskTooLong = Comes read content names (Err DiskTooLong)
GivesFault read content names (fault.Image e) =
    (k : image_model.Fault) × (image_fault e ≡ Some k) × Comes read content names (Err (BadImage k))
GivesFault read content names (fault.Script e) =
    (k : ℕ × script_model.Broken) × (script_fault e ≡ Some k)
    × Comes read content names (Err (BadScript k))
GivesFault read content names fault.NoMemory = IsThere content names.image

-- When each fault comes, from a reader of the files: a call of them failed, for which their count rose; or none did, the
-- count is as before, and the reader gives it.
abbrev pub HasCause : {Y : Type 0} → (Found → Result Y Refusal) → Option Contents → Names
    → (before now : ℕ) → InputFault → Type 0
HasCause read content names before now told =
    ((told ≡ fault.Files) × Rose before now)
    ⊎ ((now ≡ before) × GivesFault read content names told)
