-- What the readers of a run's files answer.
use Rattle.memory_map.specs.declared.TheConstants.{MOST_DISK_BYTES}
use Rattle.std.specs.Prelude.{◌≡◌, ◌⊎◌, ℕ, ◌<◌, List, length, Option, Some, None, IsSome, Result, Ok, Err}
use Rattle.after_edge.specs.Fault.{Rose}
use Rattle.after_edge.specs.Files.{Contents, IsThere}
use Rattle.elf_image.specs.Reads.{IsBegun}
use Rattle.machine_model.specs.Image.{Image}
use Rattle.format_model.specs.ImageFile as image_model
use Rattle.format_model.specs.ScriptReading as script_model
use Rattle.run_inputs.specs.declared.fault.InputFault.{InputFault}
use Rattle.run_inputs.specs.declared.fault.InputFault.TheVariants as fault
use Rattle.run_inputs.specs.declared.inputs.Inputs.{Inputs}
use Rattle.run_inputs.specs.declared.reading.FileBytes.{FileBytes}
use Rattle.run_inputs.specs.Faults.{image_fault, script_fault}
use Rattle.run_inputs.specs.Files.{IsFound}
use Rattle.run_inputs.specs.Given.{Bytes, Given, BadImage, BadScript, given_in}

-- the values of what is returned
abbrev pub given_by : Inputs → Given
given_by inputs = record { image = inputs.image; script = inputs.script; disk = inputs.disk.items }

abbrev pub bytes_of : FileBytes → Bytes
bytes_of bytes = record {
  image = bytes.image.items;
  script = bytes.script.items;
  disk = bytes.disk.items;
}

-- as far as the files tell, there are more bytes under the name
pub record IsLong (content : Option Contents) (name : List ℕ) (max : ℕ) : Type 0 where
  pub bytes : List ℕ
  pub found : IsFound content name (Some bytes)
  pub longer : max < length bytes

-- why one file is not read where no call failed: it is absent, as the files tell; it is too long, which is told as this
-- fault; or there was no memory for it
abbrev pub GivesNoBytes : Option Contents → List ℕ → (max : ℕ) → InputFault → InputFault → Type 0
GivesNoBytes content name max too_long told =
    ((told ≡ fault.Files) × IsSome content × IsFound content name None)
    ⊎ ((told ≡ too_long) × IsLong content name max)
    ⊎ ((told ≡ fault.NoMemory) × IsThere content name)

-- why one file is not read: a call failed, or none did
abbrev pub IsFileRefused : Option Contents → List ℕ → (max : ℕ) → InputFault → (before now : ℕ)
    → InputFault → Type 0
IsFileRefused content name max too_long before now told =
    ((told ≡ fault.Files) × Rose before now)
    ⊎ ((now ≡ before) × GivesNoBytes content name max too_long told)

-- a disk that is not named is read without a fault
abbrev pub IsDiskRefused : Option Contents → Option (List ℕ) → (before now : ℕ) → InputFault
    → Type 0
IsDiskRefused content None before now told = ⊥
IsDiskRefused content (Some name) before now told =
    IsFileRefused content name MOST_DISK_BYTES fault.DiskTooLong before now told

-- Memory is asked for only for an image whose header and table are right, or for a script beside an image that is right.
abbrev pub MayLackMemory : ℕ → Bytes → Type 0
MayLackMemory ram_kib bytes =
    IsBegun ram_kib bytes.image
    ⊎ ((image : Image) × (image_model.image_in ram_kib bytes.image ≡ Ok image))

-- what is judged is what the definition gives for a RAM of so many KiB, unless there was no memory
abbrev pub IsJudgedAs : ℕ → Bytes → Result Inputs InputFault → Type 0
IsJudgedAs ram_kib bytes (Ok inputs) = given_in ram_kib bytes ≡ Ok (given_by inputs)
IsJudgedAs ram_kib bytes (Err (fault.Image e)) =
    (k : image_model.Fault) × (image_fault e ≡ Some k)
    × (given_in ram_kib bytes ≡ Err (BadImage k))
IsJudgedAs ram_kib bytes (Err (fault.Script e)) =
    (k : ℕ × script_model.Broken) × (script_fault e ≡ Some k)
    × (given_in ram_kib bytes ≡ Err (BadScript k))
IsJudgedAs ram_kib bytes (Err fault.NoMemory) = MayLackMemory ram_kib bytes
IsJudgedAs ram_kib bytes _ = ⊥
