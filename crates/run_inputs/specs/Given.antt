-- What the files of a run come to: the guest, what its outside does and the bytes of its disk; or why not.
use Rattle.memory_map.specs.declared.TheConstants.{MOST_DISK_BYTES}
use Rattle.std.specs.Prelude.{ℕ, nat_lt, if◌then◌else◌, List, length, Option, Some, None, Result, Ok, Err}
use Rattle.machine_model.specs.Image.{Image}
use Rattle.machine_model.specs.Script.{Script}
use Rattle.format_model.specs.ImageFile.{Fault, image_in}
use Rattle.format_model.specs.ScriptReading.{Broken, script_in}
use Rattle.format_model.specs.Then.{◌>>=◌}

-- what stands under the names of a run's files; None where there is no file
pub record Found : Type 0 where
  pub image : Option (List ℕ)
  pub script : Option (List ℕ)
  pub disk : Option (List ℕ)

-- the bytes of the files
pub record Bytes : Type 0 where
  pub image : List ℕ
  pub script : List ℕ
  pub disk : List ℕ

-- what a run is given
pub record Given : Type 0 where
  pub image : Image
  pub script : Script
  pub disk : List ℕ

-- why files are not those of a run
pub data Refusal : Type 0 where
  Absent : Refusal
  ImageTooLong : Refusal
  ScriptTooLong : Refusal
  DiskTooLong : Refusal
  BadImage : (fault : Fault) → Refusal
  BadScript : (fault : ℕ × Broken) → Refusal

-- the most bytes of an image and of a script: 32 MiB, 1 MiB
abbrev pub image_max : ℕ
image_max = 33554432

abbrev pub script_max : ℕ
script_max = 1048576

-- a file of at most so many bytes
abbrev pub file_in : ℕ → Refusal → Option (List ℕ) → Result (List ℕ) Refusal
file_in max too_long None = Err Absent
file_in max too_long (Some bytes) = if nat_lt max (length bytes) then Err too_long else Ok bytes

-- the files in their order, each with its failure and its length
unfoldable pub bytes_in : Found → Result Bytes Refusal
bytes_in found = do
  image ← file_in image_max ImageTooLong found.image
  script ← file_in script_max ScriptTooLong found.script
  disk ← file_in MOST_DISK_BYTES DiskTooLong found.disk
  Ok (record { image = image; script = script; disk = disk })

-- an image and a script as parts of a run, whose faults name the part
abbrev pub as_image : Result Image Fault → Result Image Refusal
as_image (Ok image) = Ok image
as_image (Err fault) = Err (BadImage fault)

abbrev pub as_script : Result Script (ℕ × Broken) → Result Script Refusal
as_script (Ok script) = Ok script
as_script (Err fault) = Err (BadScript fault)

-- what the bytes give for a RAM of so many KiB: the image is judged before the script
unfoldable pub given_in : ℕ → Bytes → Result Given Refusal
given_in ram_kib bytes = do
  image ← as_image (image_in ram_kib bytes.image)
  script ← as_script (script_in bytes.script)
  Ok (record { image = image; script = script; disk = bytes.disk })

-- all files are read before the first of them is judged
unfoldable pub inputs_in : ℕ → Found → Result Given Refusal
inputs_in ram_kib found = do
  bytes ← bytes_in found
  given_in ram_kib bytes
