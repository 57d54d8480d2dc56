-- What reading a whole file answers.
use Rattle.std.specs.Prelude.{◌≡◌, ℕ, ◌<◌, List, length, Option, Some, Result, Ok, Err}
use Rattle.after_edge.specs.declared.reading.FileFault.{FileFault}
use Rattle.after_edge.specs.declared.reading.FileFault.TheVariants.{Absent, Failed, TooLong, NoMemory}
use Rattle.after_edge.specs.Fault.{Rose}
use Rattle.after_edge.specs.Files.{Contents, IfTold, IsThere, HasAbsentCause}

-- the named file has more bytes than this
pub record IsLonger (files : Contents) (name : List ℕ) (max : ℕ) : Type 0 where
  pub bytes : List ℕ
  pub file : files name ≡ Some bytes
  pub longer : max < length bytes

-- When a file may not be read whole, and what is counted: nothing, unless it failed. Memory is asked for only once some of
-- the file was read, so that no memory is told only of a file that is there.
abbrev pub HasFileCause : {V : Type 0} → Option Contents → List ℕ → ℕ → ℕ → ℕ → Result V FileFault
    → Type 0
HasFileCause content name max before now (Ok bytes) = now ≡ before
HasFileCause content name max before now (Err Absent) = HasAbsentCause content name before now
HasFileCause content name max before now (Err Failed) = Rose before now
HasFileCause content name max before now (Err (TooLong most)) =
    (most ≡ max) × IfTold content (λ files. IsLonger files name max) × (now ≡ before)
HasFileCause content name max before now (Err NoMemory) =
    IsThere content name × (now ≡ before)
