-- What the calls of files read and change.
use Rattle.std.specs.Prelude.{◌≡◌, ◌≢◌, ◌⊎◌, ℕ, ◌-◌, ◌<◌, ◌≤◌, List, [], ◌++◌, length, take, drop, Option, Some, None, IsSome, Result, Ok, Err, unwrap_or}
use Rattle.list_laws.specs.Prefix.{IsPrefix}
use Rattle.after_edge.specs.declared.files.ReadFault.{ReadFault}
use Rattle.after_edge.specs.declared.files.ReadFault.TheVariants.{Absent, Failed}
use Rattle.after_edge.specs.Fault.{Rose}

-- what file a name has, if any
abbrev pub Contents : Type 0
Contents = List ℕ → Option (List ℕ)

-- where the files tell their content, it has this
abbrev pub IfTold : Option Contents → (Contents → Type 0) → Type 0
IfTold content P = (files : Contents) → content ≡ Some files → P files

-- as far as the files tell, there is one of this name
abbrev pub IsThere : Option Contents → List ℕ → Type 0
IsThere content name = IfTold content (λ files. IsSome (files name))

-- the content of files that do not tell it
abbrev pub untold : Option Contents
untold = None

-- the files tell their content, and have none of this name
pub record IsAbsent (content : Option Contents) (name : List ℕ) : Type 0 where
  pub files : Contents
  pub told : content ≡ Some files
  pub none : files name ≡ None

-- this many bytes from byte `at` of the named file: none exactly at or past its end
pub record Reads (files : Contents) (name : List ℕ) (at count : ℕ) (piece : List ℕ) : Type 0 where
  pub bytes : List ℕ
  pub file : files name ≡ Some bytes
  pub piece_is : piece ≡ take count (drop at bytes)
  pub within : count ≤ length bytes - at
  pub some : at < length bytes → 0 < count

-- when a file may be called absent, and what is counted then: nothing where the files tell it
abbrev pub HasAbsentCause : Option Contents → List ℕ → ℕ → ℕ → Type 0
HasAbsentCause content name before now =
    (IsAbsent content name × (now ≡ before)) ⊎ ((content ≡ None) × Rose before now)

-- when a read may give nothing, and what is counted: no read that gave its bytes is
abbrev pub HasReadCause : Option Contents → List ℕ → ℕ → ℕ → Result ℕ ReadFault → Type 0
HasReadCause content name before now (Ok count) = now ≡ before
HasReadCause content name before now (Err Absent) = HasAbsentCause content name before now
HasReadCause content name before now (Err Failed) = Rose before now

-- a change of the told content at this name; other files stay
pub record ChangesTold (old new : Contents) (name : List ℕ)
    (changed : Option (List ℕ) → Option (List ℕ) → Type 0) : Type 0 where
  pub here : changed (old name) (new name)
  pub others : (other : List ℕ) → other ≢ name → new other ≡ old other

-- what is told is still told, changed at this name alone
pub record Changes (old new : Option Contents) (name : List ℕ)
    (changed : Option (List ℕ) → Option (List ℕ) → Type 0) : Type 0 where
  pub untold : old ≡ None → new ≡ None
  pub told : IfTold old
      (λ was. (files : Contents) × (new ≡ Some files) × ChangesTold was files name changed)

-- what becomes of the file of that name: begun, it has no bytes; where the call failed, it is as before or begun
abbrev pub IsBegun : Option (List ℕ) → Option (List ℕ) → Type 0
IsBegun was now = now ≡ Some []

abbrev pub MayBeBegun : Option (List ℕ) → Option (List ℕ) → Type 0
MayBeBegun was now = (now ≡ was) ⊎ (now ≡ Some [])

-- the piece stands after its bytes; where the call failed, it is as before or a prefix of the piece does
abbrev pub IsAppended : List ℕ → Option (List ℕ) → Option (List ℕ) → Type 0
IsAppended piece was now = now ≡ Some (unwrap_or was [] ++ piece)

abbrev pub MayBeAppended : List ℕ → Option (List ℕ) → Option (List ℕ) → Type 0
MayBeAppended piece was now =
    (now ≡ was) ⊎ ((part : List ℕ) × IsPrefix part piece × (now ≡ Some (unwrap_or was [] ++ part)))
