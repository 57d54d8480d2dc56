-- What a reader answers, against what the definition of an image file gives.
use Rattle.std.specs.Prelude.{◌≡◌, ℕ, ◌*◌, ◌≤◌, MatchBool, List, length, Result, Ok, Err}
use Rattle.elf_image.specs.declared.fault.ImageFault.{ImageFault}
use Rattle.elf_image.specs.declared.fault.ImageFault.TheVariants as fault
use Rattle.format_model.specs.ImageFile as model

-- a part that was refused is refused for this by the definition, unless there was no memory
abbrev pub Refuses : {Y : Type 0} → ImageFault → Result Y model.Fault → Type 0
Refuses (fault.Short need) read = read ≡ Err (model.Short need)
Refuses (fault.NotThis field) read = read ≡ Err (model.NotThis field)
Refuses fault.BadTable read = read ≡ Err model.BadTable
Refuses (fault.SegmentShape index) read = read ≡ Err (model.SegmentShape index)
Refuses (fault.SegmentOutside index) read = read ≡ Err (model.SegmentOutside index)
Refuses (fault.Overlap first second) read = read ≡ Err (model.Overlap first second)
Refuses fault.NoSegment read = read ≡ Err model.NoSegment
Refuses fault.EntryOutside read = read ≡ Err model.EntryOutside
Refuses fault.NoMemory read = Unit {0}

-- a part was read as the definition says; view gives the value of what was returned
abbrev pub Gives : {X Y : Type 0} → (X → Y) → Result X ImageFault → Result Y model.Fault → Type 0
Gives view (Ok x) read = read ≡ Ok (view x)
Gives view (Err e) read = Refuses e read

-- where there was no memory, this holds
abbrev pub IfNoMemory : {X : Type 0} → Result X ImageFault → Type 0 → Type 0
IfNoMemory (Err fault.NoMemory) P = P
IfNoMemory result P = Unit {0}

-- the header of a file is that of an executable, and its table stands in the file
pub record HasTable (file : List ℕ) : Type 0 where
  pub long : 52 ≤ length file
  pub kind : model.kind_in file ≡ Ok tt
  pub table : model.Table
  pub table_is : model.table_in file ≡ Ok table

-- what is found without memory is right: header and table, or that a file without a header is not too long for its RAM
abbrev pub IsBegun : ℕ → List ℕ → Type 0
IsBegun ram_kib file =
    MatchBool (model.is_elf file) (HasTable file) (length file ≤ 1024 * ram_kib)
