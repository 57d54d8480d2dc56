-- What files in memory keep, and what each call does to it.
use Rattle.std.specs.Prelude.{ℕ, ◌≤◌, ◌+◌, ◌-◌, ◌==◌, max, min, List, [], ◌∷◌, ◌++◌, length, take, Bool, true, ◌||◌, if◌then◌else◌, Option, Some, None, Result, Ok, Err, unwrap_or, is_some, is_none, nat_lt}
use Rattle.std.specs.List.{find, list_any}
use Rattle.std.specs.Option.{option_and_then}
use Rattle.std.specs.Str.{bytes_eq}
use Rattle.after_edge.specs.declared.files.ReadFault.{ReadFault}
use Rattle.after_edge.specs.declared.files.ReadFault.TheVariants.{Absent, Failed}
use Rattle.after_edge.specs.Fault.{raised}
use Rattle.after_edge.specs.Files.{Contents}

-- a name that has room: its file, if there is one, and the most bytes that it takes
pub record Kept : Type 0 where
  pub name : List ℕ
  pub file : Option (List ℕ)
  pub room : ℕ

-- the names that have room, the calls that are to fail, how many calls there were and how many failed
pub record FilesState : Type 0 where
  pub entries : List Kept
  pub plan : List ℕ
  pub calls : ℕ
  pub faults : ℕ

-- before the first call
abbrev pub no_files : List ℕ → FilesState
no_files numbers = record { entries = []; plan = numbers; calls = 0; faults = 0 }

-- the entry of a name, which is the first one that has it
abbrev pub is_named : List ℕ → Kept → Bool
is_named text entry = bytes_eq entry.name text

abbrev pub entry_of : List Kept → List ℕ → Option Kept
entry_of entries text = find (is_named text) entries

-- the file of a name
abbrev pub file_of : List Kept → Contents
file_of entries text = option_and_then (λ entry. entry.file) (entry_of entries text)

-- the entry of this name, changed; the others stay
abbrev pub changed : (Kept → Kept) → List ℕ → List Kept → List Kept
changed change text [] = []
changed change text (entry ∷ entries) =
    if is_named text entry then change entry ∷ entries else entry ∷ changed change text entries

-- the entry of this name, changed, or else a new one after the others
abbrev pub changed_or_added : (Kept → Kept) → Kept → List ℕ → List Kept → List Kept
changed_or_added change fresh text entries =
    if is_some (entry_of entries text) then changed change text entries else entries ++ fresh ∷ []

-- a name with this room and no file
abbrev pub with_no_file : List ℕ → ℕ → Kept
with_no_file text bytes = record { name = text; file = None; room = bytes }

-- room for this many bytes at least
abbrev pub with_room : ℕ → Kept → Kept
with_room bytes entry = record { name = entry.name; file = entry.file; room = max entry.room bytes }

-- an empty file
abbrev pub with_no_bytes : Kept → Kept
with_no_bytes entry = record { name = entry.name; file = Some []; room = entry.room }

-- the bytes of a file, and none where there is no file
abbrev pub bytes_of : Kept → List ℕ
bytes_of entry = unwrap_or entry.file []

-- a file with the part of the piece that fits at its end
abbrev pub with_piece : List ℕ → Kept → Kept
with_piece piece entry = record {
  name = entry.name;
  file = Some (bytes_of entry ++ take (entry.room - length (bytes_of entry)) piece);
  room = entry.room;
}

-- the piece passes the room
abbrev pub passes_room : List ℕ → Kept → Bool
passes_room piece entry = nat_lt entry.room (length (bytes_of entry) + length piece)

-- the name has room for this many bytes
abbrev pub HasRoom : Option Kept → ℕ → Type 0
HasRoom None bytes = ⊥
HasRoom (Some entry) bytes = bytes ≤ entry.room

-- a file with these bytes, and room for them
abbrev pub with_bytes : List ℕ → Kept → Kept
with_bytes bytes entry = record {
  name = entry.name;
  file = Some bytes;
  room = max entry.room (length bytes);
}

-- the files after a name got room for this many bytes
abbrev pub room_after : FilesState → List ℕ → ℕ → FilesState
room_after s text bytes = record {
  entries = changed_or_added (with_room bytes) (with_no_file text bytes) text s.entries;
  plan = s.plan;
  calls = s.calls;
  faults = s.faults;
}

-- the files after a name got these bytes
abbrev pub set_after : FilesState → List ℕ → List ℕ → FilesState
set_after s text bytes = record {
  entries = changed_or_added (with_bytes bytes) (with_bytes bytes (with_no_file text 0)) text s.entries;
  plan = s.plan;
  calls = s.calls;
  faults = s.faults;
}

-- the next call is to fail
abbrev pub is_planned : FilesState → Bool
is_planned s = list_any (λ number. number == raised s.calls) s.plan

-- one more call, which leaves these entries
abbrev pub call_after : FilesState → List Kept → Bool → FilesState
call_after s entries fails = record {
  entries = entries;
  plan = s.plan;
  calls = raised s.calls;
  faults = (if fails then raised s.faults else s.faults);
}

-- the files of all names, which are told
abbrev pub told_content : FilesState → Option Contents
told_content s = Some (file_of s.entries)

-- what is read of a file, from this byte on, into a buffer of this size
abbrev pub read_of : Option (List ℕ) → ℕ → ℕ → Result ℕ ReadFault
read_of None at size = Err Absent
read_of (Some bytes) at size = Ok (min size (length bytes - at))

-- a read fails exactly where it is planned
abbrev pub read_answer : FilesState → List ℕ → ℕ → ℕ → Result ℕ ReadFault
read_answer s text at size =
    if is_planned s then Err Failed else read_of (file_of s.entries text) at size

-- the files after a read
abbrev pub read_after : FilesState → FilesState
read_after s = call_after s s.entries (is_planned s)

-- a begin fails exactly where it is planned or the name has no room
abbrev pub begin_fails : FilesState → List ℕ → Bool
begin_fails s text = is_planned s || is_none (entry_of s.entries text)

-- the files after a begin
abbrev pub begin_after : FilesState → List ℕ → FilesState
begin_after s text =
    call_after s (if is_planned s then s.entries else changed with_no_bytes text s.entries)
    (begin_fails s text)

-- the piece passes the room of the name, which may have none
abbrev pub has_no_place : List ℕ → Option Kept → Bool
has_no_place piece None = true
has_no_place piece (Some entry) = passes_room piece entry

-- an append fails exactly where it is planned, the name has no room, or the piece passes it
abbrev pub append_fails : FilesState → List ℕ → List ℕ → Bool
append_fails s text piece = is_planned s || has_no_place piece (entry_of s.entries text)

-- the files after an append
abbrev pub append_after : FilesState → List ℕ → List ℕ → FilesState
append_after s text piece =
    call_after s (if is_planned s then s.entries else changed (with_piece piece) text s.entries)
    (append_fails s text piece)
