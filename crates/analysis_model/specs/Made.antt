-- What an analysis is made of, as numbers: the number of its kind, and for coverage the address and the size of each
-- executable segment, in order.
use Rattle.std.specs.Prelude.{ℕ, ◌+◌, ◌==◌, List, [], ◌∷◌, if◌then◌else◌}
use Rattle.run_events.specs.declared.finding.Kind.{Kind}
use Rattle.run_events.specs.declared.finding.Kind.TheVariants.{Heap, Taint, Calls, Cover, Locks}
use Rattle.machine_model.specs.Image.{Image, Segment}
use Rattle.analysis_model.specs.Calls.{frames_kept}
use Rattle.analysis_model.specs.Complaints.{Guest}
use Rattle.analysis_model.specs.Cover.{CodeRange, executable_ranges}
use Rattle.analysis_model.specs.Locks.{locks_kept}

abbrev pub code_numbers : List Segment → List ℕ
code_numbers [] = []
code_numbers (segment ∷ segments) =
    if segment.executable then segment.address ∷ segment.size ∷ code_numbers segments
    else code_numbers segments

-- of a kind of analysis of this guest
abbrev pub make_of : Kind → Image → List ℕ
make_of Heap image = 0 ∷ []
make_of Taint image = 1 ∷ []
make_of Calls image = 2 ∷ []
make_of Cover image = 3 ∷ code_numbers image.segments
make_of Locks image = 4 ∷ []

-- the kind with this number
abbrev pub kind_numbered : ℕ → Kind
kind_numbered n =
    if n == 0 then Heap
    else if n == 1 then Taint
    else if n == 2 then Calls
    else if n == 3 then Cover
    else Locks

-- the kind of an analysis that is made of these
abbrev pub kind_made_of : List ℕ → Kind
kind_made_of [] = Heap
kind_made_of (kind ∷ numbers) = kind_numbered kind

-- addresses and sizes, read back
abbrev pub ranges_made_of : List ℕ → List CodeRange
ranges_made_of [] = []
ranges_made_of (address ∷ []) = []
ranges_made_of (address ∷ size ∷ numbers) =
    record { from = address; to = address + size } ∷ ranges_made_of numbers

-- the guest's code, for an analysis that is made of these
abbrev pub code_made_of : List ℕ → List CodeRange
code_made_of [] = []
code_made_of (kind ∷ numbers) = ranges_made_of numbers

-- a guest of so many KiB of RAM whose analysis is made of these, at the sizes that analyses have
abbrev pub guest_made_of : ℕ → List ℕ → Guest
guest_made_of ram_kib made = record {
  code = code_made_of made;
  ram_kib = ram_kib;
  frames = frames_kept;
  locks = locks_kept;
}

-- the guest of an image, at these sizes
abbrev pub guest_of : Image → ℕ → Guest
guest_of image ram_kib = record {
  code = executable_ranges image;
  ram_kib = ram_kib;
  frames = frames_kept;
  locks = locks_kept;
}
