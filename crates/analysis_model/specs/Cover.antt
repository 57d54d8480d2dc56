-- Which code a run has executed, as sets over its events.
use Rattle.std.specs.Prelude.{ℕ, ◌+◌, ◌==◌, Bool, List, [], ◌∷◌, Option, None, Some, if◌then◌else◌}
use Rattle.std.specs.List.{filter_map, list_any}
use Rattle.list_laws.specs.Least.{is_between}
use Rattle.run_events.specs.declared.event.Event.{Event}
use Rattle.run_events.specs.declared.event.Event.TheVariants.{Dma, Irq, Trap, Exec}
use Rattle.run_events.specs.declared.finding.FindingKind.TheVariants.{Outside}
use Rattle.machine_model.specs.Image.{Image, Segment}
use Rattle.analysis_model.specs.Ascending.{ascending}
use Rattle.analysis_model.specs.Look.{Complaint}

-- the pc of an executed instruction
abbrev pub executed_pc : Event → Option ℕ
executed_pc (Exec step pc word next result access told) = Some pc
executed_pc _ = None

-- the distinct pc values of a run, ascending
abbrev pub executed_pcs : List Event → List ℕ
executed_pcs events = ascending (filter_map executed_pc events)

-- a range of addresses, its end exclusive
pub record CodeRange : Type 0 where
  pub from : ℕ
  pub to : ℕ

-- a word of four bytes before ranges in ascending order: one with the first range where they touch
abbrev pub joined : ℕ → List CodeRange → List CodeRange
joined pc [] = record { from = pc; to = pc + 4 } ∷ []
joined pc (range ∷ ranges) =
    if pc + 4 == range.from then record { from = pc; to = range.to } ∷ ranges
    else record { from = pc; to = pc + 4 } ∷ range ∷ ranges

-- the maximal runs of the bytes [pc, pc + 4), for pc values in ascending order
abbrev pub runs : List ℕ → List CodeRange
runs [] = []
runs (pc ∷ pcs) = joined pc (runs pcs)

-- the executed ranges of a run, ascending
abbrev pub executed_ranges : List Event → List CodeRange
executed_ranges events = runs (executed_pcs events)

-- the addresses of the executable segments, in their order
abbrev pub ranges_of : List Segment → List CodeRange
ranges_of [] = []
ranges_of (segment ∷ segments) =
    if segment.executable
    then record { from = segment.address; to = segment.address + segment.size }
    ∷ ranges_of segments
    else ranges_of segments

abbrev pub executable_ranges : Image → List CodeRange
executable_ranges image = ranges_of image.segments

-- an address lies in some range
abbrev pub is_within : List CodeRange → ℕ → Bool
is_within ranges address =
    list_any (λ range. is_between range.from range.to address) ranges

-- what there is to complain of a pc, where it is in no executable segment
abbrev pub bad_pc : ℕ → Complaint
bad_pc pc = record { kind = Outside; address = pc }

abbrev pub cover_at : List CodeRange → ℕ → Option Complaint
cover_at code pc = if is_within code pc then None else Some (bad_pc pc)

-- an instruction was executed, or raised an exception, at a pc in no executable segment
abbrev pub cover : List CodeRange → Event → Option Complaint
cover code (Dma step address word mark) = None
cover code (Irq step pc cause next) = None
cover code (Trap step pc word cause value next) = cover_at code pc
cover code (Exec step pc word next result access told) = cover_at code pc
