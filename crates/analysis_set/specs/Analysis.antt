-- What an analysis stands for, and what it was made for, by its variant.
use Rattle.std.specs.Prelude.{ℕ, List}
use Rattle.run_events.specs.declared.event.Event.{Event}
use Rattle.run_events.specs.declared.finding.Finding.{Finding}
use Rattle.analysis_model.specs.Complaints.{findings}
use Rattle.analysis_model.specs.Made.{kind_made_of, guest_made_of}
use Rattle.analysis_model.specs.Report.{more_text, part_text}
use Rattle.redzones.specs.Zones as zones
use Rattle.taint_marks.specs.Marks as marks
use Rattle.call_stacks.specs.Stacks as stacks
use Rattle.coverage_map.specs.Coverage as coverage
use Rattle.lock_rules.specs.State as locks
use Rattle.analysis_set.specs.declared.any_analysis.AnyAnalysis.{AnyAnalysis}
use Rattle.analysis_set.specs.declared.any_analysis.AnyAnalysis.TheVariants.{Heap, Taint, Calls, Cover, Locks}

-- it stands for these events
abbrev pub HasSeen : AnyAnalysis → List Event → Type 0
HasSeen (Heap kept) h = zones.Stands kept h
HasSeen (Taint kept) h = marks.Stands kept h
HasSeen (Calls kept) h = stacks.Stands kept h
HasSeen (Cover kept) h = coverage.Stands kept h
HasSeen (Locks kept) h = locks.Stands kept h

-- the RAM size of the runs that it watches, in KiB
abbrev pub kib_of : AnyAnalysis → ℕ
kib_of (Heap kept) = kept.ram_kib
kib_of (Taint kept) = kept.ram_kib
kib_of (Calls kept) = kept.ram_kib
kib_of (Cover kept) = kept.ram_kib
kib_of (Locks kept) = kept.ram_kib

-- what it was made of, as numbers
abbrev pub made_of : AnyAnalysis → List ℕ
made_of (Heap kept) = zones.make_now kept
made_of (Taint kept) = marks.make_now kept
made_of (Calls kept) = stacks.make_now kept
made_of (Cover kept) = coverage.make_now kept
made_of (Locks kept) = locks.make_now kept

-- the findings of an analysis that watches runs of so many KiB of RAM and is made of these numbers
abbrev pub findings_made : ℕ → List ℕ → List Event → List Finding
findings_made kib made h = findings (kind_made_of made) (guest_made_of kib made) h

-- and its part of the report
abbrev pub part_made : ℕ → List ℕ → List Event → List ℕ
part_made kib made h = part_text (guest_made_of kib made) h (kind_made_of made)

-- of which this stands between the number of the findings and the findings
abbrev pub more_made : ℕ → List ℕ → List Event → List ℕ
more_made kib made h = more_text (guest_made_of kib made) h (kind_made_of made)
