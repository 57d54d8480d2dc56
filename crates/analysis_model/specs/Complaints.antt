-- The findings of each kind of analysis.
use Rattle.std.specs.Prelude.{ℕ, List, Option}
use Rattle.run_events.specs.declared.event.Event.{Event}
use Rattle.run_events.specs.declared.finding.Finding.{Finding}
use Rattle.run_events.specs.declared.finding.Kind.{Kind}
use Rattle.run_events.specs.declared.finding.Kind.TheVariants as kind
use Rattle.analysis_model.specs.Calls.{calls}
use Rattle.analysis_model.specs.Cover.{CodeRange, cover}
use Rattle.analysis_model.specs.Heap.{heap}
use Rattle.analysis_model.specs.Locks.{locks}
use Rattle.analysis_model.specs.Look.{Complaint, told_at, found_at}
use Rattle.analysis_model.specs.Taint.{taint}

-- what findings depend on beside the events: where the guest's code is, the RAM size in KiB, how many frames are kept of
-- a context, and how many locks and guarded ranges count
pub record Guest : Type 0 where
  pub code : List CodeRange
  pub ram_kib : ℕ
  pub frames : ℕ
  pub locks : ℕ

-- what an analysis complains of at an event, from the events before it, the newest first
abbrev pub complaint : Kind → Guest → List Event → Event → Option Complaint
complaint kind.Heap guest before event = heap guest.ram_kib before event
complaint kind.Taint guest before event = taint guest.ram_kib before event
complaint kind.Calls guest before event = calls guest.frames before event
complaint kind.Cover guest before event = cover guest.code event
complaint kind.Locks guest before event = locks guest.locks before event

-- the findings of an analysis, in the order of the events
abbrev pub findings : Kind → Guest → List Event → List Finding
findings kind guest events = told_at (found_at (complaint kind guest)) events
