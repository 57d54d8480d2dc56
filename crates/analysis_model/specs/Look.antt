-- Looks back: what an analysis tells of each event, from the events before it.
use Rattle.std.specs.Prelude.{ℕ, List, [], ◌∷◌, Option}
use Rattle.std.specs.List.{cons_option}
use Rattle.std.specs.Option.{option_map}
use Rattle.run_events.specs.declared.event.Event.{Event}
use Rattle.run_events.specs.declared.event.Event.TheVariants.{Dma, Irq, Trap, Exec}
use Rattle.run_events.specs.declared.finding.Finding.{Finding}
use Rattle.run_events.specs.declared.finding.FindingKind.{FindingKind}
use Rattle.run_events.specs.Event.{step_of}

-- What a look tells of each event, in order. A look takes the events before an event, the newest first, and the event;
-- the first list is what stands before all of the second.
abbrev pub told_after : {A : Type 0} → (List Event → Event → Option A) → List Event → List Event
    → List A
told_after look before [] = []
told_after look before (event ∷ events) =
    cons_option (look before event) (told_after look (event ∷ before) events)

-- what it tells of a run
abbrev pub told_at : {A : Type 0} → (List Event → Event → Option A) → List Event → List A
told_at look events = told_after look [] events

-- what an analysis complains of, and the address that it is about
pub record Complaint : Type 0 where
  pub kind : FindingKind
  pub address : ℕ

-- the pc of a step
abbrev pub pc_of : Event → ℕ
pc_of (Dma step address word mark) = 0
pc_of (Irq step pc cause next) = pc
pc_of (Trap step pc word cause value next) = pc
pc_of (Exec step pc word next result access told) = pc

-- a finding is a complaint at the step and the pc of its event
abbrev pub finding_at : (step pc : ℕ) → Complaint → Finding
finding_at step pc complaint = record {
  step = step;
  pc = pc;
  kind = complaint.kind;
  address = complaint.address;
}

abbrev pub finding_of : Event → Complaint → Finding
finding_of event complaint = finding_at (step_of event) (pc_of event) complaint

abbrev pub found_at : (List Event → Event → Option Complaint) → List Event → Event → Option Finding
found_at look before event = option_map (finding_of event) (look before event)
