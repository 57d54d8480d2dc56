-- What coverage keeps, what it stands for, and what it tells.
use Rattle.std.specs.Prelude.{◌≡◌, ℕ, ◌+◌, ◌-◌, ◌*◌, ◌/◌, Bool, true, false, List, [], ◌∷◌, length, slice_index_or, slice_set, if◌then◌else◌}
use Rattle.std.specs.Option.{option_map}
use Rattle.list_laws.specs.Least.{is_between}
use Rattle.memory_map.specs.declared.TheConstants.{RAM_START}
use Rattle.run_events.specs.declared.event.Event.{Event}
use Rattle.run_events.specs.declared.event.Event.TheVariants.{Dma, Irq, Trap, Exec}
use Rattle.run_events.specs.declared.finding.Kind.TheVariants.{Cover}
use Rattle.analysis_model.specs.Complaints.{Guest, findings}
use Rattle.analysis_model.specs.Cover.{CodeRange, cover_at, executed_pcs, is_within, runs}
use Rattle.analysis_model.specs.Look.{finding_at}
use Rattle.analysis_model.specs.Made.{code_made_of, guest_made_of, ranges_made_of}
use Rattle.finding_tally.specs.Tallied.{Tallied, Tallies, tallied_with}
use Rattle.coverage_map.specs.declared.area.Area.{Area}

-- what coverage keeps: the RAM size in KiB, the guest's code, a mark a word of RAM, and its findings
pub record Covered : Type 0 where
  pub ram_kib : ℕ
  pub code : List Area
  pub marks : List Bool
  pub found : Tallied

-- an address of this range of code
abbrev pub holds : Area → ℕ → Bool
holds area pc = is_between area.address (area.address + area.size) pc

-- the address and the size of each range of code
abbrev pub area_numbers : List Area → List ℕ
area_numbers [] = []
area_numbers (area ∷ areas) = area.address ∷ area.size ∷ area_numbers areas

-- the words that are known to be executed, and to be code
abbrev pub AreKnown : List Bool → List Bool → List Area → Type 0
AreKnown known marks code =
    (place : ℕ)
    → slice_index_or known place false ≡ true
    → (slice_index_or marks place false ≡ true) × (is_within (ranges_made_of (area_numbers code)) (RAM_START + 4 * place) ≡ true)

-- what it was made of
abbrev pub make_now : Covered → List ℕ
make_now c = 3 ∷ area_numbers c.code

-- the guest that it is made for
abbrev pub guest_now : Covered → Guest
guest_now c = guest_made_of c.ram_kib (make_now c)

-- the addresses of the marked words, where the first mark is of the word at this address
abbrev pub marked_from : ℕ → List Bool → List ℕ
marked_from address [] = []
marked_from address (mark ∷ marks) = if mark then address ∷ marked_from (address + 4) marks else marked_from (address + 4) marks

abbrev pub marked : List Bool → List ℕ
marked marks = marked_from RAM_START marks

-- it stands for these events: of the words of RAM those are marked that the events executed, and the findings are
-- theirs
pub record Stands (c : Covered) (events : List Event) : Type 0 where
  pub whole : length c.marks ≡ 256 * c.ram_kib
  pub executed : marked c.marks ≡ executed_pcs events
  pub tallied : Tallies c.found (findings Cover (guest_now c) events)

-- the pc values that it tells, and the ranges
abbrev pub pcs_now : Covered → List ℕ
pcs_now c = marked c.marks

abbrev pub ranges_now : Covered → List CodeRange
ranges_now c = runs (pcs_now c)

-- with the mark of the word at this address
abbrev pub with_mark : Covered → ℕ → Covered
with_mark c pc = record c { marks = slice_set c.marks ((pc - RAM_START) / 4) true }

-- with the finding of an event at this pc, where it is in no code
abbrev pub with_outside : Covered → ℕ → ℕ → Covered
with_outside c step pc = record c { found = tallied_with c.found (option_map (finding_at step pc) (cover_at (code_made_of (make_now c)) pc)) }

-- after one event more
abbrev pub after : Covered → Event → Covered
after c (Dma step address word mark) = c
after c (Irq step pc cause next) = c
after c (Trap step pc word cause value next) = with_outside c step pc
after c (Exec step pc word next result access told) = with_outside (with_mark c pc) step pc
