-- What a standing stands for.
use Rattle.std.specs.Prelude.{◌≡◌, ℕ, true, List, ◌++◌}
use Rattle.run_events.specs.declared.event.Event.{Event}
use Rattle.run_events.specs.declared.record.Record.{Record}
use Rattle.run_events.specs.declared.record.Record.TheVariants.{Load, Lines, Dma, Reach, End}
use Rattle.any_machine.specs.Machine.{Machine}
use Rattle.any_machine.specs.Held.{Held}
use Rattle.any_replay.specs.declared.standing.Standing.{Standing}

-- a standing as what a replay that is fed carries along
abbrev pub held_of : {H : Type 0} → (H → ℕ) → Standing H → Held H
held_of done standing = record { state = standing.hart; step = done standing.hart; lines = standing.lines; load = standing.load; power = standing.power }

-- the word of a Dma stands in RAM
abbrev pub IsWordHeld : {H : Type 0} → Machine H → H → Record → Type 0
IsWordHeld m hart (Dma step address word mark) = m.holds hart address ≡ true
IsWordHeld m hart (Load step value mark) = Unit {0}
IsWordHeld m hart (Lines step bits) = Unit {0}
IsWordHeld m hart (Reach step) = Unit {0}
IsWordHeld m hart (End step cause) = Unit {0}

-- what was seen, and these events after it, is seen now
abbrev pub SeesMore : (List Event → Type 0) → (List Event → Type 0) → List Event → Type 0
SeesMore Seen SeenNow events = (h : List Event) → Seen h → SeenNow (h ++ events)
