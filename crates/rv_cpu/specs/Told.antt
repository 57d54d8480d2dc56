-- A plain step of a hart whose counters are some steps behind: what it shows, and the hart after it.
use Rattle.std.specs.Prelude.{ℕ, ◌+◌, List, [], ◌∷◌, Option, None, Some}
use Rattle.run_events.specs.declared.access.Access.TheVariants.{Quiet}
use Rattle.run_events.specs.declared.access.Told.{Told}
use Rattle.run_events.specs.declared.event.Event.{Event}
use Rattle.run_events.specs.declared.event.Event.TheVariants.{Exec}
use Rattle.rv_decode.specs.declared.instruction.Instr.{Instr}
use Rattle.hart_model.specs.Fetch.{Fetch, Found, Outside, fetched}
use Rattle.hart_model.specs.Operations.{sum}
use Rattle.hart_model.specs.State.{State, told_by, with_register}
use Rattle.hart_model.specs.Step.{outcome}
use Rattle.rv_cpu.specs.Batch.{from}
use Rattle.rv_cpu.specs.Midway.{Rest, Refused, Traps, Goes, Midway, executed_plainly}

-- none where the instruction is not a plain one
abbrev pub told_rest : (behind : ℕ) → Told → (word : ℕ) → Rest → State → Option (Event × State)
told_rest behind told word Refused s = None
told_rest behind told word (Traps cause value) s = None
told_rest behind told word (Goes result next access) s = Some (Exec (s.step + behind) s.pc word next result access told, from s next)

abbrev pub told_midway : (behind : ℕ) → Told → (word : ℕ) → Midway → Option (Event × State)
told_midway behind told word m = told_rest behind told word m.rest m.state

abbrev pub told_decoded : (behind lines : ℕ) → State → (word size : ℕ) → Option Instr → Option (Event × State)
told_decoded behind lines s word size None = None
told_decoded behind lines s word size (Some i) = told_midway behind (told_by s.registers) word (executed_plainly s i (outcome s lines None word size i))

abbrev pub told_fetched : (behind lines : ℕ) → State → Fetch → Option (Event × State)
told_fetched behind lines s (Found f) = told_decoded behind lines s f.word f.size f.instr
told_fetched behind lines s (Outside address) = None

abbrev pub next_told : (behind lines : ℕ) → State → Option (Event × State)
next_told behind lines s = told_fetched behind lines s (fetched s.ram s.pc)

-- what the word of slti x0, x0, k shows as that of a step, and the hart after it: it writes x0 alone
abbrev pub idle_told : (step word : ℕ) → State → Event × State
idle_told step word s =
    let next = sum s.pc 4 in
    (Exec step s.pc word next 0 Quiet (told_by s.registers), record s { registers = with_register s.registers 0 0; pc = next })

-- the hart after it, and what it shows
abbrev pub state_told : State → Option (Event × State) → State
state_told s None = s
state_told s (Some x) = x.1

abbrev pub events_told : Option (Event × State) → List Event
events_told None = []
events_told (Some x) = x.0 ∷ []
