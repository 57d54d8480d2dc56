-- Calls and returns: which push a pop answers.
use Rattle.std.specs.Prelude.{ℕ, zero, suc, ◌+◌, ◌==◌, nat_lt, Bool, true, false, List, [], ◌∷◌, ◌++◌, length, Option, None, Some, if◌then◌else◌}
use Rattle.run_events.specs.declared.event.Event.{Event}
use Rattle.run_events.specs.declared.event.Event.TheVariants.{Dma, Irq, Trap, Exec}
use Rattle.run_events.specs.declared.finding.FindingKind.TheVariants.{Return}
use Rattle.rv_decode.specs.declared.instruction.Instr.{Instr}
use Rattle.rv_decode.specs.declared.links.Link.{Link}
use Rattle.rv_decode.specs.declared.links.Link.TheVariants as link
use Rattle.rv_decode.specs.Links.{link_of}
use Rattle.rv_decode.specs.Listing.{instruction}
use Rattle.analysis_model.specs.Context.{context_after}
use Rattle.analysis_model.specs.Look.{Complaint, told_at}

-- what happens to the return addresses of a context: a call pushes one, a return pops one
pub data Move : Type 0 where
  Push : ℕ → Move
  Pop : Move

-- what an instruction tells of calls and returns, and what a word tells that is none
abbrev pub link_as : Option Instr → Link
link_as None = link.Plain
link_as (Some instr) = link_of instr

-- the moves of an instruction, the newest first, where a call returns to this address. One that does both pops first.
abbrev pub moves_by : Link → ℕ → List Move
moves_by link.Plain next = []
moves_by link.Push next = Push next ∷ []
moves_by link.Pop next = Pop ∷ []
moves_by link.PopPush next = Push next ∷ Pop ∷ []

abbrev pub moves_of : Event → List Move
moves_of (Exec step pc word next result access told) =
    moves_by (link_as (instruction word)) (pc + 4)
moves_of _ = []

-- the moves of a context in these events, the newest first
abbrev pub moves_in : ℕ → List Event → List Move
moves_in context [] = []
moves_in context (last ∷ before) =
    if context_after before == context then moves_of last ++ moves_in context before
    else moves_in context before

-- The return address of the push that a pop answers, read back from the pop: so many pops on the way wait for their
-- pushes, and the answer is the first push that none waits for. There is none where `bound` of them, the pop with them,
-- would wait at once.
abbrev pub answered : (bound waiting : ℕ) → List Move → Option ℕ
answered bound waiting [] = None
answered bound waiting (Pop ∷ older) =
    if nat_lt (waiting + 1) bound then answered bound (waiting + 1) older else None
answered bound zero (Push next ∷ older) = Some next
answered bound (suc waiting) (Push next ∷ older) = answered bound waiting older

-- a link by which a return address is popped
abbrev pub has_pop : Link → Bool
has_pop link.Plain = false
has_pop link.Push = false
has_pop link.Pop = true
has_pop link.PopPush = true

-- an event that pops
abbrev pub is_return : Event → Bool
is_return (Exec step pc word next result access told) = has_pop (link_as (instruction word))
is_return _ = false

-- where an executed instruction leads
abbrev pub next_of : Event → ℕ
next_of (Dma step address word mark) = 0
next_of (Irq step pc cause next) = next
next_of (Trap step pc word cause value next) = next
next_of (Exec step pc word next result access told) = next

-- a return that was to lead to this address; and the same of one that leads elsewhere than its call wanted
abbrev pub bad_return : ℕ → Complaint
bad_return wanted = record { kind = Return; address = wanted }

abbrev pub return_to : Option ℕ → ℕ → Option Complaint
return_to None next = None
return_to (Some wanted) next = if wanted == next then None else Some (bad_return wanted)

-- what there is to complain of an event, where a pop before it answers this push
abbrev pub calls_by : Option ℕ → Event → Option Complaint
calls_by answer event = if is_return event then return_to answer (next_of event) else None

-- the answer to a pop after these events, the newest first
abbrev pub answer_after : ℕ → List Event → Option ℕ
answer_after bound before = answered bound 0 (moves_in (context_after before) before)

-- a return to another address than the one that its call pushed
abbrev pub calls : ℕ → List Event → Event → Option Complaint
calls bound before event = calls_by (answer_after bound before) event

-- a pop that answers no push is counted, and is nothing to complain of
abbrev pub unmatched_by : Option ℕ → Event → Option Event
unmatched_by None event = if is_return event then Some event else None
unmatched_by (Some wanted) event = None

abbrev pub unmatched : ℕ → List Event → Event → Option Event
unmatched bound before event = unmatched_by (answer_after bound before) event

abbrev pub unmatched_count : ℕ → List Event → ℕ
unmatched_count bound events = length (told_at (unmatched bound) events)

-- the frames that are kept of a context
unfoldable pub frames_kept : ℕ
frames_kept = 4096
