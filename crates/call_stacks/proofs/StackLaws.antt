-- What the analysis stands for, with one event more.
use Rattle.std.proofs.Common.{◌≡◌, ◌≢◌, ℕ, ◌+◌, ◌-◌, ◌^◌, ◌<◌, ◌==◌, Bool, true, false, cond, if◌then◌else◌, List, [], ◌∷◌, ◌++◌, length, reverse, replicate, min, get_or, set, slice_get, Option, None, Some, unwrap_or, refl, sym, ap, ◌∙◌, arith, inl, inr, length-append, append-nil}
use Rattle.std.specs.List.{cons_option}
use Rattle.std.specs.Option.{option_map}
use Rattle.std.proofs.lemmas.Bool.{cases_eq}
use Rattle.std.proofs.lemmas.Bool.Decides.{nat_tests}
use Rattle.std.proofs.lemmas.List.{length-set, get_or-set_same, get_or-set_other, get_or-replicate, length-replicate}
use Rattle.circular_buffer.specs.Buffer.{Buffer, buffer}
use Rattle.list_laws.proofs.ReverseLaws.{reverse-last}
use Rattle.rv_decode.specs.declared.links.Link.{Link}
use Rattle.rv_decode.specs.declared.links.Link.TheVariants as link
use Rattle.rv_decode.specs.Listing.{instruction}
use Rattle.run_events.specs.declared.event.Event.{Event}
use Rattle.run_events.specs.declared.event.Event.TheVariants.{Dma, Irq, Trap, Exec}
use Rattle.run_events.specs.declared.finding.Finding.{Finding}
use Rattle.run_events.specs.declared.finding.Kind.TheVariants as kind
use Rattle.run_events.specs.Announcement.{announced_by, announced}
use Rattle.analysis_model.specs.Calls.{Move, Push, Pop, moves_by, moves_of, moves_in, has_pop, is_return, return_to, calls_by, calls, unmatched, unmatched_by, answer_after, link_as, frames_kept}
use Rattle.analysis_model.specs.Complaints.{findings}
use Rattle.analysis_model.specs.Context.{entered, context_after}
use Rattle.analysis_model.specs.Look.{Complaint, told_at, finding_of, found_at}
use Rattle.analysis_model.proofs.ContextLaws.{context-more, context_small}
use Rattle.analysis_model.proofs.LookLaws.{told_at-more}
use Rattle.finding_tally.specs.Tallied.{Tallied, Tallies, tallied, tallied_with}
use Rattle.finding_tally.proofs.TalliedLaws.{tallied_with-more}
use Rattle.call_stacks.specs.Stacks.{Stacks, Holds, Stands, ring_of, pushed_on, popped_off, front_of, unmatched_with, moved, after, guest_now}
use Rattle.call_stacks.proofs.RingLaws.{Holds-none, Holds-push, Holds-pop}

some_frames : 0 < frames_kept
unfolding frames_kept
some_frames = omega arith

Holds_along : (bound : ℕ) (r r' : Buffer ℕ) (moves moves' : List Move) → r ≡ r' → moves ≡ moves' → Holds bound r moves → Holds bound r' moves'
Holds_along bound r r' moves moves' e f holds = rw (← e, ← f) holds

-- the ring with this number
abbrev ring_at : List (Buffer ℕ) → ℕ → Buffer ℕ
ring_at rings context = get_or rings context (buffer [] 0)

-- the moves of a context, where the running one has these moves more
abbrev moves_with : ℕ → List Move → ℕ → List Event → List Move
moves_with running newer context before = if running == context then newer ++ moves_in context before else moves_in context before

-- the rings hold what the moves leave, where the running context has these moves more
record Rings (rings : List (Buffer ℕ)) (running : ℕ) (newer : List Move) (before : List Event) : Type 0 where
  pub whole : length rings ≡ 64
  pub holds : (context : ℕ) → context < 64 → Holds frames_kept (ring_at rings context) (moves_with running newer context before)

with-running : (running context : ℕ) (newer : List Move) (before : List Event) → running ≡ context → moves_with running newer context before ≡ newer ++ moves_in context before
with-running running context newer before e =
    let test : (running == context) ≡ true = grind (arith, nat_tests) in
    rw test refl

with-other : (running context : ℕ) (newer : List Move) (before : List Event) → running ≢ context → moves_with running newer context before ≡ moves_in context before
with-other running context newer before ne =
    let test : (running == context) ≡ false = grind (arith, nat_tests) in
    rw test refl

with-none : (running context : ℕ) (before : List Event) → moves_in context before ≡ moves_with running [] context before
with-none running context before = elim (running == context) as (λ t. moves_in context before ≡ cond t (moves_in context before) (moves_in context before)) [ true ↦ refl | false ↦ refl ]

-- one move more of the running context
Rings-move : (rings : List (Buffer ℕ)) (running : ℕ) (newer : List Move) (before : List Event) (ring : Buffer ℕ) (move : Move) → running < 64
    → ((moves : List Move) → Holds frames_kept (ring_at rings running) moves → Holds frames_kept ring (move ∷ moves))
    → Rings rings running newer before → Rings (set rings running ring) running (move ∷ newer) before
Rings-move rings running newer before ring move small step held = record { whole = length-set rings running ring ∙ held.whole; holds = holds }
  where
    room : running < length rings
    room = omega (arith, held.whole)

    holds : (context : ℕ) → context < 64 → Holds frames_kept (ring_at (set rings running ring) context) (moves_with running (move ∷ newer) context before)
    holds context h =
        elim (cases_eq running context) [
          | inl same ↦
              let moves = newer ++ moves_in context before in
              let now : Holds frames_kept (ring_at rings running) moves =
              Holds_along frames_kept (ring_at rings context) (ring_at rings running) (moves_with running newer context before) moves (ap (ring_at rings) (sym same)) (with-running running context newer before same) (held.holds context h) in
              let there : ring ≡ ring_at (set rings running ring) context = sym (get_or-set_same rings running ring (buffer [] 0) room) ∙ ap (ring_at (set rings running ring)) same in
              Holds_along frames_kept ring (ring_at (set rings running ring) context) (move ∷ moves) (moves_with running (move ∷ newer) context before) there (sym (with-running running context (move ∷ newer) before same)) (step moves now)
          | inr apart ↦
              let apart_back : context ≢ running = λ e. apart (sym e) in
              Holds_along frames_kept (ring_at rings context) (ring_at (set rings running ring) context) (moves_with running newer context before) (moves_with running (move ∷ newer) context before)
              (sym (get_or-set_other rings running context ring (buffer [] 0) apart_back))
              (with-other running context newer before apart ∙ sym (with-other running context (move ∷ newer) before apart))
              (held.holds context h)
        ]

Rings-push : (rings : List (Buffer ℕ)) (running : ℕ) (newer : List Move) (before : List Event) (next : ℕ) → running < 64 → Rings rings running newer before → Rings (set rings running (pushed_on (ring_at rings running) next)) running (Push next ∷ newer) before
Rings-push rings running newer before next small held =
    Rings-move rings running newer before (pushed_on (ring_at rings running) next) (Push next) small (λ moves holds. Holds-push frames_kept (ring_at rings running) moves next holds) held

Rings-pop : (rings : List (Buffer ℕ)) (running : ℕ) (newer : List Move) (before : List Event) → running < 64 → Rings rings running newer before → Rings (set rings running (popped_off (ring_at rings running))) running (Pop ∷ newer) before
Rings-pop rings running newer before small held =
    Rings-move rings running newer before (popped_off (ring_at rings running)) Pop small (λ moves holds. Holds-pop frames_kept (ring_at rings running) moves holds) held

-- what one event makes of each field
record Step (old new : Stacks) (moves : List Move) (pops : Bool) (finding : Option Finding) (context : ℕ) : Type 0 where
  pub context_is : new.context ≡ context
  pub rings : (before : List Event) → old.context < 64 → Rings old.rings old.context [] before → Rings new.rings old.context moves before
  pub unmatched : new.unmatched ≡ (if pops then unmatched_with old.unmatched (front_of old) else old.unmatched)
  pub found : new.found ≡ tallied_with old.found finding

-- the finding of a return
abbrev finding_by : Bool → Option ℕ → ℕ → ℕ → ℕ → Option Finding
finding_by pops answer step pc next = option_map (λ (c : Complaint). record { step = step; pc = pc; kind = c.kind; address = c.address }) (if pops then return_to answer next else None)

Step-moved : (s : Stacks) (kind : Link) (step pc next : ℕ) → Step s (moved s kind step pc next) (moves_by kind (pc + 4)) (has_pop kind) (finding_by (has_pop kind) (front_of s) step pc next) s.context
Step-moved s link.Plain step pc next = record { context_is = refl; rings = λ before small held. held; unmatched = refl; found = refl }
Step-moved s link.Push step pc next = record { context_is = refl; rings = λ before small held. Rings-push s.rings s.context [] before (pc + 4) small held; unmatched = refl; found = refl }
Step-moved s link.Pop step pc next = record { context_is = refl; rings = λ before small held. Rings-pop s.rings s.context [] before small held; unmatched = refl; found = refl }
Step-moved s link.PopPush step pc next = record {
  context_is = refl;
  rings = λ before small held. Rings-push (set s.rings s.context (popped_off (ring_of s s.context))) s.context (Pop ∷ []) before (pc + 4) small (Rings-pop s.rings s.context [] before small held);
  unmatched = refl;
  found = refl;
}

-- what an event makes of each field, from the answer to a pop
abbrev StepOf : Stacks → Event → Type 0
StepOf s event = Step s (after s event) (moves_of event) (is_return event) (option_map (finding_of event) (calls_by (front_of s) event)) (unwrap_or (entered (announced event)) s.context)

Step-after : (s : Stacks) (event : Event) → StepOf s event
Step-after s (Dma step address word mark) = record { context_is = refl; rings = λ before small held. held; unmatched = refl; found = refl }
Step-after s (Irq step pc cause next) = record { context_is = refl; rings = λ before small held. held; unmatched = refl; found = refl }
Step-after s (Trap step pc word cause value next) = record { context_is = refl; rings = λ before small held. held; unmatched = refl; found = refl }
Step-after s (Exec step pc word next result access told) =
    let by_link = Step-moved s (link_as (instruction word)) step pc next in
    record { context_is = ap (unwrap_or (entered (announced_by word told))) by_link.context_is; rings = by_link.rings; unmatched = by_link.unmatched; found = by_link.found }

-- one pop more that answers a push, or none
counted-more : (n : ℕ) (told : List Event) (event : Event) (answer : Option ℕ) → n ≡ min (length told) (2 ^ 64 - 1)
    → (if is_return event then unmatched_with n answer else n) ≡ min (length (told ++ cons_option (unmatched_by answer event) [])) (2 ^ 64 - 1)
counted-more n told event None counted =
    elim (is_return event) as (λ t. cond t (unmatched_with n None) n ≡ min (length (told ++ cons_option (cond t (Some event) None) [])) (2 ^ 64 - 1)) [
      | true ↦ rw (length-append told (event ∷ [])) (omega arith)
      | false ↦ rw (append-nil told) counted
    ]
counted-more n told event (Some wanted) counted =
    elim (is_return event) as (λ t. cond t n n ≡ min (length (told ++ [])) (2 ^ 64 - 1)) [
      | true ↦ rw (append-nil told) counted
      | false ↦ rw (append-nil told) counted
    ]

-- the first frame of the running context is the answer to a pop
front-answers : (s : Stacks) (h : List Event) → Stands s h → front_of s ≡ answer_after frames_kept (reverse h)
front-answers s h stands =
    let small : context_after (reverse h) < 64 = omega (arith, context_small (reverse h)) in
    let holds = stands.holds (context_after (reverse h)) small in
    ap (λ context. slice_get (ring_of s context).items 0) stands.context_is ∙ sym (holds.answers 0 some_frames)

-- the rings before an event
Rings-before : (s : Stacks) (h : List Event) → Stands s h → Rings s.rings s.context [] (reverse h)
Rings-before s h stands = record {
  whole = stands.whole;
  holds = λ context small. Holds_along frames_kept (ring_of s context) (ring_of s context) (moves_in context (reverse h)) (moves_with s.context [] context (reverse h)) refl (with-none s.context context (reverse h)) (stands.holds context small);
}

-- it stands for one event more, once it has taken that in
pub Stands-more : (s : Stacks) (event : Event) (h : List Event) → Stands s h → Stands (after s event) (h ++ event ∷ [])
Stands-more s event h stands =
    let step = Step-after s event in
    let before = reverse h in
    let front = front-answers s h stands in
    let small : s.context < 64 = omega (arith, context_small (reverse h), stands.context_is) in
    let held = step.rings before small (Rings-before s h stands) in
    let older = λ (context : ℕ). ap (λ running. moves_with running (moves_of event) context before) stands.context_is ∙ ap (moves_in context) (sym (reverse-last h event)) in
    record {
      whole = held.whole;
      context_is = step.context_is ∙ ap (unwrap_or (entered (announced event))) stands.context_is ∙ sym (context-more h event);
      holds = λ context room. Holds_along frames_kept (ring_of (after s event) context) (ring_of (after s event) context) (moves_with s.context (moves_of event) context before) (moves_in context (reverse (h ++ event ∷ []))) refl (older context) (held.holds context room);
      counted = step.unmatched ∙ ap (λ answer. if is_return event then unmatched_with s.unmatched answer else s.unmatched) front ∙ counted-more s.unmatched (told_at (unmatched frames_kept) h) event (answer_after frames_kept before) stands.counted ∙ ap (λ told. min (length told) (2 ^ 64 - 1)) (sym (told_at-more (unmatched frames_kept) h event));
      tallied = step.found ∙ ap (λ answer. tallied_with s.found (option_map (finding_of event) (calls_by answer event))) front ∙ tallied_with-more s.found (findings kind.Calls (guest_now s) h) (found_at (calls frames_kept) before event) stands.tallied ∙ ap tallied (sym (told_at-more (found_at (calls frames_kept)) h event));
    }

-- a ring without frames
abbrev pub no_frames : Buffer ℕ
no_frames = buffer [] frames_kept

-- and at first for no event
pub Stands-none : (ram_kib : ℕ) (rings : List (Buffer ℕ)) → rings ≡ replicate 64 no_frames → (found : Tallied) → Tallies found [] → Stands (record { ram_kib = ram_kib; context = 0; rings = rings; unmatched = 0; found = found }) []
Stands-none ram_kib rings empty found none_found = record {
  whole = ap length empty ∙ length-replicate 64 no_frames;
  context_is = refl;
  holds = λ context small. Holds_along frames_kept no_frames (ring_at rings context) [] [] (sym (ap (λ l. ring_at l context) empty ∙ get_or-replicate 64 context no_frames (buffer [] 0) small)) refl (Holds-none frames_kept);
  counted = refl;
  tallied = none_found;
}
