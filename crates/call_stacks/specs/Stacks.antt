-- What the analysis of calls keeps, and what it stands for.
use Rattle.std.specs.Prelude.{◌≡◌, ℕ, ◌+◌, ◌<◌, ◌≤◌, List, [], ◌∷◌, length, reverse, take, drop, slice_get, slice_index_or, slice_set, Option, None, Some, unwrap_or}
use Rattle.std.specs.Option.{option_map}
use Rattle.circular_buffer.specs.Buffer.{Buffer, buffer}
use Rattle.rv_decode.specs.declared.links.Link.{Link}
use Rattle.rv_decode.specs.declared.links.Link.TheVariants.{Plain, Push, Pop, PopPush}
use Rattle.rv_decode.specs.Listing.{instruction}
use Rattle.run_events.specs.declared.event.Event.{Event}
use Rattle.run_events.specs.declared.event.Event.TheVariants.{Dma, Irq, Trap, Exec}
use Rattle.run_events.specs.declared.finding.Finding.{Finding}
use Rattle.run_events.specs.declared.finding.Kind.TheVariants as kind
use Rattle.run_events.specs.Announcement.{announced_by}
use Rattle.analysis_model.specs.Calls.{Move, moves_in, answered, bad_return, return_to, unmatched_count, link_as, frames_kept}
use Rattle.analysis_model.specs.Complaints.{Guest, findings}
use Rattle.analysis_model.specs.Context.{entered, context_after}
use Rattle.analysis_model.specs.Findings.{stopping}
use Rattle.analysis_model.specs.Look.{finding_at}
use Rattle.analysis_model.specs.Made.{guest_made_of}
use Rattle.finding_tally.specs.Tallied.{Tallied, Tallies, tallied_with}

-- what it keeps: the RAM size in KiB, the context, a ring of return addresses for each context, the number of pops that
-- answer no push, and the findings
pub record Stacks : Type 0 where
  pub ram_kib : ℕ
  pub context : ℕ
  pub rings : List (Buffer ℕ)
  pub unmatched : ℕ
  pub found : Tallied

-- what it was made of: the number of its kind
abbrev pub make_now : Stacks → List ℕ
make_now s = 2 ∷ []

-- the guest that it is made for
abbrev pub guest_now : Stacks → Guest
guest_now s = guest_made_of s.ram_kib (make_now s)

-- the ring of a context
abbrev pub ring_of : Stacks → ℕ → Buffer ℕ
ring_of s context = slice_index_or s.rings context (buffer [] 0)

-- A ring holds what pops will answer after these moves, the newest first: its first frame is the answer to the next pop,
-- and each further one to the pop after it. Of more than `bound` frames it holds the newest.
pub record Holds (bound : ℕ) (ring : Buffer ℕ) (moves : List Move) : Type 0 where
  pub room : ring.capacity ≡ bound
  pub few : length ring.items ≤ bound
  pub answers : (waiting : ℕ) → waiting < bound → answered bound waiting moves ≡ slice_get ring.items waiting

-- the number of pops that answer no push, which stops at the end of its type
abbrev pub unmatched_in : List Event → ℕ
unmatched_in events = stopping (unmatched_count frames_kept events)

-- it stands for these events
pub record Stands (s : Stacks) (events : List Event) : Type 0 where
  pub whole : length s.rings ≡ 64
  pub context_is : s.context ≡ context_after (reverse events)
  pub holds : (context : ℕ) → context < 64 → Holds frames_kept (ring_of s context) (moves_in context (reverse events))
  pub counted : s.unmatched ≡ unmatched_in events
  pub tallied : Tallies s.found (findings kind.Calls (guest_now s) events)

-- with another ring of the context
abbrev pub with_ring : Stacks → Buffer ℕ → Stacks
with_ring s ring = record s { rings = slice_set s.rings s.context ring }

-- a ring with one frame more in front, where a full one drops its last frame; and a ring without its first frame
abbrev pub pushed_on : Buffer ℕ → ℕ → Buffer ℕ
pushed_on ring link = buffer (take ring.capacity (link ∷ ring.items)) ring.capacity

abbrev pub popped_off : Buffer ℕ → Buffer ℕ
popped_off ring = buffer (drop 1 ring.items) ring.capacity

-- the same done to the ring of the context
abbrev pub pushed : Stacks → ℕ → Stacks
pushed s link = with_ring s (pushed_on (ring_of s s.context) link)

abbrev pub popped : Stacks → Stacks
popped s = with_ring s (popped_off (ring_of s s.context))

-- the first frame of the context
abbrev pub front_of : Stacks → Option ℕ
front_of s = slice_get (ring_of s s.context).items 0

-- the finding of a return that goes elsewhere than to the address that its call pushed
abbrev pub found_by : Option ℕ → ℕ → ℕ → ℕ → Option Finding
found_by answer step pc next = option_map (finding_at step pc) (return_to answer next)

-- with the finding of a return that goes elsewhere than to this address
abbrev pub misled : Stacks → ℕ → ℕ → ℕ → Stacks
misled s step pc wanted = record s { found = tallied_with s.found (Some (finding_at step pc (bad_return wanted))) }

-- the number of pops that answer no push, with one pop more
abbrev pub unmatched_with : ℕ → Option ℕ → ℕ
unmatched_with n None = stopping (n + 1)
unmatched_with n (Some wanted) = n

-- with the answer to a pop
abbrev pub judged : Stacks → Option ℕ → ℕ → ℕ → ℕ → Stacks
judged s answer step pc next = record s { unmatched = unmatched_with s.unmatched answer; found = tallied_with s.found (found_by answer step pc next) }

-- after a return
abbrev pub returned : Stacks → ℕ → ℕ → ℕ → Stacks
returned s step pc next = judged (popped s) (front_of s) step pc next

-- after an instruction at a pc
abbrev pub moved : Stacks → Link → ℕ → ℕ → ℕ → Stacks
moved s Plain step pc next = s
moved s Push step pc next = pushed s (pc + 4)
moved s Pop step pc next = returned s step pc next
moved s PopPush step pc next = pushed (returned s step pc next) (pc + 4)

-- in the context that an announcement enters
abbrev pub in_context : Stacks → Option ℕ → Stacks
in_context s entered_now = record s { context = unwrap_or entered_now s.context }

-- after one event more
abbrev pub after : Stacks → Event → Stacks
after s (Dma step address word mark) = s
after s (Irq step pc cause next) = s
after s (Trap step pc word cause value next) = s
after s (Exec step pc word next result access told) =
    in_context (moved s (link_as (instruction word)) step pc next) (entered (announced_by word told))
