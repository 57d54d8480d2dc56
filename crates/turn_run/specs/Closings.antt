-- How a run ends, and what stands when it is over.
use Rattle.std.specs.Prelude.{◌≡◌, ℕ, ◌≤◌, ◌<◌, Bool, true, List, [], length, take, map, slice_get, slice_index, Option, Some}
use Rattle.after_edge.specs.Fault.{Rose}
use Rattle.after_edge.specs.Sink.{Telling, Adds, Writes}
use Rattle.circular_buffer.specs.Buffer.{keep_last}
use Rattle.run_events.specs.declared.record.Record.{Record}
use Rattle.run_events.specs.declared.item.Item.{Item}
use Rattle.any_machine.specs.Log.{bytes_of}
use Rattle.any_machine.specs.Recording.{Recording}
use Rattle.gate_core.specs.declared.verdict.Verdict.{Verdict}
use Rattle.gate_core.specs.Core.{CoreState}
use Rattle.gate_core.specs.Hub.{verdict_at}
use Rattle.turn_run.specs.declared.closing.Closing.{Closing}
use Rattle.turn_run.specs.declared.ending.Ending.{Ending}
use Rattle.turn_run.specs.declared.parts.Parts.{Parts}
use Rattle.turn_run.specs.Following.{Following}
use Rattle.turn_run.specs.Course.{Course, Agrees, released_bytes}
use Rattle.turn_run.specs.Endings.{end_in}
use Rattle.turn_run.specs.Gates.{released_by}
use Rattle.turn_run.specs.Runs.{AllRead, AllTaken, HasFailed, IsAt, IsBroken}

-- the log is closed, and each follower has taken all of it
abbrev pub IsReadOut : {M F : Type 0} → Parts M F → Type 0
IsReadOut parts = (parts.hub.closed ≡ true) × AllRead parts.hub

-- HOW A RUN ENDS

module _ {M F : Type 0} (r : Recording M) (f : Following F) where
  -- A run that went to its end: all records were appended and taken, all bytes that are let out were released, and none
  -- waits.
  pub record IsEnded (c : Course) (parts : Parts M F) : Type 0 where
    pub core : CoreState
    pub at : IsAt r f c core parts
    pub closed : core.closed ≡ true
    pub appended : core.appended ≡ length c.items
    pub taken : AllTaken c core
    pub released : core.released ≡ length (released_bytes c)
    pub none : parts.gate.steps ≡ []

  -- A run that a failed put has ended: the log was closed after so many records, each follower has taken them all, and so
  -- many bytes went out.
  pub record IsStopped (c : Course) (count put : ℕ) (parts : Parts M F) : Type 0 where
    pub core : CoreState
    pub broken : IsBroken r f c core parts
    pub closed : core.closed ≡ true
    pub appended : core.appended ≡ count
    pub taken : AllTaken c core
    pub released : core.released ≡ put
    pub within : put ≤ length (released_by c count)

  -- and what was put by then: all that is let out
  pub record HasEnded {S : Type 0} (c : Course) (parts : Parts M F) (sink : Telling S) (old new : S) : Type 0 where
    pub ended : IsEnded c parts
    pub put : Writes sink old new (released_bytes c)

  -- or the first bytes of what is let out of the records in the log, which was closed where it stood when the put failed
  pub record HasStopped {S : Type 0} (c : Course) (parts : Parts M F) (sink : Telling S) (old new : S) : Type 0 where
    pub count : ℕ
    pub put : ℕ
    pub failed : HasFailed c count put
    pub stopped : IsStopped c count put parts
    pub added : Adds sink.holds old new (take put (released_by c count))
    pub rose : Rose (sink.faults old) (sink.faults new)

-- WHAT STANDS WHEN IT IS OVER

module _ {F : Type 0} where
  abbrev pub is_closed : Closing F → Bool
  is_closed closing = closing.hub.closed

  -- how many records were appended, and the last of them, which are stored
  abbrev pub appended_of : Closing F → ℕ
  appended_of closing = closing.hub.appended

  abbrev pub stored_of : Closing F → List Record
  stored_of closing = closing.hub.stored

  -- how many readers the log has, how many records each of them has taken, and what it has posted last
  abbrev pub readers_of : Closing F → ℕ
  readers_of closing = length closing.hub.taken

  abbrev pub taken_of : Closing F → ℕ → ℕ
  taken_of closing reader = slice_index closing.hub.taken reader

  abbrev pub posted_of : Closing F → ℕ → Verdict
  posted_of closing reader = verdict_at closing.hub reader

  -- the followers, each at its number
  abbrev pub followers_of : Closing F → List F
  followers_of closing = closing.followers.items

  -- the end that was appended
  abbrev pub ending_of : Closing F → Option Ending
  ending_of closing = closing.end

  -- how many bytes were issued, how many of them went out by puts that did not fail, and the steps of those that wait
  abbrev pub issued_of : Closing F → ℕ
  issued_of closing = closing.gate.issued

  abbrev pub released_of : Closing F → ℕ
  released_of closing = closing.gate.released

  abbrev pub waiting_of : Closing F → List ℕ
  waiting_of closing = closing.gate.steps

-- the records of some items
abbrev pub records_of : List Item → List Record
records_of items = map (λ (i : Item). i.item) items

module _ {F : Type 0} (f : Following F) where
  -- A follower at the close of a log of these records: it has taken them all, and what it says of them, which is what its
  -- limit says, is posted.
  pub record HasFollowed (c : Course) (reader : ℕ) (items : List Item) (follower : F) (verdict : Verdict) : Type 0 where
    pub taken : f.has_taken follower (records_of items)
    pub posted : verdict ≡ f.verdict follower (records_of items)
    pub agrees : Agrees c reader (length items) verdict

  -- The closing of a log of these items: it is closed, the last of their records are stored, each follower has followed it
  -- to the close, the end that it tells is kept, and the bytes were issued.
  pub record Closes (c : Course) (items : List Item) (closing : Closing F) : Type 0 where
    pub closed : is_closed closing ≡ true
    pub appended : appended_of closing ≡ length items
    pub stored : stored_of closing ≡ keep_last c.cap (records_of items)
    pub readers : readers_of closing ≡ length c.limits
    pub taken : (reader : ℕ) → reader < length c.limits → taken_of closing reader ≡ length items
    pub followers : length (followers_of closing) ≡ length c.limits
    pub each : (reader : ℕ) (follower : F) → slice_get (followers_of closing) reader ≡ Some follower → HasFollowed c reader items follower (posted_of closing reader)
    pub ending : ending_of closing ≡ end_in (records_of items)
    pub issued : issued_of closing ≡ length (bytes_of items)

  -- The closing of a run that went to its end: its log has all items, and the gate has released all bytes that are let out,
  -- and holds none any more.
  pub record IsWholeRun (c : Course) (closing : Closing F) : Type 0 where
    pub closes : Closes c c.items closing
    pub released : released_of closing ≡ length (released_bytes c)
    pub none : waiting_of closing ≡ []

  -- The closing of a run that a failed put has ended: its log has the first so many items, and the gate counts no more
  -- bytes as released than went out, which are no more than are let out of these items.
  pub record IsCutRun (c : Course) (count put : ℕ) (closing : Closing F) : Type 0 where
    pub within : count ≤ length c.items
    pub closes : Closes c (take count c.items) closing
    pub released : released_of closing ≤ put
    pub there : put ≤ length (released_by c count)
