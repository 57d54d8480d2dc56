-- What the analysis of locks keeps, and what it stands for.
use Rattle.std.specs.Prelude.{◌≡◌, ℕ, ◌+◌, ◌<◌, ◌==◌, nat_lt, List, [], ◌∷◌, ◌++◌, length, map, reverse, take, Option, None, Some, unwrap_or, if◌then◌else◌}
use Rattle.std.specs.List.{position_from, AllByRecursion}
use Rattle.std.specs.Option.{option_map, option_or}
use Rattle.list_laws.specs.Least.{least_from}
use Rattle.run_events.specs.declared.access.Access.{Access}
use Rattle.run_events.specs.declared.announcement.Announcement.{Announcement}
use Rattle.run_events.specs.declared.announcement.Announcement.TheVariants as announce
use Rattle.run_events.specs.declared.event.Event.{Event}
use Rattle.run_events.specs.declared.event.Event.TheVariants.{Dma, Irq, Trap, Exec}
use Rattle.run_events.specs.declared.finding.Finding.{Finding}
use Rattle.run_events.specs.declared.finding.Kind.TheVariants as kind
use Rattle.run_events.specs.Access.{touched_from, touched_len}
use Rattle.run_events.specs.Announcement.{announced_by}
use Rattle.analysis_model.specs.Complaints.{Guest, findings}
use Rattle.analysis_model.specs.Context.{entered, context_after}
use Rattle.analysis_model.specs.Locks.{named_by, counted, has_lock, guard_at, holder_after, bad_access, lock_by, locks_kept}
use Rattle.analysis_model.specs.Look.{Complaint, told_at, finding_at}
use Rattle.analysis_model.specs.Made.{guest_made_of}
use Rattle.finding_tally.specs.Tallied.{Tallied, Tallies, tallied_with}
use Rattle.lock_rules.specs.declared.lock.Lock.{Lock}
use Rattle.lock_rules.specs.declared.guard.Guard.{Guard}
use Rattle.lock_rules.specs.Entries.{numbers, holder_of, with_holder, is_open, range_of}

-- what it keeps: the RAM size in KiB, the context, the locks that count, the ranges that they guard, and the findings
pub record LockState : Type 0 where
  pub ram_kib : ℕ
  pub context : ℕ
  pub locks : List Lock
  pub guards : List Guard
  pub found : Tallied

-- what it was made of: the number of its kind
abbrev pub make_now : LockState → List ℕ
make_now s = 4 ∷ []

-- the guest that it is made for
abbrev pub guest_now : LockState → Guest
guest_now s = guest_made_of s.ram_kib (make_now s)

-- each lock has the holder that the events, the newest first, left it
abbrev pub AreHeld : List Lock → List Event → Type 0
AreHeld entries before = AllByRecursion (λ lock. lock.holder ≡ holder_after before lock.number) entries

-- it stands for these events
pub record Stands (s : LockState) (events : List Event) : Type 0 where
  pub context_is : s.context ≡ context_after (reverse events)
  pub known : numbers s.locks ≡ counted locks_kept (reverse events)
  pub held : AreHeld s.locks (reverse events)
  pub placed : AllByRecursion (λ guard. guard.place < length s.locks) s.guards
  pub guarded : map (range_of (numbers s.locks)) s.guards ≡ take locks_kept (told_at (guard_at locks_kept) events)
  pub tallied : Tallies s.found (findings kind.Locks (guest_now s) events)

-- the locks that count once this one is named: one more, where there is room
abbrev pub known_with : List Lock → Option ℕ → List Lock
known_with entries None = entries
known_with entries (Some number) =
    if has_lock (numbers entries) number then entries else if nat_lt (length entries) locks_kept then entries ++ record { number = number; holder = None } ∷ [] else entries

abbrev pub known_after : List Lock → Option Announcement → List Lock
known_after entries told = known_with entries (named_by told)

-- what an announcement in a context makes of the holders
abbrev pub held_after : ℕ → Option Announcement → List Lock → List Lock
held_after context (Some (announce.Acquire lock)) entries = map (with_holder lock (Some context)) entries
held_after context (Some (announce.Release lock)) entries = map (with_holder lock None) entries
held_after context _ entries = entries

-- one range more, of the lock at this place, where there is room
abbrev pub guards_with : List Guard → ℕ → ℕ → Option ℕ → List Guard
guards_with guards start size None = guards
guards_with guards start size (Some place) = if nat_lt (length guards) locks_kept then guards ++ record { from = start; to = start + size; place = place } ∷ [] else guards

abbrev pub guards_after : List Lock → List Guard → Option Announcement → List Guard
guards_after entries guards (Some (announce.Guard start size lock)) = guards_with guards start size (position_from (λ entry. entry.number == lock) 0 entries)
guards_after entries guards _ = guards

-- after an announcement
abbrev pub told_state : LockState → Option Announcement → LockState
told_state s told = record s {
  context = unwrap_or (entered told) s.context;
  locks = held_after s.context told (known_after s.locks told);
  guards = guards_after (known_after s.locks told) s.guards told;
}

-- what there is to complain of an announcement, and of an access
abbrev pub heard : LockState → Option Announcement → Option Complaint
heard s told = lock_by (has_lock (numbers (known_after s.locks told))) s.context (holder_of (known_after s.locks told)) told

abbrev pub opened : LockState → Access → Option Complaint
opened s access = option_map bad_access (least_from (is_open s.locks s.context s.guards) (touched_from access) (touched_len access))

-- with the finding of an event, or none
abbrev pub noted : LockState → Option Finding → LockState
noted s finding = record s { found = tallied_with s.found finding }

-- after one event more
abbrev pub after : LockState → Event → LockState
after s (Dma step address word mark) = s
after s (Irq step pc cause next) = s
after s (Trap step pc word cause value next) = s
after s (Exec step pc word next result access told) =
    noted (told_state s (announced_by word told))
    (option_or (option_map (finding_at step pc) (heard s (announced_by word told))) (option_map (finding_at step pc) (opened s access)))
