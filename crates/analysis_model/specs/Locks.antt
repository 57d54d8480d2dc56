-- Locks: who holds which, and the ranges that they guard.
use Rattle.std.specs.Prelude.{ℕ, ◌+◌, ◌==◌, Bool, false, not, ◌&&◌, List, [], ◌∷◌, reverse, take, filter, Option, None, Some, unwrap_or, if◌then◌else◌}
use Rattle.std.specs.List.{filter_map, list_any}
use Rattle.std.specs.Option.{option_map, option_or}
use Rattle.list_laws.specs.Least.{is_between, least_from}
use Rattle.run_events.specs.declared.access.Access.{Access}
use Rattle.run_events.specs.declared.announcement.Announcement.{Announcement}
use Rattle.run_events.specs.declared.announcement.Announcement.TheVariants as announce
use Rattle.run_events.specs.declared.event.Event.{Event}
use Rattle.run_events.specs.declared.event.Event.TheVariants.{Exec}
use Rattle.run_events.specs.declared.finding.FindingKind.TheVariants as finding
use Rattle.run_events.specs.Access.{touched_from, touched_len}
use Rattle.run_events.specs.Announcement.{announced_by, announced}
use Rattle.analysis_model.specs.Context.{context_after}
use Rattle.analysis_model.specs.Look.{Complaint, told_at}

-- the lock that an announcement names
abbrev pub named_by : Option Announcement → Option ℕ
named_by (Some (announce.Acquire lock)) = Some lock
named_by (Some (announce.Release lock)) = Some lock
named_by (Some (announce.Guard start size lock)) = Some lock
named_by _ = None

abbrev pub named : Event → Option ℕ
named event = named_by (announced event)

-- each number of a list once, in the order in which they first stand there
abbrev pub firsts : List ℕ → List ℕ
firsts [] = []
firsts (x ∷ xs) = x ∷ filter (λ y. not (y == x)) (firsts xs)

-- the locks that count after these events, the newest first: those that were named first
abbrev pub counted : ℕ → List Event → List ℕ
counted bound before = take bound (firsts (filter_map named (reverse before)))

-- the test that a lock is among these
abbrev pub has_lock : List ℕ → ℕ → Bool
has_lock locks lock = list_any (λ other. other == lock) locks

-- a range of addresses, its end exclusive, and the lock that guards it
pub record Guarded : Type 0 where
  pub from : ℕ
  pub to : ℕ
  pub lock : ℕ

-- the range that an announcement guards, where its lock is one that counts
abbrev pub guard_by : (ℕ → Bool) → Option Announcement → Option Guarded
guard_by counts (Some (announce.Guard start size lock)) =
    if counts lock then Some (record { from = start; to = start + size; lock = lock }) else None
guard_by counts _ = None

-- the range that an event guards by a lock that counts once it has named it
abbrev pub guard_at : ℕ → List Event → Event → Option Guarded
guard_at bound before event = guard_by (has_lock (counted bound (event ∷ before))) (announced event)

-- the guarded ranges after these events, the newest first: the first ones
abbrev pub guards : ℕ → List Event → List Guarded
guards bound before = take bound (told_at (guard_at bound) (reverse before))

-- what an announcement in a context makes of a lock: the context holds it, or none does
abbrev pub holder_by : Option Announcement → ℕ → ℕ → Option (Option ℕ)
holder_by (Some (announce.Acquire acquired)) lock context =
    if acquired == lock then Some (Some context) else None
holder_by (Some (announce.Release released)) lock context =
    if released == lock then Some None else None
holder_by _ lock context = None

-- the context that holds a lock after these events, the newest first
abbrev pub holder_after : List Event → ℕ → Option ℕ
holder_after [] lock = None
holder_after (last ∷ before) lock =
    unwrap_or (holder_by (announced last) lock (context_after before)) (holder_after before lock)

-- the holder is this context
abbrev pub is_held_by : Option ℕ → ℕ → Bool
is_held_by None context = false
is_held_by (Some holder) context = holder == context

-- the byte stands in a range whose lock this context does not hold
abbrev pub is_unguarded : ℕ → (ℕ → Option ℕ) → List Guarded → ℕ → Bool
is_unguarded context holder ranges address =
    list_any (λ range. is_between range.from range.to address
    && not (is_held_by (holder range.lock) context)) ranges

abbrev pub bad_access : ℕ → Complaint
bad_access address = record { kind = finding.Unguarded; address = address }

-- the least such byte of an access, to a device too
abbrev pub access_by : ℕ → (ℕ → Option ℕ) → List Guarded → Access → Option Complaint
access_by context holder ranges access =
    option_map bad_access
    (least_from (is_unguarded context holder ranges) (touched_from access) (touched_len access))

abbrev pub bad_acquire : ℕ → Complaint
bad_acquire lock = record { kind = finding.Reacquire; address = lock }

abbrev pub bad_release : ℕ → Complaint
bad_release lock = record { kind = finding.BadRelease; address = lock }

abbrev pub acquire_by : Option ℕ → ℕ → Option Complaint
acquire_by None lock = None
acquire_by (Some holder) lock = Some (bad_acquire lock)

-- an acquire of a lock that is held, or a release of one that this context does not hold, where the lock counts
abbrev pub lock_by : (ℕ → Bool) → ℕ → (ℕ → Option ℕ) → Option Announcement → Option Complaint
lock_by counts context holder (Some (announce.Acquire lock)) =
    if counts lock then acquire_by (holder lock) lock else None
lock_by counts context holder (Some (announce.Release lock)) =
    if counts lock && not (is_held_by (holder lock) context) then Some (bad_release lock) else None
lock_by counts context holder _ = None

-- what there is to complain of an event in a context, where these locks count, have these holders and guard these ranges
abbrev pub locks_by : (ℕ → Bool) → ℕ → (ℕ → Option ℕ) → List Guarded → Event → Option Complaint
locks_by counts context holder ranges (Exec step pc word next result access told) =
    option_or (lock_by counts context holder (announced_by word told))
    (access_by context holder ranges access)
locks_by counts context holder ranges _ = None

-- where so many locks and ranges count: an access to a guarded byte without its lock, an acquire of a held lock, and a
-- release of one that is not held
abbrev pub locks : ℕ → List Event → Event → Option Complaint
locks bound before event =
    locks_by (has_lock (counted bound (event ∷ before))) (context_after before)
    (holder_after before) (guards bound before) event

-- how many locks and how many ranges count
unfoldable pub locks_kept : ℕ
locks_kept = 256
