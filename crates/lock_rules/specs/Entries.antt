-- The locks that count and the ranges that they guard, as they are kept.
use Rattle.std.specs.Prelude.{ℕ, ◌==◌, Bool, not, ◌&&◌, List, [], ◌∷◌, map, slice_get, slice_index, Option, None, Some, if◌then◌else◌}
use Rattle.std.specs.List.{list_any}
use Rattle.list_laws.specs.Least.{is_between}
use Rattle.analysis_model.specs.Locks.{Guarded, is_held_by}
use Rattle.lock_rules.specs.declared.lock.Lock.{Lock}
use Rattle.lock_rules.specs.declared.guard.Guard.{Guard}

-- the numbers of the locks, in their order
abbrev pub numbers : List Lock → List ℕ
numbers locks = map (λ lock. lock.number) locks

-- the context that holds a lock that may be there
abbrev pub holder_in : Option Lock → Option ℕ
holder_in None = None
holder_in (Some lock) = lock.holder

-- the context that holds the lock at a place
abbrev pub holder_at : List Lock → ℕ → Option ℕ
holder_at locks place = holder_in (slice_get locks place)

-- the context that holds the lock with a number
abbrev pub holder_of : List Lock → ℕ → Option ℕ
holder_of [] number = None
holder_of (lock ∷ locks) number = if lock.number == number then lock.holder else holder_of locks number

-- with this holder, where it is the lock with this number
abbrev pub with_holder : ℕ → Option ℕ → Lock → Lock
with_holder number holder lock = record { number = lock.number; holder = if number == lock.number then holder else lock.holder }

-- the context does not hold the lock of the range, and that has this address
abbrev pub is_open_in : List Lock → ℕ → Guard → ℕ → Bool
is_open_in locks context guard address = not (is_held_by (holder_at locks guard.place) context) && is_between guard.from guard.to address

-- the address stands in a range whose lock this context does not hold
abbrev pub is_open : List Lock → ℕ → List Guard → ℕ → Bool
is_open locks context guards address = list_any (λ guard. is_open_in locks context guard address) guards

-- the range, with the number of its lock
abbrev pub range_of : List ℕ → Guard → Guarded
range_of known guard = record { from = guard.from; to = guard.to; lock = slice_index known guard.place }
