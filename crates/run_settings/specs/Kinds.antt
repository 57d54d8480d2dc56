-- Lists of kinds of analyses.
use Rattle.std.specs.Prelude.{ℕ, ◌==◌, Bool, true, not, ◌&&◌, List, [], ◌∷◌}
use Rattle.std.specs.List.{Contains, list_any}
use Rattle.run_events.specs.declared.finding.Kind.{Kind}
use Rattle.run_events.specs.declared.finding.Kind.TheVariants.{Heap, Taint, Calls, Cover, Locks}

-- each kind stands at most once
abbrev pub EachOnce : List Kind → Type 0
EachOnce [] = Unit {0}
EachOnce (kind ∷ kinds) = (¬ Contains kinds kind) × EachOnce kinds

abbrev pub kind_number : Kind → ℕ
kind_number Heap = 0
kind_number Taint = 1
kind_number Calls = 2
kind_number Cover = 3
kind_number Locks = 4

-- the test that a kind is in a list
abbrev pub has_kind : List Kind → Kind → Bool
has_kind kinds kind = list_any (λ other. kind_number other == kind_number kind) kinds

-- the test that each stands at most once
unfoldable pub are_once : List Kind → Bool
are_once [] = true
are_once (kind ∷ kinds) = not (has_kind kinds kind) && are_once kinds
