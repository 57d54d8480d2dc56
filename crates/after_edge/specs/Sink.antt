-- What a put does to a sink: to the bytes that it holds, and to its count of faults.
use Rattle.std.specs.Prelude.{ℕ, ◌≤◌, List, ◌++◌}
use Rattle.list_laws.specs.Prefix.{IsPrefix}
use Rattle.after_edge.specs.Fault.{Rose}

-- What a sink tells: which bytes it holds, and how many of its puts have failed. One that tells nothing of its content
-- holds every list.
pub record Telling (S : Type 0) : Type 1 where
  pub holds : S → List ℕ → Type 0
  pub faults : S → ℕ

-- whatever list the sink held, it then holds that list followed by the piece
abbrev pub Adds : {S : Type 0} → (S → List ℕ → Type 0) → S → S → List ℕ → Type 0
Adds holds old new piece = (held : List ℕ) → holds old held → holds new (held ++ piece)

-- the piece was added, and the count has not fallen
pub record Writes {S : Type 0} (sink : Telling S) (old new : S) (piece : List ℕ) : Type 0 where
  pub added : Adds sink.holds old new piece
  pub kept : sink.faults old ≤ sink.faults new

-- some prefix of the piece was added, and the count rose
pub record WritesPart {S : Type 0} (sink : Telling S) (old new : S) (piece : List ℕ) : Type 0 where
  pub part : List ℕ
  pub is_prefix : IsPrefix part piece
  pub added : Adds sink.holds old new part
  pub rose : Rose (sink.faults old) (sink.faults new)

-- a sink that tells nothing of its content holds every list
abbrev pub HoldsAny : {S : Type 0} → S → List ℕ → Type 0
HoldsAny sink list = Unit {0}
