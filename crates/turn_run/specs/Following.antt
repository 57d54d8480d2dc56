-- What stands beside a reader of the log.
use Rattle.std.specs.Prelude.{◌≡◌, false, List, map}
use Rattle.run_events.specs.declared.record.Record.{Record}
use Rattle.gate_core.specs.declared.verdict.Verdict.{Verdict}

-- which records a follower has taken, what it says once it has taken some, and what it was made of
pub record Following (F : Type 0) : Type 1 where
  pub has_taken : F → List Record → Type 0
  pub verdict : F → List Record → Verdict
  pub Make : Type 0
  pub make : F → Make

-- two followers say the same, whatever they take
abbrev pub SaysSame : {F : Type 0} → Following F → F → F → Type 0
SaysSame f old new = (items : List Record) → f.verdict new items ≡ f.verdict old items

-- before its first record it approves nothing and refuses nothing
abbrev pub SaysNothing : Verdict → Type 0
SaysNothing v = v ≡ record { approved = 0; refused = false }

-- the followers are those that they were, each at its number: they were made of the same
abbrev pub AreSame : {F : Type 0} → Following F → List F → List F → Type 0
AreSame f old new = map f.make new ≡ map f.make old
