-- Turns one after another, each of the one whose letter it is.
use Rattle.std.specs.Prelude.{◌≡◌, ◌⊎◌, ℕ, zero, suc, List, [], ◌∷◌, ◌++◌, take, slice_get, Some}
use Rattle.after_edge.specs.Sink.{Telling}
use Rattle.gate_core.specs.Core.{CoreState}
use Rattle.any_machine.specs.Recording.{Recording}
use Rattle.run_settings.specs.declared.letter.Letter.{Letter}
use Rattle.run_settings.specs.declared.letter.Letter.TheVariants as letter
use Rattle.turn_run.specs.declared.parts.Parts.{Parts}
use Rattle.turn_run.specs.declared.parts.Recorded.{Recorded}
use Rattle.turn_run.specs.declared.reading.Turn.{Turn}
use Rattle.turn_run.specs.Following.{Following}
use Rattle.turn_run.specs.Course.{Course}
use Rattle.turn_run.specs.Closings.{IsReadOut}
use Rattle.turn_run.specs.Runs.{HasBroken, HasReleased, IsAt, IsBesides, LessensRead, Reads, Records}

-- a pattern that is gone through so many times
abbrev pub repeated : ℕ → List Letter → List Letter
repeated zero turns = []
repeated (suc periods) turns = repeated periods turns ++ turns

module _ {M F S : Type 0} (r : Recording M) (f : Following F) (sink : Telling S) where
  -- One turn of the one whose letter it is. The recorder appends or closes if it may, a follower takes one record if there is
  -- one, and the gate alone puts anything.
  abbrev pub IsTurnAt : Course → CoreState → Letter → Parts M F → Parts M F → S → S → Type 0
  IsTurnAt c core letter.Record before after old new = (result : Recorded) × Records r f c core result before after × (new ≡ old)
  IsTurnAt c core (letter.Read reader) before after old new = (result : Turn) × Reads f c core reader result before after × LessensRead result before after × IsBesides before after × (new ≡ old)
  IsTurnAt c core letter.Release before after old new = HasReleased r f c core before after sink old new

  abbrev pub IsTurn : Letter → Parts M F → Parts M F → S → S → Type 0
  IsTurn letter before after old new = (c : Course) (core : CoreState) → IsAt r f c core before → IsTurnAt c core letter before after old new

  -- turns of these letters, in their order
  abbrev pub AreTurns : List Letter → Parts M F → Parts M F → S → S → Type 0
  AreTurns [] before after old new = (after ≡ before) × (new ≡ old)
  AreTurns (letter ∷ letters) before after old new = (mid : Parts M F) × (now : S) × IsTurn letter before mid old now × AreTurns letters mid after now new

  -- turns by a pattern, so many times, and then a last turn of the gate
  pub record TakesTurns (turns : List Letter) (before after : Parts M F) (old new : S) : Type 0 where
    pub periods : ℕ
    pub are : AreTurns (repeated periods turns ++ letter.Release ∷ []) before after old new

  -- in one turn, which is the gate's, a put failed
  abbrev pub Fails : Letter → Parts M F → Parts M F → S → S → Type 0
  Fails turn before after old new = (turn ≡ letter.Release) × ((c : Course) (core : CoreState) → IsAt r f c core before → HasBroken r f c core before after sink old new)

  -- a put failed in the turn after the turns of these letters
  pub record FailsAfter (letters : List Letter) (before after : Parts M F) (old new : S) : Type 0 where
    pub mid : Parts M F
    pub now : S
    pub are : AreTurns letters before mid old now
    pub fails : Fails letter.Release mid after now new

  -- it failed in a turn of a period, which is the gate's
  pub record FailsIn (turns : List Letter) (before after : Parts M F) (old new : S) : Type 0 where
    pub place : ℕ
    pub turn : slice_get turns place ≡ Some letter.Release
    pub fails : FailsAfter (take place turns) before after old new

  -- Turns by a pattern, so many times and then its first ones, up to a turn of the gate in which a put failed: one of the
  -- pattern, or the last turn of a run that is read out.
  pub record FailsBy (turns : List Letter) (before after : Parts M F) (old new : S) : Type 0 where
    pub periods : ℕ
    pub place : ℕ
    pub fails : FailsAfter (repeated periods turns ++ take place turns) before after old new
    pub turn : (slice_get turns place ≡ Some letter.Release) ⊎ ((place ≡ 0) × IsReadOut fails.mid)

  -- and the log was closed where it stood then
  pub record StopsBy (turns : List Letter) (before after : Parts M F) (old new : S) : Type 0 where
    pub failed : Parts M F
    pub fails : FailsBy turns before failed old new
    pub appended : after.hub.appended ≡ failed.hub.appended
