-- Turns one after another.
use Rattle.std.proofs.Common.{inl, inr, suc, Some, ap, ◌∙◌, List, [], ◌∷◌, ◌++◌, ℕ, ◌+◌, ◌<◌, length, take, refl, sym, subst}
use Rattle.std.specs.Prelude.{get_or}
use Rattle.std.proofs.lemmas.List.{take_more}
use Rattle.std.proofs.lemmas.Option.{slice_get-get_or}
use Rattle.gate_core.specs.Core.{CoreState}
use Rattle.after_edge.specs.Sink.{Telling}
use Rattle.any_machine.specs.Recording.{Recording}
use Rattle.run_settings.specs.declared.letter.Letter.{Letter}
use Rattle.turn_run.specs.declared.parts.Parts.{Parts}
use Rattle.turn_run.specs.Following.{Following}
use Rattle.turn_run.specs.Course.{Course}
use Rattle.turn_run.specs.Closings.{IsReadOut}
use Rattle.turn_run.specs.Runs.{HasBroken, IsAt}
use Rattle.turn_run.specs.Turns.{AreTurns, Fails, FailsBy, FailsIn, IsTurn, repeated}

module _ {M F S : Type 0} (r : Recording M) (f : Following F) (sink : Telling S) where
  -- first these turns, then those
  pub turns-join : (first second : List Letter) (before mid after : Parts M F) (old now new : S) → AreTurns r f sink first before mid old now → AreTurns r f sink second mid after now new
      → AreTurns r f sink (first ++ second) before after old new
  turns-join [] second before mid after old now new (same, still) then = subst (λ parts. AreTurns r f sink second parts after old new) same (subst (λ out. AreTurns r f sink second mid after out new) still then)
  turns-join (letter ∷ first) second before mid after old now new (parts, out, turn, rest) then = (parts, out, turn, turns-join first second parts mid after out now new rest then)

  -- and one more
  pub turns-push : (letters : List Letter) (letter : Letter) (before mid after : Parts M F) (old now new : S) → AreTurns r f sink letters before mid old now → IsTurn r f sink letter mid after now new
      → AreTurns r f sink (letters ++ letter ∷ []) before after old new
  turns-push letters letter before mid after old now new first turn = turns-join letters (letter ∷ []) before mid after old now new first (after, new, turn, (refl, refl))

  -- one letter more of a pattern
  pub turns_on : (turns : List Letter) (place : ℕ) (d : Letter) → place < length turns → (before mid after : Parts M F) (old now new : S) → AreTurns r f sink (take place turns) before mid old now
      → IsTurn r f sink (get_or turns place d) mid after now new → AreTurns r f sink (take (place + 1) turns) before after old new
  turns_on turns place d there before mid after old now new first turn =
      subst (λ letters. AreTurns r f sink letters before after old new) (sym (take_more turns place d there)) (turns-push (take place turns) (get_or turns place d) before mid after old now new first turn)

  pub fails_on : (turns : List Letter) (place : ℕ) (d : Letter) → place < length turns → (before mid after : Parts M F) (old now new : S) → AreTurns r f sink (take place turns) before mid old now
      → Fails r f sink (get_or turns place d) mid after now new → FailsIn r f sink turns before after old new
  fails_on turns place d there before mid after old now new first fails = record {
    place = place;
    turn = slice_get-get_or turns place d there ∙ ap Some fails.0;
    fails = record { mid = mid; now = now; are = first; fails = (refl, fails.1) };
  }

  module _ (turns : List Letter) (before mid after : Parts M F) (old now new : S) (so_far : (periods : ℕ) × AreTurns r f sink (repeated periods turns) before mid old now) where
    -- one period more
    pub period_on : AreTurns r f sink turns mid after now new → (periods : ℕ) × AreTurns r f sink (repeated periods turns) before after old new
    period_on more = (suc so_far.0, turns-join (repeated so_far.0 turns) turns before mid after old now new so_far.1 more)

    -- a period that a failed put has ended
    pub fails_by : FailsIn r f sink turns mid after now new → FailsBy r f sink turns before after old new
    fails_by more = record {
      periods = so_far.0;
      place = more.place;
      fails = record {
        mid = more.fails.mid;
        now = more.fails.now;
        are = turns-join (repeated so_far.0 turns) (take more.place turns) before mid more.fails.mid old now more.fails.now so_far.1 more.fails.are;
        fails = more.fails.fails;
      };
      turn = inl more.turn;
    }

    -- a last turn that it has ended
    pub fails_last : IsReadOut mid → ((c : Course) (core : CoreState) → IsAt r f c core mid → HasBroken r f c core mid after sink now new) → FailsBy r f sink turns before after old new
    fails_last over broken = record {
      periods = so_far.0;
      place = 0;
      fails = record { mid = mid; now = now; are = turns-join (repeated so_far.0 turns) [] before mid mid old now now so_far.1 (refl, refl); fails = (refl, broken) };
      turn = inr (refl, over);
    }
