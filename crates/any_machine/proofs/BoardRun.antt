-- A run of machine and board is a run of the machine, where the board gives each step what it may take.
use Rattle.std.proofs.Common.{◌≡◌, ℕ, zero, suc, ◌+◌, ◌≤◌, List, [], length, Option, Some, None, refl, sym, ap, subst, ◌∙◌, arith}
use Rattle.std.specs.Prelude.{is_some}
use Rattle.run_events.specs.declared.record.EndCause.TheVariants.{Power, Limit}
use Rattle.run_events.specs.declared.supply.DmaWord.{DmaWord}
use Rattle.run_events.specs.declared.supply.Need.{Need}
use Rattle.run_events.specs.declared.supply.Need.TheVariants.{Load, Nothing}
use Rattle.run_events.specs.declared.supply.Supplied.{Supplied}
use Rattle.any_machine.specs.Machine.{Machine, Board, Turn, power_status, is_load, touched, need_of, after, turn_of}
use Rattle.any_machine.specs.Run.{Finished, served_by, input_at, board_after, run_after, run_from, IsSound, EndsOrGoes, IsTurn, IsRun, Runs}

-- what a board gives has the words and the lines that it was asked with, and a value exactly where one is needed
module _ {B : Type 0} (load : ℕ → Supplied × B) (words : List DmaWord) (lines : ℕ) (b : B) where
  served_words : (need : Need) → (served_by load words lines b need).input.words ≡ words
  served_words (Load address width) = refl
  served_words Nothing = refl

  served_lines : (need : Need) → (served_by load words lines b need).input.lines ≡ lines
  served_lines (Load address width) = refl
  served_lines Nothing = refl

  served_given : (need : Need) → is_load need ≡ is_some (served_by load words lines b need).input.supplied
  served_given (Load address width) = refl
  served_given Nothing = refl

module _ {S B : Type 0} (m : Machine S) (board : Board S B) where
  pub run_from-limit : (n : ℕ) (s : S) (b : B) → run_from m board 0 n s b ≡ record { turns = []; steps = n; cause = Limit }
  unfolding run_from
  run_from-limit n s b = refl

  -- one step of a run
  abbrev pub turn_made : ℕ → S → B → Turn
  turn_made n s b = turn_of m s (input_at m board n s b)

  pub run_from-step : (left n : ℕ) (s : S) (b : B)
      → run_from m board (suc left) n s b
      ≡ run_after m board (run_from m board left (suc n)) n (turn_made n s b) (after m s (input_at m board n s b)) (board_after m board n s b) (power_status (turn_made n s b).event)
  unfolding run_from
  run_from-step left n s b = refl

  -- the step has what it needs
  pub given_at : (n : ℕ) (s : S) (b : B) → is_load (need_of m s (input_at m board n s b)) ≡ is_some (input_at m board n s b).supplied
  given_at n s b =
      let begun = board.due n b in
      let lines = board.lines n begun.1 in
      let need = m.needs (touched m s begun.0) lines in
      let load = board.load n begun.1 in
      ap (λ words. is_load (m.needs (touched m s words) (input_at m board n s b).lines)) (served_words load begun.0 lines begun.1 need)
      ∙ ap (λ l. is_load (m.needs (touched m s begun.0) l)) (served_lines load begun.0 lines begun.1 need) ∙ served_given load begun.0 lines begun.1 need

  module _ (start : S) (Sound : ℕ → S → B → Type 0) (sound : IsSound m board start Sound) where
    -- a run from step n on, and as many steps as turns
    pub record RunsOn (n : ℕ) (s : S) (run : Finished) : Type 0 where
      pub is_run : IsRun m start s run.turns run.cause
      pub counted : run.steps ≡ n + length run.turns

    made_is_turn : (n : ℕ) (s : S) (b : B) → Sound n s b → IsTurn m start s (turn_made n s b)
    made_is_turn n s b is = record { does = refl; given = given_at n s b; may_take = sound.input_fits n s b is }

    -- after a step the run ends by power or goes on
    runs_after : (go_on : S → B → Finished) (n : ℕ) (s : S) (b : B) (o : Option ℕ) → power_status (turn_made n s b).event ≡ o → Sound n s b
        → RunsOn (suc n) (after m s (input_at m board n s b)) (go_on (after m s (input_at m board n s b)) (board_after m board n s b))
        → RunsOn n s (run_after m board go_on n (turn_made n s b) (after m s (input_at m board n s b)) (board_after m board n s b) o)
    runs_after go_on n s b (Some status) stores is rest = record {
      is_run = (made_is_turn n s b is, subst (λ o. EndsOrGoes o [] (Power status) (IsRun m start (after m s (input_at m board n s b)) [] (Power status))) (sym stores) (refl, refl));
      counted = omega arith;
    }
    runs_after go_on n s b None quiet is rest =
        let run = go_on (after m s (input_at m board n s b)) (board_after m board n s b) in
        record {
          is_run = (made_is_turn n s b is, subst (λ o. EndsOrGoes o run.turns run.cause (IsRun m start (after m s (input_at m board n s b)) run.turns run.cause)) (sym quiet) rest.is_run);
          counted = omega (arith, rest.counted);
        }

    pub run_from-on : (left n : ℕ) (s : S) (b : B) → Sound n s b → RunsOn n s (run_from m board left n s b)
    run_from-on zero n s b is = subst (RunsOn n s) (sym (run_from-limit n s b)) (record { is_run = refl; counted = omega arith })
    run_from-on (suc left) n s b is =
        subst (RunsOn n s) (sym (run_from-step left n s b))
        (runs_after (run_from m board left (suc n)) n s b (power_status (turn_made n s b).event) refl is
        (run_from-on left (suc n) (after m s (input_at m board n s b)) (board_after m board n s b) (sound.kept n s b is)))

    -- from the first step on
    pub run_from-Runs : (limit : ℕ) (b : B) → Sound 0 start b → Runs m start (run_from m board limit 0 start b)
    run_from-Runs limit b is =
        let on = run_from-on limit 0 start b is in
        record { is_run = on.is_run; counted = omega (arith, on.counted) }

  -- a run has at most as many steps as its limit
  steps_after : (go_on : S → B → Finished) (left n : ℕ) (turn : Turn) (s : S) (b : B) (o : Option ℕ) → (go_on s b).steps ≤ suc n + left → (run_after m board go_on n turn s b o).steps ≤ n + suc left
  steps_after go_on left n turn s b (Some status) rest = omega arith
  steps_after go_on left n turn s b None rest = omega (arith, rest)

  pub steps_within : (left n : ℕ) (s : S) (b : B) → (run_from m board left n s b).steps ≤ n + left
  steps_within zero n s b = omega (arith, ap (λ (run : Finished). run.steps) (run_from-limit n s b))
  steps_within (suc left) n s b =
      let next = after m s (input_at m board n s b) in
      let rest = steps_after (run_from m board left (suc n)) left n (turn_made n s b) next (board_after m board n s b) (power_status (turn_made n s b).event) (steps_within left (suc n) next (board_after m board n s b)) in
      omega (arith, rest, ap (λ (run : Finished). run.steps) (run_from-step left n s b))
