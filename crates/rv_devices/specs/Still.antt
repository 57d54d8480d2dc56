-- Steps before which nothing falls due.
use Rattle.std.specs.Prelude.{◌≡◌, ℕ, ◌+◌, ◌<◌, []}
use Rattle.machine_model.specs.Script.{Script}
use Rattle.machine_model.specs.Board.{BoardState, at_step, board_lines, words_before}

-- the disk writes nothing before a step and stays as it is, and these are the lines
pub record IsStill (script : Script) (lines step : ℕ) (state : BoardState) : Type 0 where
  pub none : words_before step state ≡ []
  pub same : at_step step state ≡ state
  pub lines_stay : board_lines script step state ≡ lines

-- so it is before so many steps from one on
abbrev pub AreStill : Script → (lines from count : ℕ) → BoardState → Type 0
AreStill script lines from count state = (k : ℕ) → k < count → IsStill script lines (from + k) state
