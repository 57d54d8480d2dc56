-- A guest on the board, from reset to its end: the hart and the devices together.
use Rattle.std.specs.Prelude.{ℕ, List}
use Rattle.any_machine.specs.Run.{Finished, run_from}
use Rattle.hart_model.specs.Machine.{hart}
use Rattle.hart_model.specs.State.{State, reset_state}
use Rattle.machine_model.specs.Board.{reset_board, padded}
use Rattle.machine_model.specs.Image.{Image, ram_at_start}
use Rattle.machine_model.specs.Script.{Script}
use Rattle.board_model.specs.TheBoard.{board}

-- the hart at step 0, over RAM as the guest finds it
abbrev pub started : Image → (ram_kib : ℕ) → State
started image ram_kib = reset_state (ram_at_start image ram_kib) image.entry

-- the run of a guest with this script, this disk file and these limits
unfoldable pub run : Image → Script → List ℕ → (ram_kib limit : ℕ) → Finished
run image script disk ram_kib limit =
    run_from hart (board script) limit 0 (started image ram_kib) (reset_board (padded disk))
