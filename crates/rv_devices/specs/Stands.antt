-- What a board stands for.
use Rattle.std.specs.Prelude.{◌≡◌, ℕ, ◌-◌, ◌^◌, ◌≤◌, Bool, min, nat_le, List, drop}
use Rattle.std.specs.Option.{option_map_or}
use Rattle.run_events.specs.declared.supply.DmaWord.{DmaWord}
use Rattle.machine_model.specs.Script.{Script, Entry}
use Rattle.machine_model.specs.Board as model
use Rattle.machine_model.specs.Board.{BoardState, IsPlayable}
use Rattle.rv_devices.specs.declared.board.Board.{Board}
use Rattle.rv_devices.specs.Entries.{AreLater, entry_due, ticks_before}
use Rattle.rv_devices.specs.Follows.{Follows}
use Rattle.rv_devices.specs.Sends.{unsent}
use Rattle.rv_devices.specs.Serves.{Serves, NotBefore, completes_before}
use Rattle.rv_devices.specs.Times.{Times, steady_until}

-- how many steps have begun, and how many words `due` has still to hand out
abbrev pub steps_begun : Board → ℕ
steps_begun board = board.begun

abbrev pub words_due : Board → ℕ
words_due board = unsent board.disk.sending

-- before so many of the steps to come nothing falls due, and the timer's line stays
abbrev pub quiet_ahead : Board → ℕ
quiet_ahead board = min (min board.quiet (steady_until board.timer)) (2 ^ 32) - board.begun

-- what a board keeps of its last look at script and disk: nothing of theirs falls due before that step. Each call says
-- what it is afterwards, so that none has the board look again too early, which would cost time alone.
abbrev pub last_look : Board → ℕ
last_look board = board.quiet

-- what such a look finds: the step before which the next entry is due or a command completes
abbrev pub look_now : Board → ℕ
look_now board =
    min (entry_due board.schedule.entries.items board.schedule.place)
    (completes_before board.disk.activity)

-- the last look that a store to a register leaves: a command of the disk lowers it to where one completes now; all
-- others leave it, since they bring nothing that falls due
abbrev pub look_left_by : model.Register → (old new : Board) → ℕ
look_left_by model.DiskCommand old new = min (last_look old) (completes_before new.disk.activity)
look_left_by register old new = last_look old

abbrev pub look_left_at : (address : ℕ) → (old new : Board) → ℕ
look_left_at address old new =
    option_map_or (λ register. look_left_by register old new) (model.register_at address)
    (last_look old)

-- whether a board looks anew before it begins this step
abbrev pub looks_before : ℕ → Board → Bool
looks_before step board = nat_le (min board.quiet board.timer.rise) step

-- neither the script nor the disk brings anything before the step that it keeps
pub record IsQuiet (entries : List Entry) (board : Board) : Type 0 where
  pub entries_later : AreLater board.quiet (drop board.schedule.place entries)
  pub disk : NotBefore board.quiet board.disk.activity

-- A board of this script in this state, where so many steps have begun, with these words still to be handed out.
pub record Stands (script : Script) (begun : ℕ) (words : List DmaWord) (state : BoardState)
    (board : Board) : Type 0 where
  pub playable : IsPlayable script
  pub begun_is : board.begun ≡ begun
  pub numbered : begun ≤ 2 ^ 32
  pub follows : Follows script.entries begun state.taken board.schedule
  pub times : Times script.clock begun
      (ticks_before board.schedule.place script.entries) state.offset board.timer
  pub compare_is : board.timer.compare ≡ state.compare
  pub serial_is : board.serial_control ≡ state.serial_control
  pub serves : Serves script words state board.disk
  pub is_quiet : IsQuiet script.entries board
