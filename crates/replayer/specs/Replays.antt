-- What a replay of a guest stands for: the list of the records that it was fed, of which the last is given first.
use Rattle.std.specs.Prelude.{ℕ, List, Option, length}
use Rattle.run_events.specs.declared.fault.Diverged.{Diverged}
use Rattle.run_events.specs.declared.record.Record.{Record}
use Rattle.hart_model.specs.Machine.{hart}
use Rattle.hart_model.specs.State.{State}
use Rattle.any_replay.specs.Replays as any
use Rattle.replayer.specs.declared.replay.Replay.{Replay}
use Rattle.replayer.specs.Guest.{steps_of, ram_bytes}

-- a replay from this start was fed these records
abbrev pub Replays : State → List Record → Replay → Type 0
Replays start items replay = any.Replays hart steps_of ram_bytes start items replay.fed

-- where its hart stands, and the number of bytes of its RAM
abbrev pub state_of : Replay → State
state_of replay = any.hart_in replay.fed

abbrev pub ram_size_of : Replay → ℕ
ram_size_of replay = length (state_of replay).ram

-- the first fault of the list, and how many records were accepted
abbrev pub fault_of : Replay → Option Diverged
fault_of replay = any.fault_in replay.fed

abbrev pub takes_of : Replay → ℕ
takes_of replay = any.takes_in replay.fed
