-- The board beside the hart, as runs see it.
use Rattle.std.specs.Prelude.{ℕ, List, true, false}
use Rattle.any_machine.specs.Machine.{Board}
use Rattle.run_events.specs.declared.access.Access.{Access}
use Rattle.run_events.specs.declared.access.Access.TheVariants.{Quiet, Load, Store, Swap}
use Rattle.run_events.specs.declared.event.Event.{Event}
use Rattle.run_events.specs.declared.event.Event.TheVariants.{Exec}
use Rattle.hart_model.specs.State.{State}
use Rattle.machine_model.specs.Script.{Script}
use Rattle.machine_model.specs.Board.{BoardState, words_before, at_step, board_lines, given_at, after_load, after_store}

-- what a step's store to a device register changes
abbrev pub after_access : Script → ℕ → List ℕ → BoardState → Access → BoardState
after_access script step ram b Quiet = b
after_access script step ram b (Load address width value device mark) = b
after_access script step ram b (Store address width value true) =
    after_store script step ram b address value
after_access script step ram b (Store address width value false) = b
after_access script step ram b (Swap address old new) = b

abbrev pub after_event : Script → ℕ → List ℕ → BoardState → Event → BoardState
after_event script step ram b (Exec n pc word next result access told) =
    after_access script step ram b access
after_event script step ram b _ = b

-- the devices of a script, for a hart
unfoldable pub board : Script → Board State BoardState
board script = record {
  due = λ step b. (words_before step b, at_step step b);
  lines = board_lines script;
  load = λ step b address. (given_at script step b address, after_load script step b address);
  stored = λ step b event s. after_event script step s.ram b event;
}
