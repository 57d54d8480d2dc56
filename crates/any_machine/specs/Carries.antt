-- What is held stands for what became of a list.
use Rattle.std.specs.Prelude.{◌≡◌}
use Rattle.any_machine.specs.Machine.{Machine}
use Rattle.any_machine.specs.Tape.{tape_of}
use Rattle.any_machine.specs.Replay.{Outcome}
use Rattle.any_machine.specs.Held.{Held, IsAt}

-- its steps are done, and the words, the lines and the value for the step to come are those of the records that were taken
pub record Carries {S : Type 0} (m : Machine S) (start : S) (o : Outcome) (h : Held S) : Type 0 where
  pub at : IsAt m start (tape_of o.taken) h
  pub done : h.step ≡ o.done
