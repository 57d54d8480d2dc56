use Rattle.std.proofs.Common.{take}
use Rattle.gate_core.specs.Core.{CoreState}
use Rattle.turn_run.specs.Course.{Course}
use Rattle.turn_run.specs.Following.{AreSame}
use Rattle.turn_run.specs.Runs.{HasCome, IsAt}
use Rattle.turn_run.specs.Periods.{HaveMoved}
use Rattle.turn_run.specs.Turns.{AreTurns}
use Rattle.turn_run.proofs.turns.take_period.Given as goal

abbrev pub invariant-loop-letter : goal.invariant-loop-letter
invariant-loop-letter g l = record {
  come : (c : Course) (core : CoreState) → IsAt g.M.Recorder.recording g.F.Follower.following c core l.fn.parts
      → HasCome g.M.Recorder.recording g.F.Follower.following c core.released l.parts g.O.Sink.told l.fn.out l.out;
  moved : HaveMoved g.M.Recorder.recording g.F.Follower.following (take l.letter-index l.turns) l.fn.parts l.parts;
  turns : AreTurns g.M.Recorder.recording g.F.Follower.following g.O.Sink.told (take l.letter-index l.turns) l.fn.parts l.parts l.fn.out l.out;
  made : AreSame g.F.Follower.following l.fn.parts.followers.items l.parts.followers.items;
}
