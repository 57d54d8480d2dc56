use Rattle.std.specs.Prelude.{ℕ}
use Rattle.turn_run.specs.Course.{Course}
use Rattle.turn_run.specs.Following.{AreSame}
use Rattle.turn_run.specs.Openings.{IsOpened}
use Rattle.turn_run.specs.Runs.{HasCome, turns_left}
use Rattle.turn_run.specs.Turns.{AreTurns, repeated}
use Rattle.turn_run.proofs.turns.take_all_turns.Given as goal

abbrev pub invariant-loop-parts : goal.invariant-loop-parts
invariant-loop-parts g l = record {
  come : (c : Course) → IsOpened g.M.Recorder.recording g.F.Follower.following c l.fn.parts
      → HasCome g.M.Recorder.recording g.F.Follower.following c 0 l.parts g.O.Sink.told l.fn.out l.out;
  turns : (periods : ℕ) × AreTurns g.M.Recorder.recording g.F.Follower.following g.O.Sink.told (repeated periods l.turns) l.fn.parts l.parts l.fn.out l.out;
  made : AreSame g.F.Follower.following l.fn.parts.followers.items l.parts.followers.items;
}

abbrev pub decreases-loop-parts : goal.decreases-loop-parts
decreases-loop-parts g l = turns_left g.M.Recorder.recording g.F.Follower.following l.parts
