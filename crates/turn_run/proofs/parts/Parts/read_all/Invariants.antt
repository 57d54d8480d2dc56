use Rattle.gate_core.specs.Core.{CoreState}
use Rattle.turn_run.specs.Course.{Course}
use Rattle.turn_run.specs.Following.{AreSame}
use Rattle.turn_run.specs.Periods.{HasReadSome}
use Rattle.turn_run.specs.Runs.{IsBesides, IsFollowed}
use Rattle.turn_run.proofs.parts.Parts.read_all.Given as goal

abbrev pub invariant-loop-reader : goal.invariant-loop-reader
invariant-loop-reader g l = record {
  read : (c : Course) (core : CoreState) → IsFollowed g.F.Follower.following c core l.fn.self → HasReadSome g.F.Follower.following c core l.reader l.self;
  besides : IsBesides l.fn.self l.self;
  made : AreSame g.F.Follower.following l.fn.self.followers.items l.self.followers.items;
}
