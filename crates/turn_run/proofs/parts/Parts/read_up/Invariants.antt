use Rattle.gate_core.specs.Core.{CoreState}
use Rattle.turn_run.specs.Course.{Course}
use Rattle.turn_run.specs.Following.{AreSame}
use Rattle.turn_run.specs.Periods.{HasRead}
use Rattle.turn_run.specs.Runs.{IsBesides, IsFollowed, unread}
use Rattle.turn_run.proofs.parts.Parts.read_up.Given as goal

abbrev pub invariant-taking : goal.invariant-taking
invariant-taking g l = record {
  read : (c : Course) (core : CoreState) → IsFollowed g.F.Follower.following c core l.fn.self → HasRead g.F.Follower.following c core l.self;
  besides : IsBesides l.fn.self l.self;
  made : AreSame g.F.Follower.following l.fn.self.followers.items l.self.followers.items;
}

abbrev pub decreases-taking : goal.decreases-taking
decreases-taking g l = unread l.self.hub
