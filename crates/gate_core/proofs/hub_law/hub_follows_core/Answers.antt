use Rattle.gate_core.proofs.FollowLaws.{appends, refuses, takes, posts}
use Rattle.gate_core.proofs.hub_law.hub_follows_core.Goals as goal

pub returns-clause-appends : goal.returns-clause-appends
returns-clause-appends c = appends

pub returns-clause-refuses : goal.returns-clause-refuses
returns-clause-refuses c = refuses

pub returns-clause-takes : goal.returns-clause-takes
returns-clause-takes c = takes

pub returns-clause-posts : goal.returns-clause-posts
returns-clause-posts c = posts
