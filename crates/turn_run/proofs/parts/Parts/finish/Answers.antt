use Rattle.turn_run.proofs.ClosingLaws.{closes_cut, closes_whole}
use Rattle.turn_run.proofs.parts.Parts.finish.Goals as goal

pub returns-clause-whole : goal.returns-clause-whole
returns-clause-whole g c = λ of ended. closes_whole g.M.Recorder.recording g.F.Follower.following of c.args.self ended

pub returns-clause-cut : goal.returns-clause-cut
returns-clause-cut g c = λ of count put stopped. closes_cut g.M.Recorder.recording g.F.Follower.following of c.args.self count put stopped
