use Rattle.std.specs.Prelude.{true}
use Rattle.turn_run.proofs.StopLaws.{stops}
use Rattle.turn_run.proofs.parts.Parts.stop.Goals as goal

pub returns-clause-stopped : goal.returns-clause-stopped
returns-clause-stopped g c = λ of core broken.
    let shut = c.shut.ensures.broken of core broken in
    stops g.M.Recorder.recording g.F.Follower.following of core c.shut.new.self c.read_all.new.self shut (c.read_all.ensures.read of (record core { closed = true }) shut.follows) c.read_all.ensures.besides
