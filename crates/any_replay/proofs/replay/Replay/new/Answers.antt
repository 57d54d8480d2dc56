use Rattle.any_replay.proofs.TakeLaws.{new_replays}
use Rattle.any_replay.proofs.replay.Replay.new.Goals as goal

pub returns-clause-replays : goal.returns-clause-replays
returns-clause-replays g c = new_replays g.H.Hart.machine g.H.Hart.done g.H.Hart.ram_size c.args.hart c.new.result c.requires c.new.ensures
