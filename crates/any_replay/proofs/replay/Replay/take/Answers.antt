use Rattle.std.proofs.Common.{refl, sym, ◌∙◌}
use Rattle.any_replay.proofs.TakeLaws.{judged_replays, judged_shown, still_replays, still_shown}
use Rattle.any_replay.proofs.replay.Replay.take.Goals as goal

-- after a fault
pub returns-in-Some-clause-replays : goal.returns-in-Some-clause-replays
returns-in-Some-clause-replays g c = λ start before was. still_replays g.H.Hart.machine g.H.Hart.done g.H.Hart.ram_size start before c.args.item.now c.args.self.now c.in-Some.diverged was c.in-Some.is

pub returns-in-Some-clause-shown : goal.returns-in-Some-clause-shown
returns-in-Some-clause-shown g c =
    λ start before h was seen.
    still_shown g.H.Hart.machine g.H.Hart.done g.H.Hart.ram_size start before c.args.item.now c.args.self.now c.in-Some.diverged h (g.W.Watcher.has_seen c.args.seen.now) was c.in-Some.is seen

-- the record has a fault
pub returns-in-Some-judge-clause-replays : goal.returns-in-Some-judge-clause-replays
returns-in-Some-judge-clause-replays g c =
    λ start before was.
    judged_replays g.H.Hart.machine g.H.Hart.done g.H.Hart.ram_size start before c.args.item.now c.args.self.now c.judge.new.self c.judge.result was c.in_default.is (c.judge.ensures.judges start before (was.order c.in_default.is) was.ram)
    (sym c.judge.ensures.ram) _ refl refl (sym c.in-Some-judge.is)

pub returns-in-Some-judge-clause-shown : goal.returns-in-Some-judge-clause-shown
returns-in-Some-judge-clause-shown g c =
    λ start before h was seen.
    judged_shown g.H.Hart.machine g.H.Hart.done g.H.Hart.ram_size start before c.args.item.now c.args.self.now h (g.W.Watcher.has_seen c.judge.new.seen) was c.in_default.is
    (c.judge.ensures.shown start before (was.order c.in_default.is) was.ram _ seen)

-- it is accepted
pub returns-clause-replays : goal.returns-clause-replays
returns-clause-replays g c =
    λ start before was.
    judged_replays g.H.Hart.machine g.H.Hart.done g.H.Hart.ram_size start before c.args.item.now c.args.self.now c.judge.new.self c.judge.result was c.in_default.is (c.judge.ensures.judges start before (was.order c.in_default.is) was.ram)
    (sym c.judge.ensures.ram) _ refl refl (c.judge.ensures.diverged ∙ c.in_default.is ∙ sym c.in_default-judge.is)

pub returns-clause-shown : goal.returns-clause-shown
returns-clause-shown g c =
    λ start before h was seen.
    judged_shown g.H.Hart.machine g.H.Hart.done g.H.Hart.ram_size start before c.args.item.now c.args.self.now h (g.W.Watcher.has_seen c.judge.new.seen) was c.in_default.is
    (c.judge.ensures.shown start before (was.order c.in_default.is) was.ram _ seen)
