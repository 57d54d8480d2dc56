use Rattle.std.proofs.Common.{◌≡◌, ap, arith}
use Rattle.gate_core.specs.Hub.{HubState}
use Rattle.turn_run.proofs.EndLaws.{is_stopped}
use Rattle.turn_run.proofs.turns.run_turns.Goals as goal

pub returns-in-Err-clause-err : goal.returns-in-Err-clause-err
returns-in-Err-clause-err g c = λ of opened.
    let crashed = c.in-Err.ensures.err of opened in
    is_stopped g.M.Recorder.recording g.F.Follower.following of g.O.Sink.told c.take_all_turns.new.parts c.stop.new.self c.args.out.now c.take_all_turns.new.out crashed (c.stop.ensures.stopped of crashed.next crashed.broken)

pub returns-in-Err-clause-stops : goal.returns-in-Err-clause-stops
returns-in-Err-clause-stops g c =
    let run = c.requires.opened in
    let crashed = c.in-Err.ensures.err run.of run.opened in
    let stopped = c.stop.ensures.stopped run.of crashed.next crashed.broken in
    let before : c.take_all_turns.new.parts.hub.appended ≡ crashed.next.appended = ap (λ (h : HubState). h.appended) crashed.broken.follows.stands in
    let after : c.stop.new.self.hub.appended ≡ stopped.core.appended = ap (λ (h : HubState). h.appended) stopped.broken.follows.stands in
    record { failed = c.take_all_turns.new.parts; fails = c.in-Err.ensures.fails; appended = omega (arith, before, after, stopped.appended) }
