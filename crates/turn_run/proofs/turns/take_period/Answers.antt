use Rattle.std.proofs.Common.{◌∙◌, subst, arith}
use Rattle.std.proofs.lemmas.List.{take_all}
use Rattle.turn_run.specs.Turns.{AreTurns}
use Rattle.turn_run.proofs.OrderLaws.{fails_on, turns_on}
use Rattle.turn_run.proofs.PeriodLaws.{come_on, crash_on, move_on, moved_all}
use Rattle.turn_run.proofs.turns.take_period.Goals as goal

pub take_turn-requires-clause-run : goal.take_turn-requires-clause-run
take_turn-requires-clause-run g c =
    let run = c.requires.run in
    let now = c.loop-letter.invariant.come run.of run.core run.at in
    record { of = run.of; core = now.next; at = now.at }

pub returns-in-Err-clause-err : goal.returns-in-Err-clause-err
returns-in-Err-clause-err g c = λ of core at.
    let now = c.loop-letter.invariant.come of core at in
    crash_on g.M.Recorder.recording g.F.Follower.following of g.O.Sink.told core.released c.loop-letter.parts c.take_turn.new.parts c.args.out.now c.loop-letter.out c.take_turn.new.out now (c.in-Err.ensures.err of now.next now.at)

pub loop-letter-preserved : goal.loop-letter-preserved
loop-letter-preserved g c = record {
  come = λ of core at. (
      let now = c.loop-letter.invariant.come of core at in
      come_on g.M.Recorder.recording g.F.Follower.following of g.O.Sink.told core.released c.loop-letter.parts c.take_turn.new.parts c.args.out.now c.loop-letter.out c.take_turn.new.out now (c.in-Ok.ensures.come of now.next now.at));
  moved = move_on g.M.Recorder.recording g.F.Follower.following c.args.parts.now c.loop-letter.parts c.take_turn.new.parts c.args.turns.now c.loop-letter.letter-index _ c.loop-letter-test.true c.loop-letter.invariant.moved c.in-Ok.ensures.moves;
  turns = turns_on g.M.Recorder.recording g.F.Follower.following g.O.Sink.told c.args.turns.now c.loop-letter.letter-index _ c.loop-letter-test.true c.args.parts.now c.loop-letter.parts c.take_turn.new.parts c.args.out.now c.loop-letter.out c.take_turn.new.out c.loop-letter.invariant.turns c.in-Ok.ensures.turn;
  made = c.take_turn.ensures.made ∙ c.loop-letter.invariant.made;
}

pub returns-in-Err-clause-made : goal.returns-in-Err-clause-made
returns-in-Err-clause-made g c = c.take_turn.ensures.made ∙ c.loop-letter.invariant.made

pub returns-clause-moved : goal.returns-clause-moved
returns-clause-moved g c = moved_all g.M.Recorder.recording g.F.Follower.following c.args.parts.now c.loop-letter.parts c.args.turns.now c.loop-letter.letter-index (omega arith) c.loop-letter.invariant.moved

pub returns-clause-turns : goal.returns-clause-turns
returns-clause-turns g c = subst (λ letters. AreTurns g.M.Recorder.recording g.F.Follower.following g.O.Sink.told letters c.args.parts.now c.loop-letter.parts c.args.out.now c.loop-letter.out) (take_all c.loop-letter.letter-index c.args.turns.now (omega arith)) c.loop-letter.invariant.turns

pub returns-in-Err-clause-fails : goal.returns-in-Err-clause-fails
returns-in-Err-clause-fails g c = fails_on g.M.Recorder.recording g.F.Follower.following g.O.Sink.told c.args.turns.now c.loop-letter.letter-index _ c.loop-letter-test.true c.args.parts.now c.loop-letter.parts c.take_turn.new.parts c.args.out.now c.loop-letter.out c.take_turn.new.out c.loop-letter.invariant.turns c.in-Err.ensures.fails
