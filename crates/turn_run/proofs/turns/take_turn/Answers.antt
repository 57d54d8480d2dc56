use Rattle.std.proofs.Common.{◌<◌, length, refl, sym, subst, arith}
use Rattle.run_settings.specs.Patterns.{IsLetter}
use Rattle.turn_run.specs.Periods.{Moves}
use Rattle.turn_run.specs.Turns.{IsTurn}
use Rattle.turn_run.proofs.PeriodLaws.{comes_released, crashes, gate_moves, read_comes, reader_moves, recorded, recorder_moves}
use Rattle.turn_run.proofs.turns.take_turn.Goals as goal

pub returns-in-Record-clause-come : goal.returns-in-Record-clause-come
returns-in-Record-clause-come g c = λ of core at.
    recorded g.M.Recorder.recording g.F.Follower.following of core c.args.parts.now c.append_next.new.self at g.O.Sink.told c.args.out.now c.append_next.result (c.append_next.ensures.records of core at)

pub returns-in-Record-clause-moves : goal.returns-in-Record-clause-moves
returns-in-Record-clause-moves g c =
    let run = c.requires.run in
    subst (λ turn. Moves g.M.Recorder.recording g.F.Follower.following turn c.args.parts.now c.append_next.new.self) (sym c.in-Record.is)
    (recorder_moves g.M.Recorder.recording g.F.Follower.following run.of run.core c.args.parts.now c.append_next.new.self run.at c.append_next.result (c.append_next.ensures.records run.of run.core run.at) c.append_next.ensures.lessens)

pub returns-in-Read-clause-come : goal.returns-in-Read-clause-come
returns-in-Read-clause-come g c = λ of core at.
    let there : c.in-Read.reader < length c.args.parts.now.followers.items = subst (IsLetter (length c.args.parts.now.followers.items)) c.in-Read.is c.requires.there in
    read_comes g.M.Recorder.recording g.F.Follower.following of core c.args.parts.now c.read.new.self at c.read.ensures.besides g.O.Sink.told c.args.out.now c.in-Read.reader (omega (arith, there, at.follows.count)) c.read.result
    (c.read.ensures.reads of core at.follows) c.read.ensures.lessens

pub returns-in-Read-clause-moves : goal.returns-in-Read-clause-moves
returns-in-Read-clause-moves g c =
    let run = c.requires.run in
    subst (λ turn. Moves g.M.Recorder.recording g.F.Follower.following turn c.args.parts.now c.read.new.self) (sym c.in-Read.is)
    (reader_moves g.M.Recorder.recording g.F.Follower.following run.of run.core c.args.parts.now c.read.new.self run.at c.read.ensures.besides c.in-Read.reader c.read.result (c.read.ensures.reads run.of run.core run.at.follows) c.read.ensures.lessens)

pub returns-in-Ok-clause-come : goal.returns-in-Ok-clause-come
returns-in-Ok-clause-come g c = λ of core at.
    comes_released g.M.Recorder.recording g.F.Follower.following of g.O.Sink.told core c.args.parts.now c.release.new.self c.args.out.now c.release.new.out (c.in-Ok.ensures.ok of core at)

pub returns-in-Ok-clause-moves : goal.returns-in-Ok-clause-moves
returns-in-Ok-clause-moves g c =
    let run = c.requires.run in
    subst (λ turn. Moves g.M.Recorder.recording g.F.Follower.following turn c.args.parts.now c.release.new.self) (sym c.in-Release.is)
    (gate_moves g.M.Recorder.recording g.F.Follower.following run.of run.core c.args.parts.now c.release.new.self run.at g.O.Sink.told c.args.out.now c.release.new.out (c.in-Ok.ensures.ok run.of run.core run.at))

pub returns-in-Err-clause-err : goal.returns-in-Err-clause-err
returns-in-Err-clause-err g c = λ of core at.
    crashes g.M.Recorder.recording g.F.Follower.following of g.O.Sink.told core c.args.parts.now c.release.new.self c.args.out.now c.release.new.out at (c.in-Err.ensures.err of core at)

pub returns-in-Record-clause-turn : goal.returns-in-Record-clause-turn
returns-in-Record-clause-turn g c =
    subst (λ turn. IsTurn g.M.Recorder.recording g.F.Follower.following g.O.Sink.told turn c.args.parts.now c.append_next.new.self c.args.out.now c.args.out.now) (sym c.in-Record.is)
    (λ of core at. (c.append_next.result, c.append_next.ensures.records of core at, refl))

pub returns-in-Read-clause-turn : goal.returns-in-Read-clause-turn
returns-in-Read-clause-turn g c =
    subst (λ turn. IsTurn g.M.Recorder.recording g.F.Follower.following g.O.Sink.told turn c.args.parts.now c.read.new.self c.args.out.now c.args.out.now) (sym c.in-Read.is)
    (λ of core at. (c.read.result, c.read.ensures.reads of core at.follows, c.read.ensures.lessens, c.read.ensures.besides, refl))

pub returns-in-Ok-clause-turn : goal.returns-in-Ok-clause-turn
returns-in-Ok-clause-turn g c =
    subst (λ turn. IsTurn g.M.Recorder.recording g.F.Follower.following g.O.Sink.told turn c.args.parts.now c.release.new.self c.args.out.now c.release.new.out) (sym c.in-Release.is) c.in-Ok.ensures.ok

pub returns-in-Err-clause-fails : goal.returns-in-Err-clause-fails
returns-in-Err-clause-fails g c = (c.in-Release.is, c.in-Err.ensures.err)
