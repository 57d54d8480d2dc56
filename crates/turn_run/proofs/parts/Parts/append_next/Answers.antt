use Rattle.std.proofs.Common.{◌≤◌, ◌<◌, sym, subst, arith, drop, length}
use Rattle.std.specs.Prelude.{MatchOption}
use Rattle.turn_run.specs.Sources.{IsNextOf, items_left}
use Rattle.turn_run.proofs.AppendLaws.{after_append, after_close, lessens_append, lessens_close, lessens_none, next, rises, waits}
use Rattle.turn_run.proofs.parts.Parts.append_next.Goals as goal

pub returns-in_default-clause-records : goal.returns-in_default-clause-records
returns-in_default-clause-records g c = λ of core at.
    let none = subst (IsNextOf g.M.Recorder.recording (drop core.appended of.items) c.next.new.self) c.in_default.is (c.next.ensures.given (drop core.appended of.items) at.rest) in
    after_close g.M.Recorder.recording g.F.Follower.following of core c.args.self.now at c.next.new.self c.close.new.self (sym c.if-is_closed.ensures) c.close.ensures none.0 none.1

pub returns-in_default-clause-lessens : goal.returns-in_default-clause-lessens
returns-in_default-clause-lessens g c =
    let left = items_left g.M.Recorder.recording in
    let less = subst (λ o. MatchOption o (left c.next.new.self ≤ left c.args.self.now.source) (λ _. left c.next.new.self < left c.args.self.now.source)) c.in_default.is c.next.ensures.falls in
    lessens_close (left c.args.self.now.source) (left c.next.new.self) c.args.self.now.hub c.close.new.self (length c.args.self.now.gate.steps) less (sym c.if-is_closed.ensures) c.close.ensures

pub place-requires-clause-item : goal.place-requires-clause-item
place-requires-clause-item g c =
    let at = c.requires.at in
    let first = c.in-Some.ensures.given (drop c.requires.core.appended c.requires.of.items) at.rest in
    (next g.M.Recorder.recording g.F.Follower.following c.requires.of c.requires.core c.args.self.now at c.in-Some.item first.rest first.first).is_record

pub place-requires-clause-rises : goal.place-requires-clause-rises
place-requires-clause-rises g c =
    let at = c.requires.at in
    let first = c.in-Some.ensures.given (drop c.requires.core.appended c.requires.of.items) at.rest in
    rises g.M.Recorder.recording g.F.Follower.following c.requires.of c.requires.core c.args.self.now at c.in-Some.item first.rest first.first

pub place-requires-clause-marks : goal.place-requires-clause-marks
place-requires-clause-marks g c =
    let at = c.requires.at in
    let first = c.in-Some.ensures.given (drop c.requires.core.appended c.requires.of.items) at.rest in
    (next g.M.Recorder.recording g.F.Follower.following c.requires.of c.requires.core c.args.self.now at c.in-Some.item first.rest first.first).marked

pub returns-then-not-place-clause-records : goal.returns-then-not-place-clause-records
returns-then-not-place-clause-records g c = λ of core at.
    let first = c.in-Some.ensures.given (drop core.appended of.items) at.rest in
    waits g.M.Recorder.recording g.F.Follower.following of core c.args.self.now at c.in-Some.item first.rest first.first c.put_back.new.self c.place.new.hub c.place.new.gate (sym c.if-is_closed.ensures)
    c.if-not-place.ensures.room c.if-not-place.ensures.log c.if-not-place.ensures.gate (c.put_back.ensures.back first.rest first.to_come)

pub returns-then-not-place-clause-lessens : goal.returns-then-not-place-clause-lessens
returns-then-not-place-clause-lessens g c =
    let left = items_left g.M.Recorder.recording in
    lessens_none (left c.args.self.now.source) (left c.put_back.new.self) c.args.self.now.hub c.place.new.hub c.args.self.now.gate c.place.new.gate (omega (arith, c.in-Some.ensures.falls, c.put_back.ensures.left)) c.if-not-place.ensures.log c.if-not-place.ensures.gate

pub returns-clause-records : goal.returns-clause-records
returns-clause-records g c = λ of core at.
    let first = c.in-Some.ensures.given (drop core.appended of.items) at.rest in
    after_append g.M.Recorder.recording g.F.Follower.following of core c.args.self.now at c.in-Some.item first.rest first.first c.next.new.self c.place.new.hub c.place.new.gate c.of-self.result
    (sym c.if-is_closed.ensures) c.if-not-place.ensures.room c.if-not-place.ensures.log c.if-not-place.ensures.gate c.of-self.ensures first.to_come

pub returns-clause-lessens : goal.returns-clause-lessens
returns-clause-lessens g c =
    let left = items_left g.M.Recorder.recording in
    lessens_append (left c.args.self.now.source) (left c.next.new.self) c.args.self.now.hub c.place.new.hub c.args.self.now.gate c.place.new.gate c.in-Some.item c.in-Some.ensures.falls (sym c.if-is_closed.ensures)
    c.if-not-place.ensures.room c.if-not-place.ensures.log c.if-not-place.ensures.gate
