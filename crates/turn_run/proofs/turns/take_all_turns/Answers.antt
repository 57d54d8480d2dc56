use Rattle.std.proofs.Common.{◌≡◌, inl, inr, length, ap, subst, ◌∙◌, refl, arith}
use Rattle.gate_core.specs.Hub.{HubState}
use Rattle.run_settings.specs.Patterns.{IsPattern}
use Rattle.turn_run.proofs.EndLaws.{ends}
use Rattle.turn_run.proofs.PeriodLaws.{come_on, crash_on, crashes, falls}
use Rattle.run_settings.specs.declared.letter.Letter.TheVariants as letter
use Rattle.turn_run.specs.Turns.{repeated}
use Rattle.turn_run.proofs.OrderLaws.{fails_by, fails_last, period_on, turns-push}
use Rattle.turn_run.proofs.turns.take_all_turns.Goals as goal

pub loop-parts-preserved : goal.loop-parts-preserved
loop-parts-preserved g c = record {
  come = λ of opened. (
      let now = c.loop-parts.invariant.come of opened in
      come_on g.M.Recorder.recording g.F.Follower.following of g.O.Sink.told 0 c.loop-parts.parts c.take_period.new.parts c.args.out.now c.loop-parts.out c.take_period.new.out now (c.in-Ok.ensures.come of now.next now.at));
  turns = period_on g.M.Recorder.recording g.F.Follower.following g.O.Sink.told c.args.turns.now c.args.parts.now c.loop-parts.parts c.take_period.new.parts c.args.out.now c.loop-parts.out c.take_period.new.out c.loop-parts.invariant.turns c.in-Ok.ensures.turns;
  made = c.take_period.ensures.made ∙ c.loop-parts.invariant.made;
}

pub returns-in-Err-clause-made : goal.returns-in-Err-clause-made
returns-in-Err-clause-made g c = c.take_period.ensures.made ∙ c.loop-parts.invariant.made

pub returns-in-Ok-release-clause-made : goal.returns-in-Ok-release-clause-made
returns-in-Ok-release-clause-made g c = c.release.ensures.made ∙ c.loop-parts.invariant.made

pub returns-in-Err-release-clause-made : goal.returns-in-Err-release-clause-made
returns-in-Err-release-clause-made g c = c.release.ensures.made ∙ c.loop-parts.invariant.made

pub returns-in-Err-clause-err : goal.returns-in-Err-clause-err
returns-in-Err-clause-err g c = λ of opened.
    let now = c.loop-parts.invariant.come of opened in
    crash_on g.M.Recorder.recording g.F.Follower.following of g.O.Sink.told 0 c.loop-parts.parts c.take_period.new.parts c.args.out.now c.loop-parts.out c.take_period.new.out now (c.in-Err.ensures.err of now.next now.at)

pub returns-in-Ok-release-clause-ok : goal.returns-in-Ok-release-clause-ok
returns-in-Ok-release-clause-ok g c = λ of opened.
    let now = c.loop-parts.invariant.come of opened in
    ends g.M.Recorder.recording g.F.Follower.following of g.O.Sink.told c.loop-parts.parts c.release.new.self c.args.out.now c.loop-parts.out c.release.new.out now (c.loop-parts-test.ensures.yes refl) (c.in-Ok-release.ensures.ok of now.next now.at)

pub returns-in-Err-release-clause-err : goal.returns-in-Err-release-clause-err
returns-in-Err-release-clause-err g c = λ of opened.
    let now = c.loop-parts.invariant.come of opened in
    crash_on g.M.Recorder.recording g.F.Follower.following of g.O.Sink.told 0 c.loop-parts.parts c.release.new.self c.args.out.now c.loop-parts.out c.release.new.out now
    (crashes g.M.Recorder.recording g.F.Follower.following of g.O.Sink.told now.next c.loop-parts.parts c.release.new.self c.loop-parts.out c.release.new.out now.at (c.in-Err-release.ensures.err of now.next now.at))

pub loop-parts-smaller : goal.loop-parts-smaller
loop-parts-smaller g c =
    let run = c.requires.opened in
    let fs = (c.loop-parts.invariant.come run.of run.opened).at.follows in
    let readers : length c.args.parts.now.followers.items ≡ length c.loop-parts.parts.hub.taken = omega (arith, run.opened.follows.count, fs.sound.taken, ap (λ (h : HubState). length h.taken) fs.stands) in
    let pattern = subst (λ n. IsPattern n c.args.turns.now) readers c.requires.pattern in
    elim (falls g.M.Recorder.recording g.F.Follower.following c.loop-parts.parts c.take_period.new.parts c.args.turns.now pattern c.in-Ok.ensures.moved) [
      | inl less ↦ less
      | inr out ↦ absurd (c.loop-parts-test.ensures.no refl out)
    ]

pub returns-in-Err-clause-fails : goal.returns-in-Err-clause-fails
returns-in-Err-clause-fails g c = fails_by g.M.Recorder.recording g.F.Follower.following g.O.Sink.told c.args.turns.now c.args.parts.now c.loop-parts.parts c.take_period.new.parts c.args.out.now c.loop-parts.out c.take_period.new.out c.loop-parts.invariant.turns c.in-Err.ensures.fails

pub returns-in-Ok-release-clause-turns : goal.returns-in-Ok-release-clause-turns
returns-in-Ok-release-clause-turns g c = record {
  periods = c.loop-parts.invariant.turns.0;
  are = turns-push g.M.Recorder.recording g.F.Follower.following g.O.Sink.told (repeated c.loop-parts.invariant.turns.0 c.args.turns.now) letter.Release c.args.parts.now c.loop-parts.parts c.release.new.self c.args.out.now c.loop-parts.out c.release.new.out c.loop-parts.invariant.turns.1 c.in-Ok-release.ensures.ok;
}

pub returns-in-Err-release-clause-fails : goal.returns-in-Err-release-clause-fails
returns-in-Err-release-clause-fails g c = fails_last g.M.Recorder.recording g.F.Follower.following g.O.Sink.told c.args.turns.now c.args.parts.now c.loop-parts.parts c.release.new.self c.args.out.now c.loop-parts.out c.release.new.out c.loop-parts.invariant.turns (c.loop-parts-test.ensures.yes refl) c.in-Err-release.ensures.err
