-- The step was fed what waited for it.
use Rattle.std.proofs.Common.{◌≡◌, ◌∙◌, Option, None, ap, sym, subst, arith}
use Rattle.run_events.specs.declared.supply.Supplied.{Supplied}
use Rattle.any_machine.proofs.RunningLaws.{loop_fed, loop_first}
use Rattle.any_machine.specs.Held.{Held}
use Rattle.any_machine.specs.Running.{RunSoFar, fed, unfed}
use Rattle.any_replay.specs.Standing.{held_of}
use Rattle.any_replay.proofs.running.feed.Goals as goal

pub returns-then-feed_fast-clause-runs : goal.returns-then-feed_fast-clause-runs
returns-then-feed_fast-clause-runs g c =
    let standing = c.args.standing.now in
    let hart = standing.hart in
    let done = g.H.Hart.done in
    let next = c.feed_fast.new.self in
    let given : Supplied = c.in-Some.supplied in
    let Seen = g.W.Watcher.has_seen c.args.seen.now in
    let SeenNow = g.W.Watcher.has_seen c.feed_fast.new.seen in
    let first : fed done standing.lines given hart ≡ held_of done standing =
    ap (λ (load : Option Supplied). record { state = hart; step = done hart; lines = standing.lines; load = load; power = None }) (sym c.in-Some.is)
    ∙ ap (λ power. record { state = hart; step = done hart; lines = standing.lines; load = standing.load; power = power }) (sym c.requires.runs) in
    let last : unfed done standing.lines next ≡ record { state = next; step = done next; lines = standing.lines; load = None; power = standing.power } =
    ap (λ power. record { state = next; step = done next; lines = standing.lines; load = None; power = power }) (sym c.requires.runs) in
    subst (λ (h : Held g.row.H.Denot). RunSoFar g.H.Hart.machine c.args.number h (record { state = next; step = done next; lines = standing.lines; load = None; power = standing.power }) Seen SeenNow) first
    (subst (λ (h : Held g.row.H.Denot). RunSoFar g.H.Hart.machine c.args.number (fed done standing.lines given hart) h Seen SeenNow) last
    (loop_fed g.H.Hart.machine done g.met.H.Hart.counts standing.lines given hart next Seen SeenNow (c.feed_fast.ensures.fed c.if-feed_fast.true) c.args.number (omega (arith, c.steps.ensures, c.if-steps-number.false))))

pub returns-then-steps-number-clause-runs : goal.returns-then-steps-number-clause-runs
returns-then-steps-number-clause-runs g c =
    loop_first g.H.Hart.machine c.args.number (held_of g.H.Hart.done c.args.standing.now) (g.W.Watcher.has_seen c.args.seen.now)

pub returns-else-feed_fast-clause-runs : goal.returns-else-feed_fast-clause-runs
returns-else-feed_fast-clause-runs g c =
    rw (c.feed_fast.ensures.same c.if-feed_fast.false, c.feed_fast.ensures.unseen c.if-feed_fast.false)
    (loop_first g.H.Hart.machine c.args.number (held_of g.H.Hart.done c.args.standing.now) (g.W.Watcher.has_seen c.args.seen.now))

pub returns-in_default-clause-runs : goal.returns-in_default-clause-runs
returns-in_default-clause-runs g c =
    loop_first g.H.Hart.machine c.args.number (held_of g.H.Hart.done c.args.standing.now) (g.W.Watcher.has_seen c.args.seen.now)
