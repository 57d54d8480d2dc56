-- First what was fed, then what needs nothing.
use Rattle.std.proofs.Common.{◌≡◌, ◌∙◌, Option, None, Some, ap, refl, true, false, not, ℕ}
use Rattle.std.specs.Prelude.{is_some}
use Rattle.run_events.specs.declared.supply.Supplied.{Supplied}
use Rattle.any_machine.proofs.RunningLaws.{loop_joins}
use Rattle.any_machine.specs.Held.{Held}
use Rattle.any_machine.specs.Running.{RunSoFar}
use Rattle.any_replay.specs.Standing.{held_of}
use Rattle.any_replay.proofs.running.run_fast.Goals as goal

pub returns-then-is_none-clause-runs : goal.returns-then-is_none-clause-runs
returns-then-is_none-clause-runs g c =
    let done = g.H.Hart.done in
    let fed = c.feed.new.standing in
    let Seen = g.W.Watcher.has_seen c.feed.new.seen in
    let SeenNow = g.W.Watcher.has_seen c.run_fast.new.seen in
    let empty : fed.load ≡ None = none_by fed.load (c.is_none.ensures ∙ ap not c.if-is_none.true) in
    let held : H → Option Supplied → Option ℕ → Held H = λ hart load power. record { state = hart; step = done hart; lines = fed.lines; load = load; power = power } in
    let plain : RunSoFar g.H.Hart.machine c.args.number (held fed.hart fed.load fed.power) (held c.run_fast.new.self fed.load fed.power) Seen SeenNow =
    rw (empty, c.feed.ensures.power) c.run_fast.ensures.runs in
    loop_joins g.H.Hart.machine c.args.number (held_of done c.args.standing.now) (held_of done fed) (held c.run_fast.new.self fed.load fed.power)
    (g.W.Watcher.has_seen c.args.seen.now) Seen SeenNow c.feed.ensures.runs plain
  where
    H : Type 0
    H = g.row.H.Denot

    none_by : (o : Option Supplied) → is_some o ≡ false → o ≡ None
    none_by None is = refl
    none_by (Some x) is = absurd (let clash : true ≡ false = is in cc)
