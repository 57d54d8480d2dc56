use Rattle.std.proofs.Common.{◌≡◌, ◌≤◌, refl, sym, ap, subst}
use Rattle.std.specs.Prelude.{take}
use Rattle.std.specs.List.{All}
use Rattle.after_edge.specs.Sink.{Writes, WritesPart}
use Rattle.gate_core.specs.Follow.{approvals}
use Rattle.gate_core.specs.Hub.{approved_at}
use Rattle.output_gate.specs.Gate.{with_failure}
use Rattle.turn_run.specs.Gates.{after_put, approved_in, least_approved, refusals, withheld_from}
use Rattle.turn_run.proofs.TurnLaws.{broken_off, passed_low, released_on}
use Rattle.turn_run.proofs.parts.Parts.release.Goals as goal

pub let_out-requires-clause-passed : goal.let_out-requires-clause-passed
let_out-requires-clause-passed g c =
    let now = c.args.self.now in
    subst (λ readers. All (λ reader. (after_put now.hub readers now.gate).passed ≤ approved_at now.hub reader) readers) (sym c.deref.ensures.value)
    (passed_low g.M.Recorder.recording g.F.Follower.following c.requires.of c.requires.core now c.requires.at (least_approved (approvals now.hub.verdicts) now.required.items) refl (after_put now.hub now.required.items now.gate) refl)

pub returns-in-Err-clause-err : goal.returns-in-Err-clause-err
returns-in-Err-clause-err g c = λ of core at.
    let now = c.args.self.now in
    let here = ap (λ readers. approved_in now.hub readers now.gate) c.deref.ensures.value in
    broken_off g.M.Recorder.recording g.F.Follower.following of core now at (least_approved (approvals now.hub.verdicts) now.required.items) refl g.O.Sink.told c.args.out.now c.let_out.new.out c.let_out.new.gate
    (subst (λ n. c.let_out.new.gate ≡ with_failure now.gate n) here c.in-Err.ensures.failed) (subst (λ n. 1 ≤ n) here c.in-Err.ensures.some)
    (subst (λ n. WritesPart g.O.Sink.told c.args.out.now c.let_out.new.out (take n now.gate.bytes)) here c.in-Err.ensures.part)

pub returns-in-Ok-clause-ok : goal.returns-in-Ok-clause-ok
returns-in-Ok-clause-ok g c = λ of core at.
    let now = c.args.self.now in
    let here = ap (λ readers. approved_in now.hub readers now.gate) c.deref.ensures.value in
    released_on g.M.Recorder.recording g.F.Follower.following of core now at (least_approved (approvals now.hub.verdicts) now.required.items) refl g.O.Sink.told c.args.out.now c.let_out.new.out c.let_out.new.gate
    (subst (λ readers. c.let_out.new.gate ≡ withheld_from (refusals now.hub readers) (after_put now.hub readers now.gate)) c.deref.ensures.value c.in-Ok.ensures.withheld)
    (subst (λ n. Writes g.O.Sink.told c.args.out.now c.let_out.new.out (take n now.gate.bytes)) here c.in-Ok.ensures.put)
