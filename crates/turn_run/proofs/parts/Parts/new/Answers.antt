use Rattle.std.proofs.Common.{◌≡◌, refl, ap, ◌∙◌, arith}
use Rattle.std.specs.Prelude.{length}
use Rattle.gate_core.specs.Hub.{empty_hub}
use Rattle.turn_run.proofs.OpeningLaws.{opened}
use Rattle.turn_run.proofs.parts.Parts.new.Goals as goal

pub returns-clause-opened : goal.returns-clause-opened
returns-clause-opened g c = λ of is.
    let readers : c.len-readers.result ≡ length c.args.followers.items = omega (arith, c.len-readers.ensures, c.args.followers.ok.0) in
    opened g.M.Recorder.recording g.F.Follower.following g.met.F.Follower.starts of c.args.recorder c.args.followers.items c.args.required.items c.args.cap is _
    (c.new.ensures of.items is.to_come) (c.in_ok-new.ensures ∙ ap (empty_hub c.args.cap) readers) refl refl c.in_ok-new-2.ensures refl
