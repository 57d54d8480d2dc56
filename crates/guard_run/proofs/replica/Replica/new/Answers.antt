-- nothing is shown before the first record
use Rattle.std.proofs.Common.{[], ◌≡◌, subst, sym, ap, refl}
use Rattle.hart_model.proofs.CountLaws.{hart_counts}
use Rattle.hart_model.specs.Machine.{hart}
use Rattle.hart_model.specs.State.{State}
use Rattle.machine_model.specs.Image.{Image}
use Rattle.analysis_model.specs.Made.{make_of}
use Rattle.analysis_set.specs.Analysis.{HasSeen, made_of}
use Rattle.board_model.specs.Guest.{started}
use Rattle.job_model.proofs.LaterShown.{shown_none}
use Rattle.replayer.specs.Replays.{Replays}
use Rattle.guard_run.specs.Replicas.{Make}
use Rattle.guard_run.proofs.replica.Replica.new.Goals as goal

pub returns : goal.returns
returns c =
    let copied : c.in_ok-copy.field-0 ≡ c.args.image.now = c.in_ok-copy.ensures in
    let back = sym copied in
    let kib = c.args.ram_kib in
    record {
      made = ap (λ (i : Image). let m : Make = record { image = i; ram_kib = kib; kind = c.args.kind } in m) copied;
      taken = record {
        replays = subst (λ (i : Image). Replays (started i kib) [] c.in_ok-new.field-0) back c.in_ok-new.ensures.replays;
        seen = subst (HasSeen c.in_ok-new-2.field-0) (sym (shown_none hart (λ (s : State). s.step) hart_counts (started c.in_ok-copy.field-0 kib) refl)) c.in_ok-new-2.ensures.seen;
        made = subst (λ (i : Image). made_of c.in_ok-new-2.field-0 ≡ make_of c.args.kind i) back c.in_ok-new-2.ensures.made;
        size = c.in_ok-new-2.ensures.size;
      };
    }
