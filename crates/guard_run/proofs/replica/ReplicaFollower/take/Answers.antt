-- the record comes after those that were taken, and what it shows after what was seen
use Rattle.std.proofs.Common.{[], ◌∙◌, reverse, subst, sym}
use Rattle.list_laws.proofs.ReverseLaws.{reverse-last}
use Rattle.any_machine.specs.Replay.{outcome, shown_by}
use Rattle.hart_model.specs.Machine.{hart}
use Rattle.board_model.specs.Guest.{started}
use Rattle.analysis_set.specs.Analysis.{HasSeen}
use Rattle.replayer.specs.Replays.{Replays}
use Rattle.guard_run.proofs.replica.ReplicaFollower.take.Goals as goal

pub returns-clause-taken : goal.returns-clause-taken
returns-clause-taken c = λ items was.
    let start = started c.args.self.now.image c.args.self.now.ram_kib in
    let last = sym (reverse-last items c.args.item.now) in
    record {
      replays = subst (λ l. Replays start l c.take_shown-fault.new.replay) last (c.take_shown-fault.ensures.replays start (reverse items) was.replays);
      seen = subst (λ l. HasSeen c.take_shown-fault.new.analysis (shown_by hart start (outcome hart start l))) last (c.take_shown-fault.ensures.shown start (reverse items) [] was.replays was.seen);
      made = c.take_shown-fault.ensures.made ∙ was.made;
      size = c.take_shown-fault.ensures.size ∙ was.size;
    }
