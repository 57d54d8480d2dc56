use Rattle.taint_marks.proofs.StandsLaws.{Stands-more}
use Rattle.taint_marks.proofs.taint.TaintWatcher.see.Goals as goal

pub returns-clause-seen : goal.returns-clause-seen
returns-clause-seen c h stands = rw c.take_in.ensures (Stands-more c.args.self.now c.args.event.now h c.requires stands)
