use Rattle.lock_rules.proofs.StateLaws.{Stands-more}
use Rattle.lock_rules.proofs.locks.LocksWatcher.see.Goals as goal

pub returns-clause-seen : goal.returns-clause-seen
returns-clause-seen c h stands = rw c.take_in.ensures (Stands-more c.args.self.now c.args.event.now h stands)
