use Rattle.call_stacks.proofs.StackLaws.{Stands-more}
use Rattle.call_stacks.proofs.calls.CallsWatcher.try_see.Goals as goal

pub returns-clause-seen : goal.returns-clause-seen
returns-clause-seen c h done stands = rw c.take_in.ensures (Stands-more c.args.self.now c.args.event.now h stands)
