use Rattle.call_stacks.proofs.StackLaws.{Stands-none}
use Rattle.call_stacks.proofs.calls.Calls.new.Goals as goal

pub returns-clause-seen : goal.returns-clause-seen
returns-clause-seen c = Stands-none c.args.ram_kib _ c.in_ok-empty_rings.ensures c.new.result c.new.ensures
