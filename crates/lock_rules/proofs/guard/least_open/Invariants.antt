use Rattle.std.proofs.Common.{◌≡◌}
use Rattle.list_laws.specs.Least.{least_from}
use Rattle.lock_rules.specs.Entries.{is_open}
use Rattle.lock_rules.specs.Lesser.{lesser}
use Rattle.lock_rules.proofs.OpenLaws.{open_from}
use Rattle.lock_rules.proofs.guard.least_open.Given as goal

abbrev pub invariant-loop-guard : goal.invariant-loop-guard
invariant-loop-guard l = lesser l.least (open_from l.locks l.context l.guards l.guard-index l.from l.size) ≡ least_from (is_open l.locks l.context l.guards) l.from l.size
