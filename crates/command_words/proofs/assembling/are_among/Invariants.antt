use Rattle.std.proofs.Common.{◌≡◌, true, take}
use Rattle.std.specs.List.{list_all}
use Rattle.run_settings.specs.Kinds.{has_kind}
use Rattle.command_words.proofs.assembling.are_among.Given as goal

abbrev pub invariant-loop-index : goal.invariant-loop-index
invariant-loop-index l = list_all (has_kind l.others) (take l.index l.kinds) ≡ true
