use Rattle.std.proofs.Common.{◌≡◌, length, option_copied}
use Rattle.run_settings.specs.Kinds.{EachOnce}
use Rattle.command_words.specs.Values.{parts_of, parts_after, all_named}
use Rattle.command_words.proofs.ValueLaws.{behind}
use Rattle.command_words.proofs.value.kinds_of.Given as goal

abbrev pub invariant-loop-rest : goal.invariant-loop-rest
invariant-loop-rest l = record {
  so_far : all_named (parts_of l.text) ≡ behind l.kinds (all_named (parts_after (option_copied l.rest)));
  once : EachOnce l.kinds;
}

abbrev pub decreases-loop-rest : goal.decreases-loop-rest
decreases-loop-rest l = length (parts_after (option_copied l.rest))
