use Rattle.std.proofs.Common.{◌≡◌, ◌^◌, ◌<◌, drop}
use Rattle.format_model.specs.ScriptReading.{value_after, value_of}
use Rattle.decimal_text.proofs.number.value_of.Given as goal

abbrev pub invariant-loop-digit : goal.invariant-loop-digit
invariant-loop-digit l = record { small : l.value < 2 ^ 32; so_far : value_after l.value (drop l.digit-index l.digits) ≡ value_of l.digits }
