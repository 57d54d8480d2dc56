use Rattle.std.proofs.Common.{◌≡◌, length, drop}
use Rattle.command_words.specs.Values.{letters_in}
use Rattle.command_words.proofs.ValueLaws.{behind}
use Rattle.command_words.proofs.value.turns_of.Given as goal

abbrev pub invariant-loop-byte : goal.invariant-loop-byte
invariant-loop-byte l = record {
  so_far : letters_in l.text ≡ behind l.turns (letters_in (drop l.byte-index l.text));
  long : length l.turns ≡ l.byte-index;
}
