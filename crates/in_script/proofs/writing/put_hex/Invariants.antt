use Rattle.std.proofs.Common.{◌≡◌, ◌++◌, take}
use Rattle.format_model.specs.Script.{hex}
use Rattle.in_script.proofs.writing.put_hex.Given as goal

abbrev pub invariant-loop-byte : goal.invariant-loop-byte
invariant-loop-byte l = l.out.items ≡ l.fn.out.items ++ hex (take l.byte-index l.bytes)
