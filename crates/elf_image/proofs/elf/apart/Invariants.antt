use Rattle.std.proofs.Common.{◌≡◌, [], take, drop}
use Rattle.format_model.specs.ImageFile.{overlap_after}
use Rattle.elf_image.proofs.elf.apart.Given as goal

abbrev pub invariant-loop-i : goal.invariant-loop-i
invariant-loop-i l = overlap_after (take l.i l.loads) (drop l.i l.loads) ≡ overlap_after [] l.loads
