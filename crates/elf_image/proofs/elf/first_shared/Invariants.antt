use Rattle.std.proofs.Common.{◌≡◌, drop}
use Rattle.format_model.specs.ImageFile.{first_shared}
use Rattle.elf_image.proofs.elf.first_shared.Given as goal

abbrev pub invariant-loop-earlier : goal.invariant-loop-earlier
invariant-loop-earlier l = first_shared l.load.segment (drop l.earlier-index l.before) ≡ first_shared l.load.segment l.before
