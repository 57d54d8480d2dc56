use Rattle.std.proofs.Common.{◌≡◌, map, take}
use Rattle.format_model.specs.ImageFile.{Load}
use Rattle.elf_image.proofs.elf.segments_of.Given as goal

abbrev pub invariant-loop-load : goal.invariant-loop-load
invariant-loop-load l = l.segments.items ≡ map (λ (load : Load). load.segment) (take l.load-index l.loads)
