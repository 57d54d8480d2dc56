use Rattle.std.proofs.Common.{◌≡◌, ◌-◌}
use Rattle.format_model.specs.ImageFile.{with_front, loads_at}
use Rattle.elf_image.proofs.elf.loads_of.Given as goal

abbrev pub invariant-loop-index : goal.invariant-loop-index
invariant-loop-index l = with_front l.loads.items (loads_at (l.count - l.index) l.file l.size l.start l.index) ≡ loads_at l.count l.file l.size l.start 0
