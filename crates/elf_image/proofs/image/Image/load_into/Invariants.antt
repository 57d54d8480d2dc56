use Rattle.std.proofs.Common.{◌≡◌, length, drop}
use Rattle.machine_model.specs.Image.{ram_with, IsLoadable}
use Rattle.elf_image.proofs.image.Image.load_into.Given as goal

-- the rest loads what is still to come
abbrev pub invariant-loop-segment : goal.invariant-loop-segment
invariant-loop-segment l = record {
  loads : ram_with (drop l.segment-index l.segment-items) l.ram ≡ ram_with l.segment-items l.fn.ram;
  size : length l.ram ≡ length l.fn.ram;
  rest : IsLoadable (length l.fn.ram) (drop l.segment-index l.segment-items);
}
