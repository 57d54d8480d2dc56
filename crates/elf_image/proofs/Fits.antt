-- An image that was read fits the RAM that it was read for.
use Rattle.std.proofs.Common.{ℕ, ◌*◌, ◌<◌, List, Result, Ok, Err, IfOk}
use Rattle.elf_image.specs.declared.fault.ImageFault.{ImageFault}
use Rattle.elf_image.specs.Reads.{Gives}
use Rattle.machine_model.specs.Image.{Image}
use Rattle.format_model.specs.ImageFile.{image_in, ImageFits}
use Rattle.format_model.proofs.ImageLaws.{read_fits}

pub fits_of : (ram_kib : ℕ) (file : List ℕ) (r : Result Image ImageFault) → 0 < ram_kib → Gives (λ i. i) r (image_in ram_kib file) → IfOk r (λ i. ImageFits (1024 * ram_kib) i)
fits_of ram_kib file (Ok image) some given = read_fits ram_kib file image some given
fits_of ram_kib file (Err e) some given = tt
