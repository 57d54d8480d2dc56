use Rattle.std.proofs.Common.{arith}
use Rattle.elf_image.proofs.Fits.{fits_of}
use Rattle.elf_image.proofs.reading.read.Goals as goal

pub returns-clause-fits : goal.returns-clause-fits
returns-clause-fits c = fits_of c.args.ram_kib c.args.bytes.now _ (omega (arith, c.requires.least)) c.image_in.ensures.exact
