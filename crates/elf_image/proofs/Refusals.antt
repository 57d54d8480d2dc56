-- What a part refuses, the whole refuses.
use Rattle.std.proofs.Common.{◌≡◌, Result, Err}
use Rattle.elf_image.specs.declared.fault.ImageFault.{ImageFault}
use Rattle.elf_image.specs.declared.fault.ImageFault.TheVariants as fault
use Rattle.format_model.specs.ImageFile as model
use Rattle.elf_image.specs.Reads.{Refuses}

pub refused_by : {X Y : Type 0} (e : ImageFault) (part : Result X model.Fault) (whole : Result Y model.Fault) → ((k : model.Fault) → part ≡ Err k → whole ≡ Err k) → Refuses e part → Refuses e whole
refused_by (fault.Short need) part whole step refused = step (model.Short need) refused
refused_by (fault.NotThis field) part whole step refused = step (model.NotThis field) refused
refused_by fault.BadTable part whole step refused = step model.BadTable refused
refused_by (fault.SegmentShape index) part whole step refused = step (model.SegmentShape index) refused
refused_by (fault.SegmentOutside index) part whole step refused = step (model.SegmentOutside index) refused
refused_by (fault.Overlap first second) part whole step refused = step (model.Overlap first second) refused
refused_by fault.NoSegment part whole step refused = step model.NoSegment refused
refused_by fault.EntryOutside part whole step refused = step model.EntryOutside refused
refused_by fault.NoMemory part whole step refused = tt
