use Rattle.std.proofs.Common.{refl, subst, ◌∙◌, Some}
use Rattle.std.specs.Prelude.{option_copied}
use Rattle.run_inputs.specs.Files.{Names, IsFound, IsDiskFound}
use Rattle.run_inputs.specs.declared.fault.InputFault.TheVariants as fault
use Rattle.run_inputs.specs.Read.{IsFileRefused, IsDiskRefused}
use Rattle.run_inputs.specs.Given.{image_max, script_max}
use Rattle.run_inputs.proofs.BytesLaws.{IsRead, image_refused, script_refused, disk_refused, bytes_come}
use Rattle.run_inputs.proofs.reading.read_bytes.Goals as goal

pub returns-in-Err-clause-cause : goal.returns-in-Err-clause-cause
returns-in-Err-clause-cause g c =
    let names : Names = record { image = c.args.image.now; script = c.args.script.now; disk = option_copied c.args.disk } in
    image_refused (g.F.Files.content c.args.files.now) names (g.F.Files.faults c.args.files.now) (g.F.Files.faults c.read_file.new.files) c.in-Err.fault c.in-Err.ensures.refused

pub returns-in-Err-read_file-clause-cause : goal.returns-in-Err-read_file-clause-cause
returns-in-Err-read_file-clause-cause g c =
    let names : Names = record { image = c.args.image.now; script = c.args.script.now; disk = option_copied c.args.disk } in
    let content = g.F.Files.content c.args.files.now in
    let image : IsRead content names.image image_max c.in-Ok.image.items = record { found = c.in-Ok.ensures.read; within = c.in-Ok.ensures.within } in
    let between = g.F.Files.faults c.read_file.new.files in
    let now = g.F.Files.faults c.read_file-2.new.files in
    let told = c.in-Err-read_file.fault in
    script_refused content names c.in-Ok.image.items image (g.F.Files.faults c.args.files.now) between now told c.in-Ok.ensures.still
    (subst (λ o. IsFileRefused o names.script script_max fault.ScriptTooLong between now told) c.read_file.ensures.same c.in-Err-read_file.ensures.refused)

pub returns-in-Ok-read_disk-clause-ok : goal.returns-in-Ok-read_disk-clause-ok
returns-in-Ok-read_disk-clause-ok g c =
    let names : Names = record { image = c.args.image.now; script = c.args.script.now; disk = option_copied c.args.disk } in
    let content = g.F.Files.content c.args.files.now in
    let image : IsRead content names.image image_max c.in-Ok.image.items = record { found = c.in-Ok.ensures.read; within = c.in-Ok.ensures.within } in
    let script : IsRead content names.script script_max c.in-Ok-read_file.script.items = record { found = subst (λ o. IsFound o names.script (Some c.in-Ok-read_file.script.items)) c.read_file.ensures.same c.in-Ok-read_file.ensures.read; within = c.in-Ok-read_file.ensures.within } in
    bytes_come content names c.in-Ok.image.items image c.in-Ok-read_file.script.items script c.in-Ok-read_disk.disk.items
    (subst (λ o. IsDiskFound o names.disk (Some c.in-Ok-read_disk.disk.items)) (c.read_file-2.ensures.same ∙ c.read_file.ensures.same) c.in-Ok-read_disk.ensures.read) c.in-Ok-read_disk.ensures.within

pub returns-in-Err-read_disk-clause-cause : goal.returns-in-Err-read_disk-clause-cause
returns-in-Err-read_disk-clause-cause g c =
    let names : Names = record { image = c.args.image.now; script = c.args.script.now; disk = option_copied c.args.disk } in
    let content = g.F.Files.content c.args.files.now in
    let same = c.read_file-2.ensures.same ∙ c.read_file.ensures.same in
    let image : IsRead content names.image image_max c.in-Ok.image.items = record { found = c.in-Ok.ensures.read; within = c.in-Ok.ensures.within } in
    let script : IsRead content names.script script_max c.in-Ok-read_file.script.items = record { found = subst (λ o. IsFound o names.script (Some c.in-Ok-read_file.script.items)) c.read_file.ensures.same c.in-Ok-read_file.ensures.read; within = c.in-Ok-read_file.ensures.within } in
    let between = g.F.Files.faults c.read_file-2.new.files in
    let now = g.F.Files.faults c.read_disk.new.files in
    let told = c.in-Err-read_disk.fault in
    disk_refused content names c.in-Ok.image.items image c.in-Ok-read_file.script.items script names.disk (g.F.Files.faults c.args.files.now) between now told refl (c.in-Ok-read_file.ensures.still ∙ c.in-Ok.ensures.still)
    (subst (λ o. IsDiskRefused o names.disk between now told) same c.in-Err-read_disk.ensures.refused)
