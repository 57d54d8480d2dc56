-- The definitions, computed on small guests at a RAM of one KiB. What they give was worked out by hand from the manual.
use Rattle.std.proofs.Common.{◌≡◌, ℕ, List, [], ◌∷◌, refl, codes}
use Rattle.std.specs.Fmt.{digits}
use Rattle.memory_map.specs.Device.{is_device}
use Rattle.run_events.specs.declared.finding.Kind.TheVariants.{Cover}
use Rattle.rv_csr.specs.Table
use Rattle.rv_decode.specs.Listing
use Rattle.any_machine.specs.Run.{run_from}
use Rattle.hart_model.specs.Machine.{hart}
use Rattle.hart_model.specs.Step.{cpu, outcome, step_by}
use Rattle.machine_model.specs.Image.{flat_image, ram_at_start}
use Rattle.machine_model.specs.Script.{no_script}
use Rattle.analysis_model.specs.Report.{title_line, steps_line, end_line, output_line, records_line, head_text, kind_name, finding_name, step_text, findings_line, pcs_line, range_line, finding_line, ranges_text}
use Rattle.board_model.specs.Guest.{run}
use Rattle.board_model.specs.TheBoard.{board}
use Rattle.job_model.specs.Job.{Job}
use Rattle.job_model.specs.Text.{text, status}

-- a flat file of five instructions that writes H and powers off
hello : List ℕ
hello = 0x37 ∷ 0x05 ∷ 0x00 ∷ 0x10 ∷ 0x93 ∷ 0x05 ∷ 0x80 ∷ 0x04 ∷ 0x23 ∷ 0x00 ∷ 0xB5 ∷ 0x00 ∷ 0x37 ∷ 0x06 ∷ 0x10 ∷ 0x10 ∷ 0x23 ∷ 0x20 ∷ 0x06 ∷ 0x00 ∷ []

cover_job : List ℕ → ℕ → Job
cover_job file limit =
    record { image = flat_image file; script = no_script; disk = []; ram_kib = 1; limit = limit; cap = 16; kinds = Cover ∷ []; required = Cover ∷ [] }

hello_text : text (cover_job hello 20) ≡ codes "H\n== aftersight report\nsteps 5\nend power 0\noutput 1 released 1\nrecords 2\ncover findings 0 first none\ncover pcs 5 ranges 1\ncover range 80000000 80000014\n"
unfolding cover_job hello run board run_from hart cpu outcome step_by ram_at_start Listing.instruction Listing.rows Table.read Table.written Table.rows is_device title_line steps_line end_line output_line records_line head_text kind_name finding_name step_text findings_line pcs_line range_line finding_line ranges_text digits
hello_text = refl

hello_status : status (cover_job hello 20) ≡ 0
unfolding cover_job hello run board run_from hart cpu outcome step_by ram_at_start Listing.instruction Listing.rows Table.read Table.written Table.rows is_device
hello_status = refl

-- no code: each step traps outside it, up to the limit
nothing_text : text (cover_job [] 3) ≡ codes "\n== aftersight report\nsteps 3\nend limit\noutput 0 released 0\nrecords 1\ncover findings 3 first 0\ncover pcs 0 ranges 0\ncover outside at 0 pc 80000000 addr 80000000\ncover outside at 1 pc 00000000 addr 00000000\ncover outside at 2 pc 00000000 addr 00000000\n"
unfolding cover_job run board run_from hart cpu outcome step_by ram_at_start Listing.instruction Listing.rows Table.read Table.written Table.rows is_device title_line steps_line end_line output_line records_line head_text kind_name finding_name step_text findings_line pcs_line range_line finding_line ranges_text digits
nothing_text = refl

nothing_status : status (cover_job [] 3) ≡ 1
unfolding cover_job run board run_from hart cpu outcome step_by ram_at_start Listing.instruction Listing.rows Table.read Table.written Table.rows is_device
nothing_status = refl
