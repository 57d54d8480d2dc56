use Rattle.std.specs.Prelude.{option_copied}
use Rattle.run_inputs.specs.Files.{Names}
use Rattle.run_inputs.specs.Read.{bytes_of}
use Rattle.run_inputs.proofs.BytesLaws.{are_short}
use Rattle.run_inputs.proofs.JudgeLaws.{read_refused, judged_ok, judged_err, short_disk}
use Rattle.run_inputs.proofs.inputs.read_inputs.Goals as goal

pub returns-in-Err-clause-cause : goal.returns-in-Err-clause-cause
returns-in-Err-clause-cause g c =
    let names : Names = record { image = c.args.image.now; script = c.args.script.now; disk = option_copied c.args.disk } in
    read_refused c.args.ram_kib (g.F.Files.content c.args.files.now) names (g.F.Files.faults c.args.files.now) (g.F.Files.faults c.read_bytes.new.files) c.in-Err.fault c.in-Err.ensures.cause

pub judge-requires-clause-short : goal.judge-requires-clause-short
judge-requires-clause-short g c = (are_short (g.F.Files.content c.args.files.now) _ (bytes_of c.in-Ok.bytes) c.in-Ok.ensures.ok).script

pub returns-clause-ok : goal.returns-clause-ok
returns-clause-ok g c =
    let names : Names = record { image = c.args.image.now; script = c.args.script.now; disk = option_copied c.args.disk } in
    judged_ok c.args.ram_kib (g.F.Files.content c.args.files.now) names (bytes_of c.in-Ok.bytes) c.in-Ok.ensures.ok c.judge.result c.judge.ensures.judged

pub returns-clause-cause : goal.returns-clause-cause
returns-clause-cause g c =
    let names : Names = record { image = c.args.image.now; script = c.args.script.now; disk = option_copied c.args.disk } in
    judged_err c.args.ram_kib (g.F.Files.content c.args.files.now) names (bytes_of c.in-Ok.bytes) c.in-Ok.ensures.ok (g.F.Files.faults c.args.files.now) (g.F.Files.faults c.read_bytes.new.files) c.judge.result c.in-Ok.ensures.still c.judge.ensures.judged

pub returns-clause-disk : goal.returns-clause-disk
returns-clause-disk g c =
    short_disk c.judge.result (bytes_of c.in-Ok.bytes) c.judge.ensures.disk (are_short (g.F.Files.content c.args.files.now) _ (bytes_of c.in-Ok.bytes) c.in-Ok.ensures.ok)
