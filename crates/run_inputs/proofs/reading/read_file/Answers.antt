use Rattle.std.proofs.Common.{inl, inr, refl}
use Rattle.run_inputs.proofs.FoundLaws.{long_found}
use Rattle.run_inputs.proofs.reading.read_file.Goals as goal

pub returns-in-Err-TooLong-clause-refused : goal.returns-in-Err-TooLong-clause-refused
returns-in-Err-TooLong-clause-refused g c =
    let cause = rw c.in-Err-TooLong.field-0-is at c.in-Err-TooLong.ensures.cause in
    inr (cause.2, inr (inl (refl, long_found (g.F.Files.content c.args.files.now) c.args.name.now c.args.max cause.1)))
