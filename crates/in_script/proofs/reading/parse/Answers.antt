use Rattle.std.proofs.Common.{arith}
use Rattle.format_model.proofs.ScriptSteps.{few_texts}
use Rattle.format_model.proofs.ScriptParts.{bytes_from}
use Rattle.in_script.proofs.Readings.{found_of, only_of}
use Rattle.in_script.proofs.reading.parse.Goals as goal

pub script_in-requires : goal.script_in-requires
script_in-requires c = omega (arith, c.requires, few_texts c.args.bytes.now)

pub returns-clause-found : goal.returns-clause-found
returns-clause-found c = found_of c.args.bytes.now _ (bytes_from c.args.bytes.now (λ i. omega (arith, c.type_inv.bytes i))) c.script_in.ensures

pub returns-clause-only : goal.returns-clause-only
returns-clause-only c = λ s is. only_of c.args.bytes.now _ s c.script_in.ensures is
