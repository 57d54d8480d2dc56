use Rattle.run_inputs.specs.Read.{bytes_of}
use Rattle.run_inputs.proofs.JudgeLaws.{image_judged, script_judged}
use Rattle.run_inputs.proofs.ScriptPlays.{script_plays, script_marked}
use Rattle.run_inputs.proofs.inputs.judge.Goals as goal

pub returns-in-Err-clause-judged : goal.returns-in-Err-clause-judged
returns-in-Err-clause-judged c = rw c.of_image.ensures (image_judged c.args.ram_kib (bytes_of c.args.bytes) c.in-Err.fault (rw c.deref.ensures.value at c.in-Err.ensures.exact) (rw c.deref.ensures.value at c.in-Err.ensures.memory))

pub returns-in-Err-parse-clause-judged : goal.returns-in-Err-parse-clause-judged
returns-in-Err-parse-clause-judged c =
    rw c.of_script.ensures
    (script_judged c.args.ram_kib (bytes_of c.args.bytes) c.in-Ok.image c.in-Err-parse.fault
    (rw c.deref.ensures.value at c.in-Ok.ensures.exact) (rw c.deref-2.ensures.value at c.in-Err-parse.ensures.exact))

pub returns-clause-playable : goal.returns-clause-playable
returns-clause-playable c = script_plays c.deref-2.result.now c.in-Ok-parse.script c.in-Ok-parse.ensures.found

pub returns-clause-marked : goal.returns-clause-marked
returns-clause-marked c = script_marked c.deref-2.result.now c.in-Ok-parse.script c.in-Ok-parse.ensures.found
