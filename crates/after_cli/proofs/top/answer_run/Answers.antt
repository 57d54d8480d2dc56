use Rattle.command_words.specs.Says.{run_said}
use Rattle.run_inputs.specs.Read.{given_by}
use Rattle.after_cli.proofs.AnswerLaws.{means_end, means_no_memory}
use Rattle.after_cli.proofs.top.answer_run.Goals as goal

pub returns-in-Ok-run_asked-clause-means : goal.returns-in-Ok-run_asked-clause-means
returns-in-Ok-run_asked-clause-means g c = λ words asked.
    means_end (g.F.Files.content c.args.files.now) words (g.F.Files.faults c.args.files.now) (g.F.Files.faults c.read_inputs.new.files) g.O.Sink.told c.args.out.now c.run_asked.new.out (run_said c.args.run.now) (given_by c.in-Ok.inputs)
    asked c.in-Ok.ensures.ok c.in-Ok.ensures.still c.in-Ok-run_asked.end c.in-Ok-run_asked.ensures

pub returns-in-Err-run_asked-clause-means : goal.returns-in-Err-run_asked-clause-means
returns-in-Err-run_asked-clause-means g c = λ words asked.
    means_no_memory (g.F.Files.content c.args.files.now) words (g.F.Files.faults c.args.files.now) (g.F.Files.faults c.read_inputs.new.files) g.O.Sink.told c.args.out.now c.run_asked.new.out (run_said c.args.run.now) (given_by c.in-Ok.inputs)
    asked c.in-Ok.ensures.ok c.in-Ok.ensures.still c.in-Err-run_asked.ensures
