use Rattle.std.proofs.Common.{arith}
use Rattle.std.specs.Prelude.{count_ones}
use Rattle.std.specs.List.{Contains}
use Rattle.std.proofs.lemmas.Bool.{eqb-true}
use Rattle.std.proofs.lemmas.List.Elements.{recursion_from_All}
use Rattle.command_words.specs.Sound.{IsSoundRun}
use Rattle.command_words.specs.Says.{run_said}
use Rattle.after_cli.proofs.LogSizes.{cap_from_size}
use Rattle.after_cli.proofs.top.run_asked.Goals as goal

pub run_job-requires-clause-runnable : goal.run_job-requires-clause-runnable
run_job-requires-clause-runnable g c =
    let run = run_said c.args.run.now in
    let asked : IsSoundRun run = c.requires.asked in
    record {
      least = asked.ram.0;
      most = asked.ram.1;
      limit = asked.limit.1;
      cap = cap_from_size run.log asked.log.0.0 asked.log.0.1 (eqb-true (count_ones run.log) 1 asked.log.1);
      some = omega (arith, asked.chosen.0);
      required = recursion_from_All (Contains run.kinds) run.required asked.required;
      loadable = c.requires.fits.loadable;
      aligned = c.requires.fits.aligned;
      playable = c.requires.playable;
      marked = c.requires.marked;
      disk = omega (arith, c.requires.disk);
    }
