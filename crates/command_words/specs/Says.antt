-- What a command says.
use Rattle.std.specs.Prelude.{◌≡◌, option_copied, Result, Ok, Err}
use Rattle.command_words.specs.declared.command.Command.{Command}
use Rattle.command_words.specs.declared.command.Command.TheVariants as command
use Rattle.command_words.specs.declared.command.RunWords.{RunWords}
use Rattle.command_words.specs.declared.command.RecordWords.{RecordWords}
use Rattle.command_words.specs.declared.command.AnalyzeWords.{AnalyzeWords}
use Rattle.command_words.specs.declared.command.LoadWords.{LoadWords}
use Rattle.command_words.specs.declared.fault.WordsFault.{WordsFault}
use Rattle.command_words.specs.Jobs.{Job, Run, Record, Analyze, Show, Load, RunJob, RecordJob, AnalyzeJob, LoadJob}

abbrev pub run_said : RunWords → RunJob
run_said run = record {
  image = run.image.now;
  script = run.script.now;
  disk = option_copied run.disk;
  ram_kib = run.ram_kib;
  limit = run.limit;
  log = run.log;
  kinds = run.kinds;
  required = run.required;
  threads = run.threads;
  turns = run.turns;
}

abbrev pub record_said : RecordWords → RecordJob
record_said words = record {
  image = words.image.now;
  script = words.script.now;
  log_file = words.log_file.now;
  disk = option_copied words.disk;
  ram_kib = words.ram_kib;
  limit = words.limit;
}

abbrev pub analyze_said : AnalyzeWords → AnalyzeJob
analyze_said words = record {
  image = words.image.now;
  log_file = words.log_file.now;
  kinds = words.kinds;
}

abbrev pub load_said : LoadWords → LoadJob
load_said words = record {
  seed = words.seed;
  size = words.size;
  log = words.log;
  threads = words.threads;
}

abbrev pub says : Command → Job
says (command.Run run) = Run (run_said run)
says (command.Record words) = Record (record_said words)
says (command.Analyze words) = Analyze (analyze_said words)
says (command.Show words) = Show words.log_file.now
says (command.Load words) = Load (load_said words)

-- what was answered is what the definition gives
abbrev pub GivesJob : Result Command WordsFault → Result Job WordsFault → Type 0
GivesJob (Ok c) given = given ≡ Ok (says c)
GivesJob (Err fault) given = given ≡ Err fault
