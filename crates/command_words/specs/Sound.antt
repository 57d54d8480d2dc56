-- What holds of every job that words are.
use Rattle.std.specs.Prelude.{ℕ, ◌<◌, ◌≤◌, IsTrue, List, length}
use Rattle.std.specs.Int.{is_power_of_two}
use Rattle.std.specs.List.{All, Contains}
use Rattle.memory_map.specs.declared.TheConstants.{LEAST_RAM_KIB, MOST_RAM_KIB, MOST_STEPS}
use Rattle.run_events.specs.declared.finding.Kind.{Kind}
use Rattle.run_settings.specs.Kinds.{EachOnce}
use Rattle.run_settings.specs.Patterns.{IsPattern}
use Rattle.command_words.specs.Jobs.{Job, Run, Record, Analyze, Show, Load, RunJob}
use Rattle.command_words.specs.declared.value.TheConstants.{LEAST_LOG, MOST_LOG, MOST_THREADS}

-- a number that is within its ends
abbrev pub IsBetween : ℕ → ℕ → ℕ → Type 0
IsBetween least most n = (least ≤ n) × (n ≤ most)

-- how many places a log may have
abbrev pub IsLogSize : ℕ → Type 0
IsLogSize n = IsBetween LEAST_LOG MOST_LOG n × IsTrue (is_power_of_two n)

-- one analysis at least, each once
abbrev pub AreChosen : List Kind → Type 0
AreChosen kinds = (0 < length kinds) × EachOnce kinds

-- the numbers are within their ends, the required analyses are among the chosen ones, and the turns are a pattern for them
pub record IsSoundRun (run : RunJob) : Type 0 where
  pub ram : IsBetween LEAST_RAM_KIB MOST_RAM_KIB run.ram_kib
  pub limit : IsBetween 1 MOST_STEPS run.limit
  pub log : IsLogSize run.log
  pub chosen : AreChosen run.kinds
  pub required : All (Contains run.kinds) run.required
  pub required_once : EachOnce run.required
  pub threads : run.threads ≤ MOST_THREADS
  pub turns : IsPattern (length run.kinds) run.turns

-- the same of every command, by what it has of these
abbrev pub IsSoundJob : Job → Type 0
IsSoundJob (Run run) = IsSoundRun run
IsSoundJob (Record job) =
    IsBetween LEAST_RAM_KIB MOST_RAM_KIB job.ram_kib × IsBetween 1 MOST_STEPS job.limit
IsSoundJob (Analyze job) = AreChosen job.kinds
IsSoundJob (Show log_file) = Unit {0}
IsSoundJob (Load job) = IsBetween 1 100000 job.size × IsLogSize job.log × (job.threads ≤ 8)
