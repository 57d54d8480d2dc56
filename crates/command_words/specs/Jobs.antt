-- Which words are which command.
use Rattle.std.specs.Prelude.{ℕ, Bool, false, not, ◌||◌, nat_lt, if◌then◌else◌, List, [], ◌∷◌, length, slice_index_or, Option, Some, None, unwrap_or, option_map, Result, Ok, Err}
use Rattle.std.specs.List.{list_all}
use Rattle.std.specs.Option.{option_map_or}
use Rattle.run_events.specs.declared.finding.Kind.{Kind}
use Rattle.run_settings.specs.declared.letter.Letter.{Letter}
use Rattle.run_settings.specs.Kinds.{has_kind}
use Rattle.run_settings.specs.Patterns.{is_pattern, plain_turns}
use Rattle.command_words.specs.declared.fault.WordsFault.{WordsFault}
use Rattle.command_words.specs.declared.fault.WordsFault.TheVariants.{Word, Missing}
use Rattle.command_words.specs.declared.table.CommandName.{CommandName}
use Rattle.command_words.specs.declared.table.CommandName.TheVariants as command
use Rattle.command_words.specs.declared.table.Setting.{Setting}
use Rattle.command_words.specs.declared.table.Setting.TheVariants.{Disk, Mode, With, Require, Ram, Steps, Log, Threads, Turns}
use Rattle.command_words.specs.Table.{command_named, plain_count}
use Rattle.command_words.specs.Values.{best_in, kinds, kinds_in, log_in, ram_in, required_in, seed_in, size_in, steps_in, threads_in, turns_in}
use Rattle.command_words.specs.Roles.{Role, ends_open, first_bad, found, plain_words, roles}

-- a run: its files, how large it is, its analyses, and how it goes on
pub record RunJob : Type 0 where
  pub image : List ℕ
  pub script : List ℕ
  pub disk : Option (List ℕ)
  pub ram_kib : ℕ
  pub limit : ℕ
  pub log : ℕ
  pub kinds : List Kind
  pub required : List Kind
  pub threads : ℕ
  pub turns : List Letter

-- a run that is recorded
pub record RecordJob : Type 0 where
  pub image : List ℕ
  pub script : List ℕ
  pub log_file : List ℕ
  pub disk : Option (List ℕ)
  pub ram_kib : ℕ
  pub limit : ℕ

-- analyses of a recorded run
pub record AnalyzeJob : Type 0 where
  pub image : List ℕ
  pub log_file : List ℕ
  pub kinds : List Kind

-- a run of a guest that is made from a number
pub record LoadJob : Type 0 where
  pub seed : ℕ
  pub size : ℕ
  pub log : ℕ
  pub threads : ℕ

pub data Job : Type 0 where
  Run : RunJob → Job
  Record : RecordJob → Job
  Analyze : AnalyzeJob → Job
  Show : List ℕ → Job
  Load : LoadJob → Job

-- the values of options, each with the number of its word
abbrev pub Values : Type 0
Values = Setting → Option (List ℕ × ℕ)

-- what is read of a value, or what stands where there is none
abbrev pub value_or : {A : Type 0} → A → (List ℕ → Option A) → Option (List ℕ × ℕ) → A
value_or default read None = default
value_or default read (Some given) = unwrap_or (read given.0) default

abbrev pub is_best : Values → Bool
is_best values = value_or false best_in (values Mode)

abbrev pub chosen : Values → List Kind
chosen values = value_or kinds kinds_in (values With)

-- the analyses that are named as required, or all
abbrev pub named_required : Values → List Kind
named_required values = value_or (chosen values) required_in (values Require)

-- none is required in best-effort mode
abbrev pub required : Values → List Kind
required values = if is_best values then [] else named_required values

abbrev pub threads : Values → ℕ
threads values = value_or 0 threads_in (values Threads)

abbrev pub turns : Values → List Letter
turns values = value_or (plain_turns (length (chosen values))) turns_in (values Turns)

abbrev pub ram : Values → ℕ
ram values = value_or 1024 ram_in (values Ram)

abbrev pub steps : Values → ℕ
steps values = value_or 10000000 steps_in (values Steps)

abbrev pub log : Values → ℕ
log values = value_or 1024 log_in (values Log)

abbrev pub disk : Values → Option (List ℕ)
disk values = option_map (λ given. given.0) (values Disk)

-- the number of a word, where it stands and does not go with the others
abbrev pub word_if : Bool → Option (List ℕ × ℕ) → Option ℕ
word_if crossed None = None
word_if crossed (Some given) = if crossed then Some given.1 else None

-- required analyses are named in best-effort mode, or one of them is not chosen
unfoldable pub crossed_required : Values → Bool
crossed_required values =
    is_best values || not (list_all (has_kind (chosen values)) (named_required values))

-- turns are given for threads, or they are no pattern for the chosen analyses
unfoldable pub crossed_turns : Values → Bool
crossed_turns values =
    nat_lt 0 (threads values) || not (is_pattern (length (chosen values)) (turns values))

abbrev pub run_job : Values → List (List ℕ) → RunJob
run_job values words = record {
  image = slice_index_or words 0 [];
  script = slice_index_or words 1 [];
  disk = disk values;
  ram_kib = ram values;
  limit = steps values;
  log = log values;
  kinds = chosen values;
  required = required values;
  threads = threads values;
  turns = turns values;
}

-- the job of a run, or the first of its words that do not go together
unfoldable pub run_of : Values → List (List ℕ) → Result Job WordsFault
run_of values words =
    option_map_or (λ n. Err (Word n)) (word_if (crossed_required values) (values Require))
    (option_map_or (λ n. Err (Word n)) (word_if (crossed_turns values) (values Turns))
    (Ok (Run (run_job values words))))

abbrev pub record_job : Values → List (List ℕ) → RecordJob
record_job values words = record {
  image = slice_index_or words 0 [];
  script = slice_index_or words 1 [];
  log_file = slice_index_or words 2 [];
  disk = disk values;
  ram_kib = ram values;
  limit = steps values;
}

abbrev pub analyze_job : Values → List (List ℕ) → AnalyzeJob
analyze_job values words = record {
  image = slice_index_or words 0 [];
  log_file = slice_index_or words 1 [];
  kinds = chosen values;
}

abbrev pub load_job : Values → List (List ℕ) → LoadJob
load_job values words = record {
  seed = unwrap_or (seed_in (slice_index_or words 0 [])) 0;
  size = unwrap_or (size_in (slice_index_or words 1 [])) 1;
  log = log values;
  threads = threads values;
}

-- the job of a command, from the values of its options and its plain words
unfoldable pub job_of : CommandName → Values → List (List ℕ) → Result Job WordsFault
job_of command.Run values words = run_of values words
job_of command.Record values words = Ok (Record (record_job values words))
job_of command.Analyze values words = Ok (Analyze (analyze_job values words))
job_of command.Show values words = Ok (Show (slice_index_or words 0 []))
job_of command.Load values words = Ok (Load (load_job values words))

-- whether a plain word, or the value of an option, is missing
abbrev pub is_short : CommandName → List Role → Bool
is_short command words =
    ends_open false words || nat_lt (length (plain_words words)) (plain_count command)

-- a bad word is named first, then what is missing
unfoldable pub read_as : CommandName → List Role → Result Job WordsFault
read_as command words =
    option_map_or (λ n. Err (Word n)) (first_bad command [] words)
    (if is_short command words then Err Missing
    else job_of command (found words) (plain_words words))

-- the job of words, or what is wrong with them
unfoldable pub job_in : List (List ℕ) → Result Job WordsFault
job_in [] = Err Missing
job_in (word ∷ words) =
    option_map_or (λ command. read_as command (roles 2 None words)) (command_named word)
    (Err (Word 1))

-- the first bad word of these, before anything that may be missing
unfoldable pub first_bad_in : List (List ℕ) → Option ℕ
first_bad_in [] = None
first_bad_in (word ∷ words) =
    option_map_or (λ command. first_bad command [] (roles 2 None words)) (command_named word)
    (Some 1)
