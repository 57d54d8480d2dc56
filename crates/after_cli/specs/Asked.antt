-- What words ask for, and the job of a run.
use Rattle.std.specs.Prelude.{◌≡◌, ◌⊎◌, ℕ, ◌<◌, List, Option, Result, Ok, Err}
use Rattle.after_edge.specs.Files.{Contents}
use Rattle.command_words.specs.declared.fault.WordsFault.{WordsFault}
use Rattle.command_words.specs.Jobs.{RunJob, Run, job_in}
use Rattle.command_words.specs.Jobs as words
use Rattle.refusals.specs.declared.refusal.Refusal.{Refusal}
use Rattle.refusals.specs.declared.refusal.Refusal.TheVariants as refusal
use Rattle.job_model.specs.Job.{Job}
use Rattle.run_inputs.specs.Files.{Names, Comes}
use Rattle.run_inputs.specs.Given.{Given, inputs_in}

-- the files that a run names
abbrev pub names_of : RunJob → Names
names_of run = record { image = run.image; script = run.script; disk = run.disk }

-- the job of a run, of what its files give
abbrev pub job_for : RunJob → Given → Job
job_for run given = record {
  image = given.image;
  script = given.script;
  disk = given.disk;
  ram_kib = run.ram_kib;
  limit = run.limit;
  cap = run.log;
  kinds = run.kinds;
  required = run.required;
}

-- the words ask for this run, on one thread
pub record IsAsked (words : List (List ℕ)) (run : RunJob) : Type 0 where
  pub asked : job_in words ≡ Ok (Run run)
  pub plain : run.threads ≡ 0

-- the words are no job
abbrev pub AreNoJob : List (List ℕ) → Type 0
AreNoJob words = (fault : WordsFault) × (job_in words ≡ Err fault)

-- the words are a job that is not built: one of another command, or with threads
abbrev pub IsMore : Result words.Job WordsFault → Type 0
IsMore (Ok (Run run)) = 0 < run.threads
IsMore (Ok _) = Unit {0}
IsMore (Err fault) = ⊥

abbrev pub AsksForMore : List (List ℕ) → Type 0
AsksForMore words = IsMore (job_in words)

-- the words ask for no run that is built
abbrev pub AskForNoRun : List (List ℕ) → Type 0
AskForNoRun words = AreNoJob words ⊎ AsksForMore words

-- why words ask for no run that is built
abbrev pub IsNoRun : List (List ℕ) → Refusal → Type 0
IsNoRun words (refusal.Words fault) = job_in words ≡ Err fault
IsNoRun words refusal.NotBuilt = AsksForMore words
IsNoRun words (refusal.Inputs fault) = ⊥
IsNoRun words refusal.NoMemory = ⊥

-- the words ask for a run of this job, as far as the files tell what they are
pub record IsRunOf (content : Option Contents) (words : List (List ℕ)) (job : Job) : Type 0 where
  pub run : RunJob
  pub asked : IsAsked words run
  pub given : Given
  pub comes : Comes (inputs_in run.ram_kib) content (names_of run) (Ok given)
  pub is : job ≡ job_for run given
