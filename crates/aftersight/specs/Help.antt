-- What the help text has to say: the bounds of each number, what stands where an option is left out, and the statuses.
use Rattle.std.specs.Prelude.{ℕ, Bool, ◌||◌, false, true, IsTrue, nat_eq, List, [], ◌∷◌, ◌++◌, None, codes, decimal}
use Rattle.std.specs.List.{starts_with}
use Rattle.memory_map.specs.declared.TheConstants.{LEAST_RAM_KIB, MOST_RAM_KIB, MOST_STEPS}
use Rattle.run_events.specs.declared.finding.Kind.{Kind}
use Rattle.run_events.specs.declared.record.EndCause.TheVariants.{Power, Limit}
use Rattle.analysis_model.specs.Report.{kind_name}
use Rattle.job_model.specs.Text as job
use Rattle.elf_image.specs.declared.fault.ImageFault.{ImageFault}
use Rattle.in_script.specs.declared.fault.ScriptFault.{ScriptFault}
use Rattle.run_inputs.specs.declared.fault.InputFault.TheVariants as input
use Rattle.command_words.specs.declared.fault.WordsFault.{WordsFault}
use Rattle.command_words.specs.declared.value.TheConstants.{LEAST_LOG, MOST_LOG, MOST_THREADS}
use Rattle.command_words.specs.Jobs.{Values, chosen, log, ram, steps, threads}
use Rattle.refusals.specs.declared.refusal.Refusal.TheVariants.{Words, NotBuilt, Inputs, NoMemory}
use Rattle.refusals.specs.Status as refusal

-- a text has this part somewhere
abbrev pub has_part : List ℕ → List ℕ → Bool
has_part part [] = starts_with nat_eq [] part
has_part part (b ∷ bs) = starts_with nat_eq (b ∷ bs) part || has_part part bs

abbrev pub Says : List ℕ → List ℕ → Type 0
Says text part = IsTrue (has_part part text)

-- a command line without options
abbrev pub no_options : Values
no_options setting = None

-- two bounds, and what stands without the option
abbrev pub bounds_text : ℕ → ℕ → ℕ → List ℕ
bounds_text least most usual =
    decimal least ++ codes " to " ++ decimal most ++ codes "; " ++ decimal usual
    ++ codes " without it\n"

-- names that are parted by commas
abbrev pub names_text : List Kind → List ℕ
names_text [] = []
names_text (kind ∷ []) = kind_name kind
names_text (kind ∷ kinds) = kind_name kind ++ codes "," ++ names_text kinds

-- the bounds that the words of a command line are held against
pub record SaysTheBounds (text : List ℕ) : Type 0 where
  pub ram : Says text (codes "--ram KIB        "
      ++ bounds_text LEAST_RAM_KIB MOST_RAM_KIB (ram no_options))
  pub steps : Says text (codes "the most steps, " ++ bounds_text 1 MOST_STEPS (steps no_options))
  pub log : Says text (codes "a power of two from\n                   "
      ++ bounds_text LEAST_LOG MOST_LOG (log no_options))
  pub threads : Says text (codes "--threads COUNT  0 to " ++ decimal MOST_THREADS
      ++ codes ", of which 0 is built; " ++ decimal (threads no_options) ++ codes " without it\n")
  pub analyses : Says text (names_text (chosen no_options)
      ++ codes "\n                   without it\n")

-- a status and what it stands for
abbrev pub SaysStatus : List ℕ → ℕ → List ℕ → Type 0
SaysStatus text status meaning = Says text (codes " " ++ decimal status ++ codes " " ++ meaning)

-- the statuses that runs and refusals end with; 6 is that of an output that was cut off
pub record SaysTheStatuses (text : List ℕ) : Type 0 where
  pub done : SaysStatus text (job.status_of (Power 0) false) (codes "done")
  pub finding : SaysStatus text (job.status_of (Power 0) true) (codes "a finding")
  pub limit : SaysStatus text (job.status_of Limit false) (codes "the step limit")
  pub words : (fault : WordsFault) →
      SaysStatus text (refusal.status_of (Words fault)) (codes "wrong words")
  pub image : (fault : ImageFault) →
      SaysStatus text (refusal.status_of (Inputs (input.Image fault))) (codes "image or disk refused")
  pub script : (fault : ScriptFault) →
      SaysStatus text (refusal.status_of (Inputs (input.Script fault))) (codes "script refused")
  pub files : Says text
      (codes "\n" ++ decimal (refusal.status_of (Inputs input.Files)) ++ codes " files failed")
  pub output : SaysStatus text 6 (codes "output failed")
  pub memory : SaysStatus text (refusal.status_of NoMemory) (codes "no memory")
  pub not_built : SaysStatus text (refusal.status_of NotBuilt) (codes "not built")
