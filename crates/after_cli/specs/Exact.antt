-- What a call must come to where the files tell what they are, and neither they nor the output fail.
use Rattle.std.specs.Prelude.{◌≡◌, ◌⊎◌, ℕ, nat_lt, MatchBool, List, [], Option, Some, None, IsSome, Result, Ok, Err}
use Rattle.after_edge.specs.Files.{Contents}
use Rattle.after_edge.specs.Sink.{Telling, Writes}
use Rattle.command_words.specs.declared.fault.WordsFault.{WordsFault}
use Rattle.command_words.specs.Jobs.{RunJob, Run, Record, Analyze, Show, Load}
use Rattle.command_words.specs.Jobs as words
use Rattle.job_model.specs.Text.{text, status}
use Rattle.run_inputs.specs.Files.{Names}
use Rattle.run_inputs.specs.Given.{Found, Given, Refusal, Absent, ImageTooLong, ScriptTooLong, DiskTooLong, BadImage, BadScript, inputs_in}
use Rattle.after_cli.specs.declared.top.Outcome.{Outcome}
use Rattle.after_cli.specs.Asked.{job_for, names_of}

-- what stands under the names of a run
abbrev pub disk_in : Contents → Option (List ℕ) → Option (List ℕ)
disk_in files None = Some []
disk_in files (Some name) = files name

abbrev pub found_in : Contents → Names → Found
found_in files names = record {
  image = files names.image;
  script = files names.script;
  disk = disk_in files names.disk;
}

-- the status of files that are not taken
abbrev pub refused_status : Refusal → ℕ
refused_status Absent = 5
refused_status ImageTooLong = 3
refused_status ScriptTooLong = 4
refused_status DiskTooLong = 3
refused_status (BadImage fault) = 3
refused_status (BadScript fault) = 4

module _ {O : Type 0} (out : Telling O) (old new : O) (outcome : Outcome) where
  -- there was no memory, which is told only where the image is there
  abbrev pub LacksMemory : Contents → RunJob → Type 0
  LacksMemory files run = (outcome.status ≡ 9) × IsSome (files run.image)

  -- of a run whose files give this: its whole text and its status, or the status of what refuses them; or no memory
  abbrev pub IsRightBy : Contents → RunJob → Result Given Refusal → Type 0
  IsRightBy files run (Ok given) =
      LacksMemory files run
      ⊎ (Writes out old new (text (job_for run given))
      × (outcome.status ≡ status (job_for run given)))
  IsRightBy files run (Err refusal) =
      LacksMemory files run ⊎ (outcome.status ≡ refused_status refusal)

  abbrev pub IsRightRun : Contents → RunJob → Type 0
  IsRightRun files run =
      MatchBool (nat_lt 0 run.threads) (outcome.status ≡ 10)
      (IsRightBy files run (inputs_in run.ram_kib (found_in files (names_of run))))

  -- of words that are this, over files that are these
  abbrev pub IsRight : Contents → Result words.Job WordsFault → Type 0
  IsRight files (Ok (Run run)) = IsRightRun files run
  IsRight files (Ok (Record job)) = outcome.status ≡ 10
  IsRight files (Ok (Analyze job)) = outcome.status ≡ 10
  IsRight files (Ok (Show job)) = outcome.status ≡ 10
  IsRight files (Ok (Load job)) = outcome.status ≡ 10
  IsRight files (Err fault) = outcome.status ≡ 2
