-- The run of a job is a run of the hart beside its board, so all holds of it that is said of such runs.
use Rattle.memory_map.specs.declared.TheConstants.{MOST_STEPS}
use Rattle.std.proofs.Common.{◌≡◌, ◌≤◌, List, true, map, refl, arith}
use Rattle.std.specs.List.{AllByRecursion}
use Rattle.list_laws.specs.Prefix.{IsPrefix}
use Rattle.run_events.specs.declared.item.Item.{Item}
use Rattle.run_events.specs.declared.record.Record.{Record}
use Rattle.run_events.specs.Record.{IsRecord, is_ordered}
use Rattle.any_machine.specs.Law.{IsReplayed}
use Rattle.any_machine.specs.Run.{Runs}
use Rattle.any_machine.specs.Log.{bytes_of, items, log, output}
use Rattle.any_machine.specs.Replay.{shown}
use Rattle.any_machine.proofs.BoardRun.{run_from-Runs, steps_within}
use Rattle.any_machine.proofs.Determinism.{prefix_executed, prefix_fits, shown_first, shown_whole}
use Rattle.any_machine.proofs.ItemLaws.{items-log, items-output}
use Rattle.any_machine.proofs.LogLaws.{log_ordered, log_records}
use Rattle.any_machine.proofs.NumberLaws.{TurnsStand, run_stands}
use Rattle.hart_model.specs.Machine.{hart}
use Rattle.hart_model.specs.State.{State}
use Rattle.hart_model.proofs.CountLaws.{hart_counts}
use Rattle.machine_model.specs.Board.{AreMarked, padded, reset_board}
use Rattle.board_model.specs.Guest.{run, started}
use Rattle.board_model.specs.TheBoard.{board}
use Rattle.board_model.proofs.SoundBoard.{Sound, board_is_sound, sound_at_start}
use Rattle.job_model.specs.Job.{Job, events, finished}

-- the hart of a job at step 0
abbrev pub first_state : Job → State
first_state job = started job.image job.ram_kib

-- a run has at most as many steps as its limit
pub job_within : (job : Job) → (finished job).steps ≤ job.limit
unfolding run
job_within job = omega (arith, steps_within hart (board job.script) job.limit 0 (first_state job) (reset_board (padded job.disk)))

-- the records of its items are its log
pub job_items : (job : Job) → map (λ (i : Item). i.item) (items (finished job)) ≡ log (finished job)
job_items job = items-log (finished job)

module _ (job : Job) (marked : AreMarked job.script.entries) where
  pub job_runs : Runs hart (first_state job) (finished job)
  unfolding run
  job_runs =
      run_from-Runs hart (board job.script) (first_state job) (Sound (first_state job)) (board_is_sound job.script (first_state job) marked) job.limit (reset_board (padded job.disk))
      (sound_at_start (first_state job) (padded job.disk))

  -- its events stand at its steps
  pub job_stands : TurnsStand 0 (finished job).turns
  job_stands = run_stands hart (λ (s : State). s.step) hart_counts (first_state job) (finished job) refl job_runs

  -- and the bytes of its items are its output
  pub job_output : bytes_of (items (finished job)) ≡ output (events job)
  job_output = items-output (finished job) job_stands

  pub job_ordered : is_ordered (log (finished job)) ≡ true
  job_ordered = log_ordered hart (first_state job) (finished job) job_runs

  pub job_records : job.limit ≤ MOST_STEPS → AllByRecursion IsRecord (log (finished job))
  job_records few = log_records hart (first_state job) (finished job) job_runs (omega (arith, job_within job, few))

  -- Determinism of the guest: each prefix of its log fits the hart, executes its reach, and shows the run's first events.
  pub job_replayed : (prefix : List Record) → IsPrefix prefix (log (finished job)) → IsReplayed hart (first_state job) (finished job) prefix
  job_replayed prefix is = record {
    fits = prefix_fits hart (first_state job) (finished job) prefix job_runs is;
    executes = prefix_executed hart (first_state job) (finished job) prefix job_runs is;
    shows = shown_first hart (first_state job) (finished job) prefix job_runs is;
  }

  -- The whole log shows all events.
  pub job_shown : shown hart (first_state job) (log (finished job)) ≡ events job
  job_shown = shown_whole hart (first_state job) (finished job) job_runs
