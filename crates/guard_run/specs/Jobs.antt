-- The job that a run is asked for, and what the run is to come to.
use Rattle.memory_map.specs.declared.TheConstants.{GRAIN, LEAST_RAM_KIB, MOST_DISK_BYTES, MOST_RAM_KIB, MOST_STEPS}
use Rattle.std.specs.Prelude.{◌≡◌, ℕ, ◌*◌, ◌%◌, ◌≤◌, IsTrue, List, length, map, slice_get, Some}
use Rattle.std.specs.List.{AllByRecursion, AllZip, Contains}
use Rattle.run_events.specs.declared.finding.Kind.{Kind}
use Rattle.any_machine.specs.Log.{items}
use Rattle.gate_core.specs.Hub.{is_cap}
use Rattle.machine_model.specs.Board.{AreMarked, IsPlayable}
use Rattle.machine_model.specs.Image.{Image, IsLoadable}
use Rattle.machine_model.specs.Script.{Script}
use Rattle.job_model.specs.Job.{Job, events, finished, first_refused, guest}
use Rattle.turn_run.specs.Course.{Course}
use Rattle.guard_run.specs.declared.job.RunJob.{RunJob}
use Rattle.guard_run.specs.Replicas.{Make}

-- what is asked for, of the guest of this image with this script and this disk file
abbrev pub job_of : RunJob → Image → Script → List ℕ → Job
job_of asked image script disk = record {
  image = image;
  script = script;
  disk = disk;
  ram_kib = asked.ram_kib;
  limit = asked.limit;
  cap = asked.cap;
  kinds = asked.kinds;
  required = asked.required;
}

-- It is within the limits, has an analysis, and requires none but its own; its image was read for its RAM, and its script
-- is one that a board plays.
pub record IsRunnable (job : Job) : Type 0 where
  pub least : LEAST_RAM_KIB ≤ job.ram_kib
  pub most : job.ram_kib ≤ MOST_RAM_KIB
  pub limit : job.limit ≤ MOST_STEPS
  pub cap : IsTrue (is_cap job.cap)
  pub some : 1 ≤ length job.kinds
  pub required : AllByRecursion (Contains job.kinds) job.required
  pub loadable : IsLoadable (1024 * job.ram_kib) job.image.segments
  pub aligned : job.image.entry % GRAIN ≡ 0
  pub playable : IsPlayable job.script
  pub marked : AreMarked job.script.entries
  pub disk : length job.disk ≤ MOST_DISK_BYTES

-- these are the places of some kinds among others
abbrev pub ArePlaces : List Kind → List Kind → List ℕ → Type 0
ArePlaces kinds some places = AllZip (λ kind place. slice_get kinds place ≡ Some kind) some places

-- What the run is to come to, where the replicas with these numbers have to approve: each replica approves up to the first
-- step that its analysis refuses.
abbrev pub course_of : Job → List ℕ → Course
course_of job places = record {
  items = items (finished job);
  cap = job.cap;
  limits = map (first_refused (guest job) (events job) (finished job).steps) job.kinds;
  required = places;
}

-- what the replicas of a job are made of
abbrev pub makes_of : Job → List Make
makes_of job = map (λ kind. record { image = job.image; ram_kib = job.ram_kib; kind = kind }) job.kinds
