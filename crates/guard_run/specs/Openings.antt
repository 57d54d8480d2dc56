-- The run of a job before its first turn, and where its turns lead.
use Rattle.std.specs.Prelude.{◌≡◌, ℕ, List, length, map, take}
use Rattle.after_edge.specs.Fault.{Rose}
use Rattle.after_edge.specs.Sink.{Telling, Adds, Writes}
use Rattle.any_machine.specs.Log.{before_step, bytes_of, items, bytes_in}
use Rattle.job_model.specs.Job.{Job, finished, released_bytes, stop}
use Rattle.run_settings.specs.declared.letter.Letter.{Letter}
use Rattle.rv_machine.specs.ToCome.{recording}
use Rattle.turn_run.specs.Closings as turns
use Rattle.turn_run.specs.Openings as before
use Rattle.turn_run.specs.Runs.{HasFailed}
use Rattle.turn_run.specs.Turns as order
use Rattle.guard_run.specs.declared.parts.Parts.{Parts}
use Rattle.guard_run.specs.declared.replica.Replica.{Replica}
use Rattle.guard_run.specs.Jobs.{ArePlaces, IsRunnable, course_of, makes_of}
use Rattle.guard_run.specs.Replicas.{make_now, replicas_follow}

-- the replicas of a run, each at its number
abbrev pub replicas_in : Parts → List Replica
replicas_in parts = before.followers_of parts.run

-- There is a replica for each analysis of a job, which is one that can be run, and those of its required ones have these
-- numbers.
pub record AreReplicas (job : Job) (places : List ℕ) (replicas : List Replica) : Type 0 where
  pub runnable : IsRunnable job
  pub made : map make_now replicas ≡ makes_of job
  pub required : ArePlaces job.kinds job.required places
  pub count : length replicas ≡ length job.kinds

-- before the first turn
pub record IsOpened (job : Job) (parts : Parts) : Type 0 where
  pub places : List ℕ
  pub replicas : AreReplicas job places (replicas_in parts)
  pub opened : before.IsOpened recording replicas_follow (course_of job places) parts.run

-- it is the run of some job
pub record IsOpenedRun (parts : Parts) : Type 0 where
  pub of : Job
  pub opened : IsOpened of parts

-- the log is closed, and each replica has read it to the close
abbrev pub IsReadOut : Parts → Type 0
IsReadOut parts = turns.IsReadOut parts.run

-- the run went to its end: all of its records were appended and taken, and all bytes that are let out were released
pub record IsEnded (job : Job) (parts : Parts) : Type 0 where
  pub places : List ℕ
  pub replicas : AreReplicas job places (replicas_in parts)
  pub ended : turns.IsEnded recording replicas_follow (course_of job places) parts.run

-- A failed put has ended it: so many records were appended when it failed, all of them are taken, and so many bytes went
-- out.
pub record IsStopped (job : Job) (count put : ℕ) (parts : Parts) : Type 0 where
  pub places : List ℕ
  pub replicas : AreReplicas job places (replicas_in parts)
  pub failed : HasFailed (course_of job places) count put
  pub stopped : turns.IsStopped recording replicas_follow (course_of job places) count put parts.run

-- what is let out of the bytes that a job's first so many records let go
abbrev pub released_in : Job → ℕ → List ℕ
released_in job count = bytes_in (before_step (stop job) (bytes_of (take count (items (finished job)))))

-- the bytes that were put are exactly those that are let out
pub record HasEnded {S : Type 0} (job : Job) (parts : Parts) (sink : Telling S) (old new : S) : Type 0 where
  pub ended : IsEnded job parts
  pub put : Writes sink old new (released_bytes job)

-- or the first ones of those that are let out of the records in the log
pub record HasStopped {S : Type 0} (job : Job) (parts : Parts) (sink : Telling S) (old new : S) : Type 0 where
  pub count : ℕ
  pub put : ℕ
  pub stopped : IsStopped job count put parts
  pub added : Adds sink.holds old new (take put (released_in job count))
  pub rose : Rose (sink.faults old) (sink.faults new)

-- the turns of the run were those of this pattern, so many times, and then a last turn of the gate
abbrev pub TakesTurns : {S : Type 0} → Telling S → List Letter → Parts → Parts → S → S → Type 0
TakesTurns sink turns before after old new = order.TakesTurns recording replicas_follow sink turns before.run after.run old new

-- or they were those of the pattern up to a turn of the gate in which a put failed, where the log was closed
abbrev pub StopsBy : {S : Type 0} → Telling S → List Letter → Parts → Parts → S → S → Type 0
StopsBy sink turns before after old new = order.StopsBy recording replicas_follow sink turns before.run after.run old new
