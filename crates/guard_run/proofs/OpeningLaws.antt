-- The replicas of a run as it is opened, and how they go on.
use Rattle.std.proofs.Common.{◌≡◌, ℕ, ◌≤◌, List, length, take, Some, refl, sym, ap, subst, ◌∙◌, arith}
use Rattle.std.specs.Prelude.{slice_get}
use Rattle.std.proofs.lemmas.List.{length-map}
use Rattle.run_events.specs.declared.finding.Kind.{Kind}
use Rattle.any_machine.specs.Log.{items}
use Rattle.job_model.specs.Job.{Job, events, finished, first_refused, guest}
use Rattle.machine_model.specs.Board.{AreMarked}
use Rattle.rv_machine.specs.ToCome.{recording}
use Rattle.rv_machine.specs.declared.machine.Machine.{Machine}
use Rattle.turn_run.specs.Course.{Agrees, log_of}
use Rattle.turn_run.specs.Following.{AreSame}
use Rattle.turn_run.specs.Openings.{IsCourseOf}
use Rattle.turn_run.specs.Replicas.{IsFollower}
use Rattle.guard_run.specs.declared.replica.Replica.{Replica}
use Rattle.guard_run.specs.Jobs.{ArePlaces, IsRunnable, course_of}
use Rattle.guard_run.specs.Openings.{AreReplicas}
use Rattle.guard_run.specs.Replicas.{AreFresh, IsFresh, Make, make_now, replicas_follow}
use Rattle.guard_run.specs.Verdicts.{verdict_on}
use Rattle.guard_run.proofs.CourseLaws.{agrees, is_course}
use Rattle.guard_run.proofs.ZipLaws.{zip_at, zip_length, zip_map}

-- the replicas that were made for a job
pub are_replicas : (job : Job) (places : List ℕ) (replicas : List Replica) → IsRunnable job → ArePlaces job.kinds job.required places → AreFresh job.image job.ram_kib job.kinds replicas → AreReplicas job places replicas
are_replicas job places replicas run are fresh = record {
  runnable = run;
  made = zip_map (IsFresh job.image job.ram_kib) (λ kind. let m : Make = record { image = job.image; ram_kib = job.ram_kib; kind = kind } in m) make_now (λ kind replica is. is.made) job.kinds replicas fresh;
  required = are;
  count = zip_length (IsFresh job.image job.ram_kib) job.kinds replicas fresh;
}

-- stay its replicas, whatever they take
pub still_replicas : (job : Job) (places : List ℕ) (old new' : List Replica) → AreReplicas job places old → AreSame replicas_follow old new' → AreReplicas job places new'
still_replicas job places old new' are same = record {
  runnable = are.runnable;
  made = same ∙ are.made;
  required = are.required;
  count = omega (arith, length-map old make_now, length-map new' make_now, ap length same, are.count);
}

-- a fresh one follows the job's course
follows : (job : Job) (places : List ℕ) (marked : AreMarked job.script.entries) (reader : ℕ) (kind : Kind) (replica : Replica) → slice_get job.kinds reader ≡ Some kind → IsFresh job.image job.ram_kib kind replica
    → IsFollower replicas_follow (course_of job places) reader 0 replica
follows job places marked reader kind replica there is = record {
  taken = is.taken;
  agrees = λ n le.
      subst (λ (m : Make). Agrees (course_of job places) reader n (verdict_on m.image m.ram_kib m.kind (take n (log_of (course_of job places))))) (sym is.made) (agrees job places marked reader kind there n);
}

pub course_is : (job : Job) (places : List ℕ) (replicas : List Replica) (machine : Machine) → IsRunnable job → length job.kinds ≤ 5 → ArePlaces job.kinds job.required places → AreFresh job.image job.ram_kib job.kinds replicas
    → recording.to_come machine (items (finished job)) → IsCourseOf recording replicas_follow (course_of job places) machine replicas places job.cap
course_is job places replicas machine run few are fresh to_come = record {
  course = is_course job places run (omega (arith, few)) are;
  to_come = to_come;
  cap = refl;
  required = refl;
  count = omega (arith, zip_length (IsFresh job.image job.ram_kib) job.kinds replicas fresh, length-map job.kinds (first_refused (guest job) (events job) (finished job).steps));
  each = λ reader replica there. (
      let beside = zip_at (IsFresh job.image job.ram_kib) job.kinds replicas reader replica fresh there in
      follows job places run.marked reader beside.x replica beside.there beside.is);
}
