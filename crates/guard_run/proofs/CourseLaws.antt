-- The run of a job is the run of a course, whose replicas say of each prefix of its records what their limits say.
use Rattle.memory_map.specs.declared.TheConstants.{MOST_STEPS}
use Rattle.std.proofs.Common.{◌≡◌, ℕ, zero, suc, ◌+◌, ◌*◌, ◌^◌, ◌<◌, ◌≤◌, List, [], ◌∷◌, length, map, min, take, Option, Some, None, refl, sym, ap, subst, ◌∙◌, arith}
use Rattle.std.specs.Prelude.{IsTrue, slice_get, slice_index}
use Rattle.std.specs.List.{All}
use Rattle.std.proofs.lemmas.List.{length-map}
use Rattle.std.proofs.lemmas.List.Elements.{All-cons, All-from_recursion, All-nil}
use Rattle.std.proofs.lemmas.Option.{slice_get_within}
use Rattle.list_laws.specs.Prefix.{IsPrefix}
use Rattle.list_laws.proofs.PrefixLaws.{take_IsPrefix}
use Rattle.run_events.specs.declared.finding.Kind.{Kind}
use Rattle.run_events.specs.Record.{IsRecord, is_ordered, reach}
use Rattle.any_machine.specs.Log.{before_step, bytes_of, items, log, steps_of, bytes_in}
use Rattle.any_machine.proofs.Determinism.{reach_log}
use Rattle.gate_core.specs.Core.{reached}
use Rattle.gate_core.specs.Hub.{is_cap}
use Rattle.hart_model.specs.Machine.{hart}
use Rattle.output_gate.specs.Gate.{Climbs}
use Rattle.machine_model.specs.Board.{AreMarked}
use Rattle.job_model.specs.Job.{Job, events, finished, first_refused, guest, least_refused, released_bytes, stop}
use Rattle.job_model.proofs.RunLaws.{first_state, job_items, job_ordered, job_output, job_records, job_replayed, job_runs, job_within}
use Rattle.job_model.proofs.VerdictLaws.{Foretells, foretells}
use Rattle.turn_run.specs.Course as course
use Rattle.turn_run.specs.Course.{Agrees, IsCourse, IsMarked, end_of, least_limit, log_of, plan_of, stop_of}
use Rattle.turn_run.specs.Gates.{released_by}
use Rattle.guard_run.specs.Openings.{released_in}
use Rattle.guard_run.specs.Jobs.{ArePlaces, IsRunnable, course_of}
use Rattle.guard_run.specs.Verdicts.{verdict_from, verdict_on}
use Rattle.guard_run.proofs.OutputLaws.{items_climb, items_few, items_marked}

-- the least of what is told of some kinds, and of none this
abbrev least_of : (Kind → ℕ) → ℕ → List Kind → ℕ
least_of f steps [] = steps
least_of f steps (kind ∷ some) = min (f kind) (least_of f steps some)

few_enough : (count steps : ℕ) → count ≤ 131 * steps + 1 → steps ≤ MOST_STEPS → count ≤ 2 ^ 61
few_enough count steps most few = omega (arith, most, few)

-- THE LIMITS OF THE REPLICAS

-- the limit at the place of a kind
limit_at : (f : Kind → ℕ) (kinds : List Kind) (place : ℕ) (kind : Kind) → slice_get kinds place ≡ Some kind → slice_index (map f kinds) place ≡ f kind
limit_at f [] place kind there = absurd (cc)
limit_at f (k ∷ kinds) zero kind there = ap f (cc)
limit_at f (k ∷ kinds) (suc place) kind there = limit_at f kinds place kind there

-- the least of the limits at some places is the least of those of the kinds there
least_at : (f : Kind → ℕ) (kinds some : List Kind) (places : List ℕ) (steps : ℕ) → ArePlaces kinds some places → least_limit (map f kinds) steps places ≡ least_of f steps some
least_at f kinds [] [] steps are = refl
least_at f kinds [] (place ∷ places) steps are = absurd are
least_at f kinds (kind ∷ some) [] steps are = absurd are
least_at f kinds (kind ∷ some) (place ∷ places) steps are = ap (λ n. min n (least_limit (map f kinds) steps places)) (limit_at f kinds place kind are.0) ∙ ap (min (f kind)) (least_at f kinds some places steps are.1)

least_refused-of : (job : Job) (some : List Kind) → least_of (first_refused (guest job) (events job) (finished job).steps) (finished job).steps some ≡ least_refused (guest job) (events job) (finished job).steps some
least_refused-of job [] = refl
least_refused-of job (kind ∷ some) = ap (min (first_refused (guest job) (events job) (finished job).steps kind)) (least_refused-of job some)

pub places_within : (kinds some : List Kind) (places : List ℕ) → ArePlaces kinds some places → All (λ place. place < length kinds) places
places_within kinds [] [] are = All-nil (λ place. place < length kinds)
places_within kinds [] (place ∷ places) are = absurd are
places_within kinds (kind ∷ some) [] are = absurd are
places_within kinds (kind ∷ some) (place ∷ places) are = All-cons (λ place. place < length kinds) place places (slice_get_within kinds place kind are.0) (places_within kinds some places are.1)

-- WHAT A JOB COMES TO

module _ (job : Job) (places : List ℕ) where
  -- its records are the log
  pub course_log : log_of (course_of job places) ≡ log (finished job)
  course_log = job_items job

  pub course_end : end_of (course_of job places) ≡ (finished job).steps
  course_end = ap reach course_log ∙ reach_log (finished job)

  -- the gate stops where the job does
  pub course_stop : ArePlaces job.kinds job.required places → stop_of (course_of job places) ≡ stop job
  course_stop are =
      ap (λ end. least_limit (map (first_refused (guest job) (events job) (finished job).steps) job.kinds) end places) course_end
      ∙ least_at (first_refused (guest job) (events job) (finished job).steps) job.kinds job.required places (finished job).steps are ∙ least_refused-of job job.required

  -- and lets out what the job does
  pub course_released : AreMarked job.script.entries → ArePlaces job.kinds job.required places → course.released_bytes (course_of job places) ≡ released_bytes job
  course_released marked are =
      ap (λ n. bytes_in (before_step n (bytes_of (items (finished job))))) (course_stop are) ∙ ap (λ sent. bytes_in (before_step (stop job) sent)) (job_output job marked)

  -- also of its first records
  pub course_let_out : ArePlaces job.kinds job.required places → (count : ℕ) → released_by (course_of job places) count ≡ released_in job count
  course_let_out are count = ap (λ n. bytes_in (before_step n (bytes_of (take count (items (finished job)))))) (course_stop are)

  some_places : (cap : ℕ) → IsTrue (is_cap cap) → 1 ≤ cap
  some_places zero is = absurd (cc)
  some_places (suc cap) is = omega arith

  pub is_course : IsRunnable job → length job.kinds ≤ 8 → ArePlaces job.kinds job.required places → IsCourse (course_of job places)
  is_course run few are =
      let marked = run.marked in
      let runs = job_runs job marked in
      let within = job_within job in
      let limits : length (map (first_refused (guest job) (events job) (finished job).steps) job.kinds) ≡ length job.kinds = length-map job.kinds (first_refused (guest job) (events job) (finished job).steps) in
      record {
        ordered = ap is_ordered course_log ∙ job_ordered job marked;
        records = subst (All IsRecord) (sym course_log) (All-from_recursion IsRecord (log (finished job)) (job_records job marked run.limit));
        marked = All-from_recursion IsMarked (items (finished job)) (items_marked (finished job) (omega (arith, runs.counted, within, run.limit)));
        climbs = let same : length (finished job).turns ≡ end_of (course_of job places) = omega (arith, runs.counted, course_end) in subst (Climbs 0 (steps_of (bytes_of (items (finished job))))) same (items_climb (finished job));
        within = omega (arith, course_end, within, run.limit);
        short = few_enough (length (items (finished job))) (finished job).steps (items_few hart (first_state job) (finished job) runs) (omega (arith, within, run.limit));
        cap = some_places job.cap run.cap;
        readers = omega (arith, limits, few);
        required = subst (λ n. All (λ place. place < n) places) (sym limits) (places_within job.kinds job.required places are);
      }

  -- WHAT A REPLICA SAYS OF A PREFIX

  module _ (marked : AreMarked job.script.entries) (reader : ℕ) (kind : Kind) (there : slice_get job.kinds reader ≡ Some kind) where
    limit : slice_index (course_of job places).limits reader ≡ first_refused (guest job) (events job) (finished job).steps kind
    limit = limit_at (first_refused (guest job) (events job) (finished job).steps) job.kinds reader kind there

    agrees_by : (first : Option ℕ) (come limit' count : ℕ) → Foretells first come limit' → slice_index (course_of job places).limits reader ≡ limit' → reached (plan_of (course_of job places)) count ≡ come → Agrees (course_of job places) reader count (verdict_from first come)
    agrees_by (Some step) come limit' count tells limit_is come_is =
        let found = tells.found step refl in
        record { approved = omega (arith, found.0, found.1, limit_is, come_is); refused = λ yes. omega (arith, found.0, found.1, limit_is, come_is); passed = λ no. absurd (cc) }
    agrees_by None come limit' count tells limit_is come_is =
        let none = tells.none refl in
        record { approved = omega (arith, none, limit_is, come_is); refused = λ yes. absurd (cc); passed = λ no. omega (arith, none, limit_is, come_is) }

    -- it agrees with its limit
    pub agrees : (count : ℕ) → Agrees (course_of job places) reader count (verdict_on job.image job.ram_kib kind (take count (log_of (course_of job places))))
    agrees count =
        let prefix = take count (log (finished job)) in
        let is : IsPrefix prefix (log (finished job)) = take_IsPrefix count (log (finished job)) in
        let comes : reached (plan_of (course_of job places)) count ≡ reach prefix = ap (λ l. reach (take count l)) course_log in
        subst (λ l. Agrees (course_of job places) reader count (verdict_on job.image job.ram_kib kind (take count l))) (sym course_log)
        (agrees_by _ _ _ count (foretells job marked prefix is kind) limit (comes ∙ sym (job_replayed job marked prefix is).executes))
