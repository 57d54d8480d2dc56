-- What stands when the run of a job is over.
use Rattle.std.specs.Prelude.{◌≡◌, ℕ, ◌≤◌, ◌<◌, Bool, true, List, [], ◌++◌, length, reverse, take, slice_get, Option, Some, option_map}
use Rattle.circular_buffer.specs.Buffer.{keep_last}
use Rattle.run_events.specs.declared.event.Event.{Event}
use Rattle.run_events.specs.declared.finding.Kind.{Kind}
use Rattle.run_events.specs.declared.record.Record.{Record}
use Rattle.run_events.specs.Record.{dmas_at, reach}
use Rattle.any_machine.specs.Log.{bytes_of, items, log}
use Rattle.any_machine.specs.Run.{events_before, words_before}
use Rattle.analysis_model.specs.declared.facts.RunFacts.{RunFacts}
use Rattle.analysis_model.specs.Made.{make_of}
use Rattle.gate_core.specs.declared.verdict.Verdict.{Verdict}
use Rattle.job_model.specs.Job.{Job, events, finished}
use Rattle.job_model.specs.Text.{facts}
use Rattle.analysis_set.specs.declared.any_analysis.AnyAnalysis.{AnyAnalysis}
use Rattle.analysis_set.specs.Analysis.{HasSeen, kib_of, made_of}
use Rattle.turn_run.specs.declared.ending.Ending.{Ending}
use Rattle.turn_run.specs.Closings as turns
use Rattle.turn_run.specs.Endings.{end_in}
use Rattle.guard_run.specs.declared.closing.Closing.{Closing}
use Rattle.guard_run.specs.declared.replica.Replica.{Replica}
use Rattle.guard_run.specs.Openings.{released_in}
use Rattle.guard_run.specs.Replicas.{HasTaken, analysis_of, make_now}
use Rattle.guard_run.specs.Verdicts.{verdict_on}

-- the log: whether it was closed, how many records were appended, the last ones, and how many records each replica has
-- taken, of how many replicas
abbrev pub is_closed : Closing → Bool
is_closed closing = turns.is_closed closing.over

abbrev pub appended_of : Closing → ℕ
appended_of closing = turns.appended_of closing.over

abbrev pub stored_of : Closing → List Record
stored_of closing = turns.stored_of closing.over

abbrev pub readers_of : Closing → ℕ
readers_of closing = turns.readers_of closing.over

abbrev pub taken_of : Closing → ℕ → ℕ
taken_of closing replica = turns.taken_of closing.over replica

-- the replicas, each at its number, and what each has posted last
abbrev pub replicas_of : Closing → List Replica
replicas_of closing = turns.followers_of closing.over

abbrev pub posted_of : Closing → ℕ → Verdict
posted_of closing replica = turns.posted_of closing.over replica

-- how many bytes were issued to the gate, how many of them went out by puts that did not fail, and the steps of those that
-- it still holds
abbrev pub issued_of : Closing → ℕ
issued_of closing = turns.issued_of closing.over

abbrev pub released_of : Closing → ℕ
released_of closing = turns.released_of closing.over

abbrev pub waiting_of : Closing → List ℕ
waiting_of closing = turns.waiting_of closing.over

-- what the head of the report tells; none where the log has no end
abbrev pub facts_with : Closing → Ending → RunFacts
facts_with closing ending = record {
  steps = ending.steps;
  end = ending.cause;
  issued = issued_of closing;
  released = released_of closing;
  items = appended_of closing;
}

abbrev pub facts_at : Closing → Option RunFacts
facts_at closing = option_map (facts_with closing) (turns.ending_of closing.over)

-- this is the analysis of the replica with this number
pub record IsAnalysisAt (closing : Closing) (number : ℕ) (analysis : AnyAnalysis) : Type 0 where
  pub replica : Replica
  pub there : slice_get (replicas_of closing) number ≡ Some replica
  pub is : analysis ≡ analysis_of replica

-- A replica of a job with an analysis of this kind has taken these records: it replayed them for the job's guest, its
-- analysis stands for these events, which they show, and what it says of them is posted.
pub record HasFollowed (job : Job) (kind : Kind) (items : List Record) (shown : List Event) (replica : Replica) (verdict : Verdict) : Type 0 where
  pub made : make_now replica ≡ record { image = job.image; ram_kib = job.ram_kib; kind = kind }
  pub taken : HasTaken replica items
  pub seen : HasSeen (analysis_of replica) shown
  pub analysis : made_of (analysis_of replica) ≡ make_of kind job.image
  pub size : kib_of (analysis_of replica) ≡ job.ram_kib
  pub posted : verdict ≡ verdict_on job.image job.ram_kib kind items

-- The closing of the run of a job with this list of records as its log: it is closed, the last of them are stored, each
-- replica has taken exactly them and seen these events, and the end that they tell is kept.
pub record Closes (job : Job) (items : List Record) (shown : List Event) (closing : Closing) : Type 0 where
  pub closed : is_closed closing ≡ true
  pub appended : appended_of closing ≡ length items
  pub stored : stored_of closing ≡ keep_last job.cap items
  pub readers : readers_of closing ≡ length job.kinds
  pub taken : (number : ℕ) → number < length job.kinds → taken_of closing number ≡ length items
  pub replicas : length (replicas_of closing) ≡ length job.kinds
  pub each : (number : ℕ) (kind : Kind) (replica : Replica) → slice_get job.kinds number ≡ Some kind → slice_get (replicas_of closing) number ≡ Some replica → HasFollowed job kind items shown replica (posted_of closing number)
  pub ending : turns.ending_of closing.over ≡ end_in items

-- The closing of a run that went to its end: its list is the job's log, each analysis stands for all events, the facts are
-- the job's, and the gate holds no byte.
pub record IsWholeRun (job : Job) (closing : Closing) : Type 0 where
  pub closes : Closes job (log (finished job)) (events job) closing
  pub facts : facts_at closing ≡ Some (facts job)
  pub none : waiting_of closing ≡ []

-- the events that some of a job's records reach: those of the steps below, and the words of the step that follows whose
-- records are among them
abbrev pub events_reached : Job → List Record → List Event
events_reached job items = events_before (reach items) (events job) ++ take (dmas_at (reach items) (reverse items)) (words_before (reach items) (events job))

-- The closing of a run that a failed put has ended: its list has the first so many records of the job's log, each analysis
-- stands for the events that they reach, the bytes that they let go were issued to the gate, and it counts no more of them
-- as released than went out, which are no more than are let out of these records.
pub record IsCutRun (job : Job) (count put : ℕ) (closing : Closing) : Type 0 where
  pub within : count ≤ length (log (finished job))
  pub closes : Closes job (take count (log (finished job))) (events_reached job (take count (log (finished job)))) closing
  pub issued : issued_of closing ≡ length (bytes_of (take count (items (finished job))))
  pub released : released_of closing ≤ put
  pub there : put ≤ length (released_in job count)
