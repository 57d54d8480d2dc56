-- What stands when the run of a job is over, by what stands of its course.
use Rattle.std.proofs.Common.{◌≡◌, ℕ, List, length, take, Some, refl, sym, ap, subst, ◌∙◌, arith}
use Rattle.std.specs.Prelude.{slice_get, option_map}
use Rattle.std.proofs.lemmas.List.{length-map, take-map}
use Rattle.std.proofs.lemmas.Option.{slice_get-map}
use Rattle.circular_buffer.specs.Buffer.{keep_last}
use Rattle.list_laws.proofs.PrefixLaws.{take_IsPrefix}
use Rattle.list_laws.proofs.ReverseLaws.{reverse-last}
use Rattle.run_events.specs.declared.event.Event.{Event}
use Rattle.run_events.specs.declared.finding.Kind.{Kind}
use Rattle.run_events.specs.declared.item.Item.{Item}
use Rattle.run_events.specs.declared.record.Record.{Record}
use Rattle.run_events.specs.declared.record.Record.TheVariants.{End}
use Rattle.any_machine.specs.Log.{items, log, turns_log, SentByte}
use Rattle.any_machine.proofs.ShownBySteps.{shown_by_steps}
use Rattle.hart_model.specs.Machine.{hart}
use Rattle.hart_model.specs.State.{State}
use Rattle.hart_model.proofs.CountLaws.{hart_counts}
use Rattle.analysis_model.specs.declared.facts.RunFacts.{RunFacts}
use Rattle.job_model.specs.Job.{Job, events, finished, first_refused, guest, released}
use Rattle.job_model.specs.Text.{facts}
use Rattle.job_model.proofs.RunLaws.{first_state, job_items, job_output, job_runs, job_shown}
use Rattle.turn_run.specs.Closings as turns
use Rattle.turn_run.specs.Endings.{end_in, end_back}
use Rattle.guard_run.specs.declared.closing.Closing.{Closing}
use Rattle.guard_run.specs.declared.replica.Replica.{Replica}
use Rattle.guard_run.specs.Closings.{Closes, HasFollowed, IsCutRun, IsWholeRun, facts_with, replicas_of}
use Rattle.guard_run.specs.Jobs.{course_of}
use Rattle.guard_run.specs.Openings.{AreReplicas}
use Rattle.guard_run.specs.Replicas.{HasTaken, Make, make_now, replicas_follow}
use Rattle.guard_run.specs.Verdicts.{shown_of, verdict_on}
use Rattle.analysis_set.specs.Analysis.{HasSeen}
use Rattle.analysis_model.specs.Made.{make_of}
use Rattle.guard_run.proofs.CourseLaws.{course_let_out, course_released}

-- what a replica of a job was made of
made_at : (job : Job) (places : List ℕ) (replicas : List Replica) (number : ℕ) (kind : Kind) (replica : Replica) → AreReplicas job places replicas → slice_get job.kinds number ≡ Some kind → slice_get replicas number ≡ Some replica
    → make_now replica ≡ record { image = job.image; ram_kib = job.ram_kib; kind = kind }
made_at job places replicas number kind replica are there here =
    let made_for : Kind → Make = λ kind. record { image = job.image; ram_kib = job.ram_kib; kind = kind } in
    some_same (sym (ap (option_map make_now) here) ∙ sym (slice_get-map make_now replicas number) ∙ ap (λ l. slice_get l number) are.made ∙ slice_get-map made_for job.kinds number ∙ ap (option_map made_for) there)
  where
    some_same : {x y : Make} → Some x ≡ Some y → x ≡ y
    some_same is = cc

has_read : (job : Job) (kind : Kind) (records : List Record) (shown : List Event) (replica : Replica) → shown_of job.image job.ram_kib records ≡ shown → make_now replica ≡ record { image = job.image; ram_kib = job.ram_kib; kind = kind } → HasTaken replica records
    → HasFollowed job kind records shown replica (verdict_on replica.image replica.ram_kib replica.kind records)
has_read job kind records shown replica all made taken = record {
  made = made;
  taken = taken;
  seen = subst (HasSeen replica.analysis) all (subst (λ (m : Make). HasSeen replica.analysis (shown_of m.image m.ram_kib records)) made taken.seen);
  analysis = taken.made ∙ ap (λ (m : Make). make_of m.kind m.image) made;
  size = taken.size ∙ ap (λ (m : Make). m.ram_kib) made;
  posted = ap (λ (m : Make). verdict_on m.image m.ram_kib m.kind records) made;
}

module _ (job : Job) (places : List ℕ) (closing : Closing) (are : AreReplicas job places (replicas_of closing)) where
  closes : (some : List Item) (records : List Record) (shown : List Event) → turns.records_of some ≡ records → shown_of job.image job.ram_kib records ≡ shown → turns.Closes replicas_follow (course_of job places) some closing.over → Closes job records shown closing
  closes some records shown is all closed =
      let limits : length (course_of job places).limits ≡ length job.kinds = length-map job.kinds (first_refused (guest job) (events job) (finished job).steps) in
      let count : length some ≡ length records = sym (length-map some (λ (i : Item). i.item)) ∙ ap length is in
      record {
        closed = closed.closed;
        appended = closed.appended ∙ count;
        stored = closed.stored ∙ ap (keep_last job.cap) is;
        readers = closed.readers ∙ limits;
        taken = λ number there. closed.taken number (omega (arith, there, limits)) ∙ count;
        replicas = closed.followers ∙ limits;
        each = λ number kind replica there here. (
            let followed = closed.each number replica here in
            subst (λ l. HasFollowed job kind l shown replica (turns.posted_of closing.over number)) is
            (subst (HasFollowed job kind (turns.records_of some) shown replica) (sym followed.posted)
            (has_read job kind (turns.records_of some) shown replica (ap (shown_of job.image job.ram_kib) is ∙ all) (made_at job places (replicas_of closing) number kind replica are there here) followed.taken)));
        ending = closed.ending ∙ ap end_in is;
      }

  -- a whole run
  pub closes_whole : turns.IsWholeRun replicas_follow (course_of job places) closing.over → IsWholeRun job closing
  closes_whole whole =
      let run = finished job in
      let marked = are.runnable.marked in
      let told : RunFacts = facts job in
      let fill : ℕ → ℕ → ℕ → RunFacts = λ issued out count. record { steps = run.steps; end = run.cause; issued = issued; released = out; items = count } in
      let closed = closes (items run) (log run) (events job) (job_items job) (job_shown job marked) whole.closes in
      let ends : turns.ending_of closing.over ≡ Some (record { steps = run.steps; cause = run.cause }) = closed.ending ∙ ap end_back (reverse-last (turns_log 0 0 run.turns) (End run.steps run.cause)) in
      let issued : turns.issued_of closing.over ≡ told.issued = whole.closes.issued ∙ ap length (job_output job marked) in
      let out : turns.released_of closing.over ≡ told.released = whole.released ∙ ap length (course_released job places marked are.required) ∙ length-map (released job) (λ (byte : SentByte). byte.byte) in
      record {
        closes = closed;
        facts =
            ap (option_map (facts_with closing)) ends
            ∙ ap Some (ap (λ n. fill n (turns.released_of closing.over) (turns.appended_of closing.over)) issued ∙ ap (λ n. fill told.issued n (turns.appended_of closing.over)) out ∙ ap (fill told.issued told.released) closed.appended);
        none = whole.none;
      }

  -- a run that a failed put has ended
  pub closes_cut : (count put : ℕ) → turns.IsCutRun replicas_follow (course_of job places) count put closing.over → IsCutRun job count put closing
  closes_cut count put cut =
      let run = finished job in
      let marked = are.runnable.marked in
      let prefix : turns.records_of (take count (items run)) ≡ take count (log run) = sym (take-map (λ (i : Item). i.item) count (items run)) ∙ ap (take count) (job_items job) in
      let long : length (items run) ≡ length (log run) = sym (length-map (items run) (λ (i : Item). i.item)) ∙ ap length (job_items job) in
      record {
        within = omega (arith, cut.within, long);
        closes =
            closes (take count (items run)) (take count (log run)) _ prefix
            (shown_by_steps hart (λ (s : State). s.step) hart_counts (first_state job) run (take count (log run)) refl (job_runs job marked) (take_IsPrefix count (log run))) cut.closes;
        issued = cut.closes.issued;
        released = cut.released;
        there = omega (arith, cut.there, ap length (course_let_out job places are.required count));
      }
