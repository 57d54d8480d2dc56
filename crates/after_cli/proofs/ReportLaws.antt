-- What the analyses of a run that went to its end tell of its job.
use Rattle.std.proofs.Common.{◌≡◌, ℕ, ◌+◌, ◌<◌, Bool, true, false, ◌||◌, List, [], ◌∷◌, ◌++◌, length, take, Some, refl, sym, ap, subst, ◌∙◌, arith, append-nil}
use Rattle.std.specs.Prelude.{slice_get}
use Rattle.std.specs.List.{flat_map, list_any}
use Rattle.std.proofs.lemmas.Grind.{flat_map-append}
use Rattle.std.proofs.lemmas.List.Folds.{list_any-append}
use Rattle.list_laws.specs.Prefix.{IsPrefix}
use Rattle.list_laws.proofs.PlaceLaws.{there_within}
use Rattle.list_laws.proofs.PrefixLaws.{take-next, take_IsPrefix}
use Rattle.run_events.specs.declared.finding.Kind.{Kind}
use Rattle.analysis_model.specs.Complaints.{findings}
use Rattle.analysis_model.specs.Findings.{first_step}
use Rattle.analysis_model.specs.Made.{make_of, guest_of}
use Rattle.analysis_model.specs.Report.{part_text}
use Rattle.analysis_set.specs.declared.any_analysis.AnyAnalysis.{AnyAnalysis}
use Rattle.analysis_set.specs.Analysis.{HasSeen, findings_made, kib_of, made_of, part_made}
use Rattle.analysis_set.proofs.GuestLaws.{findings_made-of, part_made-of}
use Rattle.guard_run.specs.declared.closing.Closing.{Closing}
use Rattle.guard_run.specs.Closings.{IsAnalysisAt, IsWholeRun}
use Rattle.job_model.specs.Job.{Job, events, guest}
use Rattle.after_cli.specs.JobEnds.{IsOver}

-- the analysis at a place, of the kind there: it stands for the job's events, and tells what the definitions give
pub record TellsOf (job : Job) (number : ℕ) (analysis : AnyAnalysis) : Type 0 where
  pub kind : Kind
  pub there : slice_get job.kinds number ≡ Some kind
  pub seen : HasSeen analysis (events job)
  pub part : part_made (kib_of analysis) (made_of analysis) (events job) ≡ part_text (guest job) (events job) kind
  pub first : first_step (findings_made (kib_of analysis) (made_of analysis) (events job)) ≡ first_step (findings kind (guest job) (events job))

pub tells_of : (job : Job) (closing : Closing) (number : ℕ) (analysis : AnyAnalysis) → IsWholeRun job closing → number < length job.kinds → IsAnalysisAt closing number analysis → TellsOf job number analysis
tells_of job closing number analysis whole within at =
    let kind = there_within job.kinds number within in
    let read = whole.closes.each number kind.0 at.replica kind.1 at.there in
    let same : analysis ≡ at.replica.analysis = at.is in
    let made : made_of analysis ≡ make_of kind.0 job.image = ap made_of same ∙ read.analysis in
    let size : kib_of analysis ≡ job.ram_kib = ap kib_of same ∙ read.size in
    record {
      kind = kind.0;
      there = kind.1;
      seen = subst (λ (a : AnyAnalysis). HasSeen a (events job)) (sym same) read.seen;
      part = part_made-of (made_of analysis) kind.0 job.image (kib_of analysis) (events job) made ∙ ap (λ (kib : ℕ). part_text (guest_of job.image kib) (events job) kind.0) size;
      first = ap first_step (findings_made-of (made_of analysis) kind.0 job.image (kib_of analysis) (events job) made ∙ ap (λ (kib : ℕ). findings kind.0 (guest_of job.image kib) (events job)) size);
    }

-- there are as many analyses as replicas
pub same_count : (job : Job) (count : ℕ) (closing : Closing) → IsOver count closing → IsWholeRun job closing → count ≡ length job.kinds
same_count job count closing over whole = omega (arith, over.all, over.whole.closes.replicas, whole.closes.replicas)

-- one more part
pub parts_next : (job : Job) (number : ℕ) (kind : Kind) → slice_get job.kinds number ≡ Some kind
    → flat_map (part_text (guest job) (events job)) (take number job.kinds) ++ part_text (guest job) (events job) kind ≡ flat_map (part_text (guest job) (events job)) (take (number + 1) job.kinds)
parts_next job number kind there =
    let part = part_text (guest job) (events job) in
    sym (ap (flat_map part) (take-next number job.kinds kind there) ∙ flat_map-append part (take number job.kinds) (kind ∷ []) ∙ ap (λ l. flat_map part (take number job.kinds) ++ l) (append-nil (part kind)))

-- the first parts begin all of them
pub parts_front : (job : Job) (count : ℕ) → IsPrefix (flat_map (part_text (guest job) (events job)) (take count job.kinds)) (flat_map (part_text (guest job) (events job)) job.kinds)
parts_front job count =
    let part = part_text (guest job) (events job) in
    let whole = take_IsPrefix count job.kinds in
    record { rest = flat_map part whole.rest; joined = sym (flat_map-append part (take count job.kinds) whole.rest) ∙ ap (flat_map part) whole.joined }

-- whether one of so many has it, and of one more
or_none : (x y : Bool) → x ≡ false → y ≡ false → (x || y) ≡ false
or_none x y a b = rw (a, b) refl

or_right : (x y : Bool) → y ≡ true → (x || y) ≡ true
or_right true y is = refl
or_right false y is = is

or_left : (x y : Bool) → x ≡ true → (x || y) ≡ true
or_left x y is = rw is refl

pub any_next : (test : Kind → Bool) (kinds : List Kind) (number : ℕ) (kind : Kind) → slice_get kinds number ≡ Some kind → list_any test (take number kinds) ≡ false → test kind ≡ false → list_any test (take (number + 1) kinds) ≡ false
any_next test kinds number kind there none is =
    ap (list_any test) (take-next number kinds kind there) ∙ list_any-append test (take number kinds) (kind ∷ []) ∙ or_none (list_any test (take number kinds)) (list_any test (kind ∷ [])) none (or_none (test kind) false is refl)

pub any_found : (test : Kind → Bool) (kinds : List Kind) (number : ℕ) (kind : Kind) → slice_get kinds number ≡ Some kind → test kind ≡ true → list_any test kinds ≡ true
any_found test kinds number kind there is =
    let front = take (number + 1) kinds in
    let here : list_any test front ≡ true = ap (list_any test) (take-next number kinds kind there) ∙ list_any-append test (take number kinds) (kind ∷ []) ∙ or_right (list_any test (take number kinds)) (list_any test (kind ∷ [])) (or_left (test kind) false is) in
    let whole = take_IsPrefix (number + 1) kinds in
    ap (list_any test) (sym whole.joined) ∙ list_any-append test front whole.rest ∙ or_left (list_any test front) (list_any test whole.rest) here
