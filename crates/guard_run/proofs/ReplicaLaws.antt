-- What a replica makes of a record, and says of all that it has taken.
use Rattle.std.proofs.Common.{◌≡◌, ℕ, List, Option, ap, ◌∙◌}
use Rattle.run_events.specs.declared.event.Event.{Event}
use Rattle.run_events.specs.declared.finding.Kind.{Kind}
use Rattle.run_events.specs.declared.record.Record.{Record}
use Rattle.machine_model.specs.Image.{Image}
use Rattle.analysis_model.specs.Complaints.{findings}
use Rattle.analysis_model.specs.Findings.{first_step}
use Rattle.analysis_model.specs.Made.{make_of, kind_made_of, guest_made_of, guest_of}
use Rattle.analysis_set.proofs.GuestLaws.{findings-guest, kind_made_of-make}
use Rattle.guard_run.specs.Verdicts.{reach_of, shown_of, verdict_from, verdict_on}
use Rattle.gate_core.specs.declared.verdict.Verdict.{Verdict}

-- an analysis that is made of these, for RAM of this size, finds what one of the kind and the guest finds
pub found_by : (kind : Kind) (image : Image) (ram_kib : ℕ) (made : List ℕ) (kib : ℕ) (h : List Event) → made ≡ make_of kind image → kib ≡ ram_kib
    → first_step (findings (kind_made_of made) (guest_made_of kib made) h) ≡ first_step (findings kind (guest_of image ram_kib) h)
found_by kind image ram_kib made kib h made_is kib_is =
    ap (λ m. first_step (findings (kind_made_of m) (guest_made_of kib m) h)) made_is ∙ ap (λ k. first_step (findings (kind_made_of (make_of kind image)) (guest_made_of k (make_of kind image)) h)) kib_is
    ∙ ap (λ k. first_step (findings k (guest_made_of ram_kib (make_of kind image)) h)) (kind_made_of-make kind image) ∙ ap first_step (findings-guest kind image ram_kib h)

pub says_on : (image : Image) (ram_kib : ℕ) (kind : Kind) (items : List Record) (verdict : Verdict) (first : Option ℕ) (come : ℕ) → verdict ≡ verdict_from first come
    → first ≡ first_step (findings kind (guest_of image ram_kib) (shown_of image ram_kib items)) → come ≡ reach_of image ram_kib items → verdict ≡ verdict_on image ram_kib kind items
says_on image ram_kib kind items verdict first come is first_is come_is = is ∙ ap (λ o. verdict_from o come) first_is ∙ ap (verdict_from _) come_is
