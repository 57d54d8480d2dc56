-- What an analysis says of any list of records, whatever it is: nothing before the first one, and it takes back no approval.
use Rattle.std.proofs.Common.{◌≡◌, ℕ, ◌≤◌, List, [], ◌∷◌, ◌++◌, Option, None, Some, refl, sym, ap, subst, arith}
use Rattle.std.specs.Prelude.{IfSome, unwrap_or}
use Rattle.list_laws.proofs.AllLaws.{all_through}
use Rattle.run_events.specs.declared.finding.Kind.{Kind}
use Rattle.run_events.specs.declared.record.Record.{Record}
use Rattle.any_machine.specs.Replay.{executed, shown}
use Rattle.hart_model.specs.Machine.{hart}
use Rattle.hart_model.specs.State.{State}
use Rattle.hart_model.proofs.CountLaws.{hart_counts}
use Rattle.machine_model.specs.Image.{Image}
use Rattle.analysis_model.specs.Complaints.{findings}
use Rattle.analysis_model.specs.Findings.{first_step}
use Rattle.analysis_model.specs.Made.{guest_of}
use Rattle.analysis_model.proofs.FindingLaws.{Extends, findings-extend, first_stays, first_comes}
use Rattle.board_model.specs.Guest.{started}
use Rattle.job_model.proofs.LaterShown.{ShowsOn, shown_none, executed_none, shows_one}

-- a first finding stays, or comes at a step that was not done
rises_by : (old new' : Option ℕ) (come come' : ℕ) → ((step : ℕ) → old ≡ Some step → new' ≡ Some step) → (old ≡ None → IfSome new' (λ step. come ≤ step)) → come ≤ come' → unwrap_or old come ≤ unwrap_or new' come'
rises_by (Some step) new' come come' stays comes le = subst (λ o. step ≤ unwrap_or o come') (sym (stays step refl)) (omega arith)
rises_by None (Some step) come come' stays comes le = comes refl
rises_by None None come come' stays comes le = le

module _ (image : Image) (ram_kib : ℕ) where
  -- the step of the first finding over what a list shows
  abbrev pub first_found : Kind → List Record → Option ℕ
  first_found kind items = first_step (findings kind (guest_of image ram_kib) (shown hart (started image ram_kib) items))

  pub found_none : (kind : Kind) → first_found kind [] ≡ None
  found_none kind = ap (λ h. first_step (findings kind (guest_of image ram_kib) h)) (shown_none hart (λ (s : State). s.step) hart_counts (started image ram_kib) refl)

  pub reach_none : executed hart (started image ram_kib) [] ≡ 0
  reach_none = executed_none hart (λ (s : State). s.step) hart_counts (started image ram_kib) refl

  pub approval_rises : (kind : Kind) (items : List Record) (item : Record)
      → unwrap_or (first_found kind items) (executed hart (started image ram_kib) items) ≤ unwrap_or (first_found kind (items ++ item ∷ [])) (executed hart (started image ram_kib) (items ++ item ∷ []))
  approval_rises kind items item =
      let on : ShowsOn hart (λ (s : State). s.step) hart_counts (started image ram_kib) refl items (item ∷ []) = shows_one hart (λ (s : State). s.step) hart_counts (started image ram_kib) refl items item in
      let come = executed hart (started image ram_kib) items in
      let old = findings kind (guest_of image ram_kib) (shown hart (started image ram_kib) items) in
      let all = findings kind (guest_of image ram_kib) (shown hart (started image ram_kib) (items ++ item ∷ [])) in
      let extends : Extends (λ step. come ≤ step) old all =
      subst (λ h. Extends (λ step. come ≤ step) old (findings kind (guest_of image ram_kib) h)) (sym on.joined)
      (findings-extend (λ step. come ≤ step) kind (guest_of image ram_kib) (shown hart (started image ram_kib) items) on.later (all_through (λ event there. there.0) on.later on.stand)) in
      rises_by (first_step old) (first_step all) come (executed hart (started image ram_kib) (items ++ item ∷ [])) (λ step there. first_stays (λ step. come ≤ step) old all step extends there)
      (λ none. first_comes (λ step. come ≤ step) old all extends none) on.rises
