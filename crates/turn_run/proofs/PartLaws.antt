-- What single parts of a run say: verdicts that are posted, and readers one after another.
use Rattle.memory_map.specs.declared.TheConstants.{MOST_STEPS}
use Rattle.std.proofs.Common.{◌≡◌, ℕ, zero, suc, ◌+◌, ◌<◌, Bool, true, false, cond, List, [], ◌∷◌, ◌++◌, length, get_or, take, refl, sym, ap, ◌∙◌, append-nil}
use Rattle.std.specs.Prelude.{min, slice_index}
use Rattle.std.proofs.lemmas.List.{take_more}
use Rattle.gate_core.specs.declared.verdict.Verdict.{Verdict}
use Rattle.gate_core.specs.Hub.{HubState, approved_at, no_verdict, verdict_at}
use Rattle.gate_core.specs.Follow.{approvals}
use Rattle.output_gate.specs.Gate.{GateState, with_withheld}
use Rattle.turn_run.specs.Gates.{least_approved, refusals, withheld_for, withheld_from}
use Rattle.turn_run.proofs.LeastLaws.{least-push}
use Rattle.turn_run.proofs.WithholdLaws.{refusals-push, withheld-push}

-- a reader that has posted nothing approves nothing
approved-by : (posted : List Verdict) (reader : ℕ) → (get_or posted reader no_verdict).approved ≡ slice_index (approvals posted) reader
approved-by [] reader = refl
approved-by (first ∷ posted) zero = refl
approved-by (first ∷ posted) (suc reader) = approved-by posted reader

pub approved_is : (hub : HubState) (reader : ℕ) → approved_at hub reader ≡ slice_index (approvals hub.verdicts) reader
approved_is hub reader = approved-by hub.verdicts reader

module _ (hub : HubState) (readers : List ℕ) (place : ℕ) (there : place < length readers) where
  -- the least of one reader more
  pub least-next : (least : ℕ) (verdict : Verdict) → verdict ≡ verdict_at hub (slice_index readers place) → least ≡ least_approved (approvals hub.verdicts) (take place readers)
      → min verdict.approved least ≡ least_approved (approvals hub.verdicts) (take (place + 1) readers)
  least-next least verdict posted before =
      let here : verdict.approved ≡ slice_index (approvals hub.verdicts) (slice_index readers place) = ap (λ (v : Verdict). v.approved) posted ∙ approved_is hub (slice_index readers place) in
      (λ i. min (here i) (before i))
      ∙ sym (least-push (approvals hub.verdicts) MOST_STEPS (take place readers) (slice_index readers place))
      ∙ ap (least_approved (approvals hub.verdicts)) (sym (take_more readers place 0 there))

  -- what is withheld from for one reader more
  refusals-next : (b : Bool) → (verdict_at hub (slice_index readers place)).refused ≡ b → refusals hub (take (place + 1) readers) ≡ refusals hub (take place readers) ++ cond b (approved_at hub (slice_index readers place) ∷ []) []
  refusals-next b is =
      ap (refusals hub) (take_more readers place 0 there)
      ∙ refusals-push hub (take place readers) (slice_index readers place)
      ∙ ap (λ b. refusals hub (take place readers) ++ cond b (approved_at hub (slice_index readers place) ∷ []) []) is

  pub withheld-next : (first gate : GateState) → gate ≡ withheld_from (refusals hub (take place readers)) first
      → withheld_for hub (slice_index readers place) gate ≡ withheld_from (refusals hub (take (place + 1) readers)) first
  withheld-next first gate before = by (verdict_at hub (slice_index readers place)).refused refl
    where
      by : (b : Bool) → (verdict_at hub (slice_index readers place)).refused ≡ b → cond b (with_withheld gate (approved_at hub (slice_index readers place))) gate ≡ withheld_from (refusals hub (take (place + 1) readers)) first
      by true refused =
          ap (λ g. with_withheld g (approved_at hub (slice_index readers place))) before
          ∙ sym (withheld-push (refusals hub (take place readers)) (approved_at hub (slice_index readers place)) first)
          ∙ ap (λ l. withheld_from l first) (sym (refusals-next true refused))
      by false passed = before ∙ ap (λ l. withheld_from l first) (sym (append-nil (refusals hub (take place readers))) ∙ sym (refusals-next false passed))
