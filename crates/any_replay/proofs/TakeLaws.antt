-- What a record makes of a replay.
use Rattle.std.proofs.Common.{◌≡◌, ℕ, List, [], ◌∷◌, ◌++◌, Option, None, Some, refl, sym, ap, ◌∙◌, subst, append_assoc}
use Rattle.run_events.specs.declared.event.Event.{Event}
use Rattle.run_events.specs.declared.fault.Diverged.{Diverged}
use Rattle.run_events.specs.declared.record.Record.{Record}
use Rattle.run_events.specs.declared.sequence.Sequence.{Sequence}
use Rattle.run_events.specs.Sequence.{InOrder}
use Rattle.any_machine.specs.Machine.{Machine}
use Rattle.any_machine.specs.Replay.{Outcome, outcome, shown_by}
use Rattle.any_machine.specs.Held.{take_shown}
use Rattle.any_machine.specs.Carries.{Carries}
use Rattle.any_machine.proofs.OutcomeLaws.{outcome-nil}
use Rattle.any_machine.proofs.CarriesLaws.{take_is, still, fed_nothing}
use Rattle.any_replay.specs.declared.replay.Replay.{Replay}
use Rattle.any_replay.specs.declared.standing.Standing.{Standing}
use Rattle.any_replay.specs.Standing.{held_of}
use Rattle.any_replay.specs.Replays.{Replays}
use Rattle.any_replay.specs.Taking.{Judges}

module _ {S : Type 0} (m : Machine S) (done ram_size : S → ℕ) where
  -- before the first record
  pub new_replays : (hart : S) (order : Sequence) → done hart ≡ 0 → InOrder [] order
      → Replays m done ram_size hart [] (record { standing = record { hart = hart; lines = 0; load = None; power = None }; order = order; diverged = None; takes = 0 })
  new_replays hart order none in_order = record {
    carries = subst (λ n. Carries m hart (outcome m hart []) (record { state = hart; step = n; lines = 0; load = None; power = None })) (sym none) (fed_nothing m hart);
    fault = ap (λ (o : Outcome). o.fault) (sym (outcome-nil m hart));
    order = λ fits. in_order;
    ram = refl;
  }

  -- a record more, where none had a fault before
  pub judged_replays : (start : S) (before : List Record) (item : Record) (old new' : Replay S) (fault : Option Diverged) → Replays m done ram_size start before old → old.diverged ≡ None → Judges m done start before item old new' fault
      → ram_size old.standing.hart ≡ ram_size new'.standing.hart → (last : Replay S) → last.standing ≡ new'.standing → last.order ≡ new'.order → last.diverged ≡ fault → Replays m done ram_size start (item ∷ before) last
  judged_replays start before item old new' fault was fits judges ram last standing_is order_is fault_is =
      let takes = take_is m start before item (held_of done old.standing) (sym was.fault ∙ fits) was.carries in
      record {
        carries = subst (Carries m start (outcome m start (item ∷ before))) (ap (λ t. t.1) judges.taken ∙ ap (held_of done) (sym standing_is)) takes.carries;
        fault = fault_is ∙ ap (λ t. t.0) (sym judges.taken) ∙ takes.fault;
        order = λ none. subst (InOrder (item ∷ before)) (sym order_is) (judges.order (sym fault_is ∙ none));
        ram = was.ram ∙ ram ∙ ap (λ (s : Standing S). ram_size s.hart) (sym standing_is);
      }

  pub judged_shown : (start : S) (before : List Record) (item : Record) (old : Replay S) (h : List Event) (Seen : List Event → Type 0) → Replays m done ram_size start before old → old.diverged ≡ None
      → Seen ((h ++ shown_by m start (outcome m start before)) ++ take_shown m start before item (held_of done old.standing)) → Seen (h ++ shown_by m start (outcome m start (item ∷ before)))
  judged_shown start before item old h Seen was fits seen =
      let takes = take_is m start before item (held_of done old.standing) (sym was.fault ∙ fits) was.carries in
      subst Seen (append_assoc h (shown_by m start (outcome m start before)) (take_shown m start before item (held_of done old.standing)) ∙ ap (λ l. h ++ l) (sym takes.shown)) seen

  -- a record more after a fault
  pub still_replays : (start : S) (before : List Record) (item : Record) (replay : Replay S) (fault : Diverged) → Replays m done ram_size start before replay → replay.diverged ≡ Some fault → Replays m done ram_size start (item ∷ before) replay
  still_replays start before item replay fault was is =
      let same = still m start before item fault (sym was.fault ∙ is) in
      record {
        carries = subst (λ o. Carries m start o (held_of done replay.standing)) (sym same) was.carries;
        fault = was.fault ∙ ap (λ (o : Outcome). o.fault) (sym same);
        order =
            λ none.
            let no : Some fault ≡ None = sym is ∙ none in
            absurd (cc);
        ram = was.ram;
      }

  pub still_shown : (start : S) (before : List Record) (item : Record) (replay : Replay S) (fault : Diverged) (h : List Event) (Seen : List Event → Type 0) → Replays m done ram_size start before replay → replay.diverged ≡ Some fault
      → Seen (h ++ shown_by m start (outcome m start before)) → Seen (h ++ shown_by m start (outcome m start (item ∷ before)))
  still_shown start before item replay fault h Seen was is = subst (λ o. Seen (h ++ shown_by m start o)) (sym (still m start before item fault (sym was.fault ∙ is)))
