-- What looks tell of a run and of more of it.
use Rattle.std.proofs.Common.{◌≡◌, ℕ, List, [], ◌∷◌, ◌++◌, reverse, Option, Some, None, refl, sym, ap, ◌∙◌, append_assoc, append-nil}
use Rattle.std.specs.List.{cons_option, AllByRecursion}
use Rattle.std.specs.Option.{option_map}
use Rattle.std.proofs.lemmas.List.{reverse-append}
use Rattle.run_events.specs.declared.event.Event.{Event}
use Rattle.run_events.specs.declared.finding.Finding.{Finding}
use Rattle.run_events.specs.Event.{step_of}
use Rattle.analysis_model.specs.Look.{Complaint, told_after, told_at, finding_of, found_at}

cons_option-append : {A : Type 0} (o : Option A) (xs ys : List A) → cons_option o xs ++ ys ≡ cons_option o (xs ++ ys)
cons_option-append None xs ys = refl
cons_option-append (Some x) xs ys = refl

-- what stands later comes after what stands before it
pub told_after-append : {A : Type 0} (look : List Event → Event → Option A) (before xs ys : List Event) → told_after look before (xs ++ ys) ≡ told_after look before xs ++ told_after look (reverse xs ++ before) ys
told_after-append look before [] ys = refl
told_after-append look before (event ∷ xs) ys =
    ap (cons_option (look before event)) (told_after-append look (event ∷ before) xs ys)
    ∙ sym (cons_option-append (look before event) (told_after look (event ∷ before) xs) (told_after look (reverse xs ++ event ∷ before) ys))
    ∙ ap (λ l. cons_option (look before event) (told_after look (event ∷ before) xs) ++ told_after look l ys) (sym (reverse_onto event xs before))
  where
    reverse_onto : (event : Event) (xs before : List Event) → reverse (event ∷ xs) ++ before ≡ reverse xs ++ event ∷ before
    reverse_onto event xs before = ap (λ l. l ++ before) (reverse-append (event ∷ []) xs) ∙ append_assoc (reverse xs) (event ∷ []) before

pub told_at-append : {A : Type 0} (look : List Event → Event → Option A) (xs ys : List Event) → told_at look (xs ++ ys) ≡ told_at look xs ++ told_after look (reverse xs) ys
told_at-append look xs ys = told_after-append look [] xs ys ∙ ap (λ l. told_at look xs ++ told_after look l ys) (append-nil (reverse xs))

-- one event more
pub told_at-more : {A : Type 0} (look : List Event → Event → Option A) (h : List Event) (event : Event) → told_at look (h ++ event ∷ []) ≡ told_at look h ++ cons_option (look (reverse h) event) []
told_at-more look h event = told_at-append look h (event ∷ [])

-- this is true of the step of each event, and of each finding
abbrev pub EachEvent : (ℕ → Type 0) → List Event → Type 0
EachEvent P events = AllByRecursion (λ event. P (step_of event)) events

abbrev pub EachFinding : (ℕ → Type 0) → List Finding → Type 0
EachFinding P found = AllByRecursion (λ finding. P finding.step) found

-- a finding stands at the step of an event
pub found_stand : (P : ℕ → Type 0) (look : List Event → Event → Option Complaint) (before events : List Event) → EachEvent P events → EachFinding P (told_after (found_at look) before events)
found_stand P look before [] each = tt
found_stand P look before (event ∷ events) each = by_case (look before event) (found_stand P look (event ∷ before) events each.1)
  where
    by_case : (o : Option Complaint) → EachFinding P (told_after (found_at look) (event ∷ before) events) → EachFinding P (cons_option (option_map (finding_of event) o) (told_after (found_at look) (event ∷ before) events))
    by_case None rest = rest
    by_case (Some complaint) rest = (each.0, rest)
