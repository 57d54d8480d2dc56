-- Later events leave the findings of earlier ones alone.
use Rattle.std.proofs.Common.{◌≡◌, ℕ, List, [], ◌∷◌, ◌++◌, reverse, Some, None, sym, ap, ◌∙◌}
use Rattle.std.specs.Prelude.{IfSome}
use Rattle.std.proofs.lemmas.Option.{none-some}
use Rattle.run_events.specs.declared.event.Event.{Event}
use Rattle.run_events.specs.declared.finding.Finding.{Finding}
use Rattle.run_events.specs.declared.finding.Kind.{Kind}
use Rattle.analysis_model.specs.Complaints.{Guest, complaint, findings}
use Rattle.analysis_model.specs.Findings.{first_step}
use Rattle.analysis_model.specs.Look.{told_after, found_at}
use Rattle.analysis_model.proofs.LookLaws.{EachEvent, EachFinding, told_at-append, found_stand}

-- the old findings are a prefix of the new ones, and this is true of the step of each later one
pub record Extends (P : ℕ → Type 0) (old new : List Finding) : Type 0 where
  pub later : List Finding
  pub joined : new ≡ old ++ later
  pub stand : EachFinding P later

-- of each kind of analysis
pub findings-extend : (P : ℕ → Type 0) (kind : Kind) (guest : Guest) (xs ys : List Event) → EachEvent P ys → Extends P (findings kind guest xs) (findings kind guest (xs ++ ys))
findings-extend P kind guest xs ys each = record {
  later = told_after (found_at (complaint kind guest)) (reverse xs) ys;
  joined = told_at-append (found_at (complaint kind guest)) xs ys;
  stand = found_stand P (complaint kind guest) (reverse xs) ys each;
}

-- what is true of the steps of all events is true of those of the findings
pub findings-stand : (P : ℕ → Type 0) (kind : Kind) (guest : Guest) (events : List Event) → EachEvent P events → EachFinding P (findings kind guest events)
findings-stand P kind guest events each = found_stand P (complaint kind guest) [] events each

pub first_stands : (P : ℕ → Type 0) (found : List Finding) → EachFinding P found → IfSome (first_step found) P
first_stands P [] each = tt
first_stands P (finding ∷ found) each = each.0

-- a first finding stays the first
pub first_stays : (P : ℕ → Type 0) (old new : List Finding) (step : ℕ) → Extends P old new → first_step old ≡ Some step → first_step new ≡ Some step
first_stays P old new step extends is = ap first_step extends.joined ∙ front old extends.later is
  where
    front : (xs ys : List Finding) → first_step xs ≡ Some step → first_step (xs ++ ys) ≡ Some step
    front [] ys is = cc
    front (x ∷ xs) ys is = is

-- and where there was none, the first one is a later one
pub first_comes : (P : ℕ → Type 0) (old new : List Finding) → Extends P old new → first_step old ≡ None → IfSome (first_step new) P
first_comes P old new extends is = rw extends.joined (behind old is)
  where
    behind : (xs : List Finding) → first_step xs ≡ None → IfSome (first_step (xs ++ extends.later)) P
    behind [] none = first_stands P extends.later extends.stand
    behind (x ∷ xs) none = absurd (none-some x.step (sym none))
