-- What is kept of a list of findings.
use Rattle.std.specs.Prelude.{◌≡◌, ℕ, ◌+◌, List, [], ◌∷◌, ◌++◌, Option, None, Some, unwrap_or}
use Rattle.run_events.specs.declared.finding.Finding.{Finding}
use Rattle.analysis_model.specs.Findings.{first_step, kept, stopping, tally}

-- the step of the first finding, the number of all, and the first of them
pub record Tallied : Type 0 where
  pub first : Option ℕ
  pub count : ℕ
  pub kept : List Finding

-- what is kept of these findings
abbrev pub tallied : List Finding → Tallied
tallied found = record { first = first_step found; count = tally found; kept = kept found }

-- a tally of exactly these findings, in order
abbrev pub Tallies : Tallied → List Finding → Type 0
Tallies t found = t ≡ tallied found

-- a tally after one finding more
abbrev pub with_finding : Tallied → Finding → Tallied
with_finding t finding = record {
  first = Some (unwrap_or t.first finding.step);
  count = stopping (t.count + 1);
  kept = kept (t.kept ++ finding ∷ []);
}

-- and after one, or none
abbrev pub tallied_with : Tallied → Option Finding → Tallied
tallied_with t None = t
tallied_with t (Some finding) = with_finding t finding
