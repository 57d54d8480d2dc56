-- The line of the findings of an analysis, from what the analysis tells.
use Rattle.std.proofs.Common.{◌≡◌, ℕ, List, Option}
use Rattle.run_events.specs.declared.finding.Finding.{Finding}
use Rattle.run_events.specs.declared.finding.Kind.{Kind}
use Rattle.analysis_model.specs.Findings.{first_step, tally}
use Rattle.analysis_model.specs.Report.{findings_line}

pub counted_line : (line : List ℕ) (kind wanted : Kind) (count : ℕ) (first : Option ℕ) (found : List Finding) → line ≡ findings_line kind count first
    → kind ≡ wanted → count ≡ tally found → first ≡ first_step found → line ≡ findings_line wanted (tally found) (first_step found)
counted_line line kind wanted count first found is same counts begins = rw (← same, ← counts, ← begins) is
