-- The lines of the report: its head, and the part of each analysis.
use Rattle.std.specs.Prelude.{ℕ, ◌/◌, ◌%◌, ◌^◌, false, List, [], ◌∷◌, ◌++◌, length, take, Option, None, Some, codes, decimal}
use Rattle.std.specs.Fmt.{digit_glyph}
use Rattle.std.specs.List.{flat_map}
use Rattle.run_events.specs.declared.event.Event.{Event}
use Rattle.run_events.specs.declared.finding.Finding.{Finding}
use Rattle.run_events.specs.declared.finding.FindingKind.{FindingKind}
use Rattle.run_events.specs.declared.finding.FindingKind.TheVariants.{Red, Freed, BadFree, Jump, Leak, Return, Outside, Unguarded, Reacquire, BadRelease}
use Rattle.run_events.specs.declared.finding.Kind.{Kind}
use Rattle.run_events.specs.declared.finding.Kind.TheVariants.{Heap, Taint, Calls, Cover, Locks}
use Rattle.run_events.specs.declared.record.EndCause.{EndCause}
use Rattle.run_events.specs.declared.record.EndCause.TheVariants.{Power, Limit}
use Rattle.analysis_model.specs.declared.facts.RunFacts.{RunFacts}
use Rattle.analysis_model.specs.Calls.{unmatched_count}
use Rattle.analysis_model.specs.Complaints.{Guest, findings}
use Rattle.analysis_model.specs.Cover.{CodeRange, executed_pcs, executed_ranges}
use Rattle.analysis_model.specs.Findings.{first_step, stopping, tally, kept}

-- one line: its text, and a line feed
abbrev pub line : List ℕ → List ℕ
line text = text ++ 10 ∷ []

-- eight digits of lower case hexadecimal
abbrev pub hexadecimal : ℕ → List ℕ
hexadecimal n =
    digit_glyph false (n / 2 ^ 28 % 16) ∷ digit_glyph false (n / 2 ^ 24 % 16)
    ∷ digit_glyph false (n / 2 ^ 20 % 16) ∷ digit_glyph false (n / 2 ^ 16 % 16)
    ∷ digit_glyph false (n / 2 ^ 12 % 16) ∷ digit_glyph false (n / 2 ^ 8 % 16)
    ∷ digit_glyph false (n / 2 ^ 4 % 16) ∷ digit_glyph false (n % 16) ∷ []

unfoldable pub title_line : List ℕ
title_line = line (codes "== aftersight report")

unfoldable pub steps_line : ℕ → List ℕ
steps_line steps = line (codes "steps " ++ decimal steps)

unfoldable pub end_line : EndCause → List ℕ
end_line (Power status) = line (codes "end power " ++ decimal status)
end_line Limit = line (codes "end limit")

unfoldable pub output_line : ℕ → ℕ → List ℕ
output_line issued released =
    line (codes "output " ++ decimal issued ++ codes " released " ++ decimal released)

unfoldable pub records_line : ℕ → List ℕ
records_line items = line (codes "records " ++ decimal items)

-- the first six lines, of which the first is empty
unfoldable pub head_text : RunFacts → List ℕ
head_text f =
    line [] ++ title_line ++ steps_line f.steps ++ end_line f.end ++ output_line f.issued f.released
    ++ records_line f.items

unfoldable pub kind_name : Kind → List ℕ
kind_name Heap = codes "heap"
kind_name Taint = codes "taint"
kind_name Calls = codes "calls"
kind_name Cover = codes "cover"
kind_name Locks = codes "locks"

unfoldable pub finding_name : FindingKind → List ℕ
finding_name Red = codes "red"
finding_name Freed = codes "freed"
finding_name BadFree = codes "badfree"
finding_name Jump = codes "jump"
finding_name Leak = codes "leak"
finding_name Return = codes "return"
finding_name Outside = codes "outside"
finding_name Unguarded = codes "unguarded"
finding_name Reacquire = codes "reacquire"
finding_name BadRelease = codes "badrelease"

-- a step, or none
unfoldable pub step_text : Option ℕ → List ℕ
step_text (Some step) = decimal step
step_text None = codes "none"

unfoldable pub findings_line : Kind → ℕ → Option ℕ → List ℕ
findings_line kind count first =
    line (kind_name kind ++ codes " findings " ++ decimal count
    ++ codes " first " ++ step_text first)

unfoldable pub pcs_line : ℕ → ℕ → List ℕ
pcs_line pcs ranges = line (codes "cover pcs " ++ decimal pcs ++ codes " ranges " ++ decimal ranges)

unfoldable pub range_line : CodeRange → List ℕ
range_line range =
    line (codes "cover range " ++ hexadecimal range.from ++ codes " " ++ hexadecimal range.to)

unfoldable pub finding_line : Kind → Finding → List ℕ
finding_line kind f =
    line (kind_name kind ++ codes " " ++ finding_name f.kind ++ codes " at " ++ decimal f.step
    ++ codes " pc " ++ hexadecimal f.pc ++ codes " addr " ++ hexadecimal f.address)

unfoldable pub unmatched_line : ℕ → List ℕ
unmatched_line count = line (codes "calls unmatched " ++ decimal count)

-- of coverage: the pc values, and the first 64 ranges
unfoldable pub ranges_text : ℕ → List CodeRange → List ℕ
ranges_text pcs ranges = pcs_line pcs (length ranges) ++ flat_map range_line (take 64 ranges)

-- what an analysis of this kind tells of a guest's events beside its findings
abbrev pub more_text : Guest → List Event → Kind → List ℕ
more_text guest events Heap = []
more_text guest events Taint = []
more_text guest events Calls = unmatched_line (stopping (unmatched_count guest.frames events))
more_text guest events Cover = ranges_text (length (executed_pcs events)) (executed_ranges events)
more_text guest events Locks = []

-- its findings: their number and the first one's step, what there is to tell beside them, and those that are kept
abbrev pub found_text : Kind → List Finding → List ℕ → List ℕ
found_text kind found more =
    findings_line kind (tally found) (first_step found) ++ more
    ++ flat_map (finding_line kind) (kept found)

-- the lines of an analysis
abbrev pub part_text : Guest → List Event → Kind → List ℕ
part_text guest events kind =
    found_text kind (findings kind guest events) (more_text guest events kind)
