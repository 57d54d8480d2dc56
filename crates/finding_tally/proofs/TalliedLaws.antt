-- A tally with one finding more.
use Rattle.std.proofs.Common.{◌≡◌, ℕ, ◌+◌, ◌-◌, ◌^◌, ◌<◌, ◌≤◌, min, List, [], ◌∷◌, ◌++◌, Option, None, Some, unwrap_or, length, take, set, refl, sym, ◌∙◌, arith, length-append, append-nil}
use Rattle.std.specs.List.{cons_option}
use Rattle.std.proofs.lemmas.Bool.{cases_lt}
use Rattle.std.proofs.lemmas.List.{take_more_set, length-take, take_all, take-append-le, take-take}
use Rattle.run_events.specs.declared.finding.Finding.{Finding}
use Rattle.analysis_model.specs.Findings.{first_step, tally}
use Rattle.finding_tally.specs.Tallied.{Tallied, Tallies, with_finding, tallied_with}

-- the first ones of the first ones, with more after them
take_front : (n : ℕ) (xs ys : List Finding) → take n (take n xs ++ ys) ≡ take n (xs ++ ys)
take_front n xs ys = grind (arith, cases_lt n (length xs), take-append-le, take_all, length-take, take-take)

first_more : (found : List Finding) (finding : Finding) → Some (unwrap_or (first_step found) finding.step) ≡ first_step (found ++ finding ∷ [])
first_more [] finding = refl
first_more (x ∷ found) finding = refl

count_more : (found : List Finding) (finding : Finding) → min (tally found + 1) (2 ^ 64 - 1) ≡ tally (found ++ finding ∷ [])
count_more found finding = rw (length-append found (finding ∷ [])) (omega arith)

-- a tally of some findings, with one more, is a tally of them all
pub tallied_more : (old new : Tallied) (finding : Finding) → new ≡ with_finding old finding → (found : List Finding) → Tallies old found → Tallies new (found ++ finding ∷ [])
tallied_more old new finding effect found tallies =
    let first = first_more found finding in
    let count = count_more found finding in
    let front = take_front 64 found (finding ∷ []) in
    rw (effect, tallies) (cc)

-- and one with a finding or none
pub tallied_with-more : (t : Tallied) (found : List Finding) (finding : Option Finding) → Tallies t found → Tallies (tallied_with t finding) (found ++ cons_option finding [])
tallied_with-more t found None h = rw (append-nil found) h
tallied_with-more t found (Some finding) h = tallied_more t _ finding refl found h

-- a list with room keeps the next finding
pub keep_one : (places : List Finding) (used : ℕ) (finding : Finding) → length places ≡ 64 → used < 64 → take (used + 1) (set places used finding) ≡ take 64 (take used places ++ finding ∷ [])
keep_one places used finding whole room =
    let short : length (take used places ++ finding ∷ []) ≤ 64 = omega (arith, length-append (take used places) (finding ∷ []), length-take used places) in
    take_more_set places used finding (omega arith) ∙ sym (take_all 64 (take used places ++ finding ∷ []) short)

-- a full one keeps no more
pub keep_none : (places : List Finding) (used : ℕ) (finding : Finding) → length places ≡ 64 → used ≡ 64 → take used places ≡ take 64 (take used places ++ finding ∷ [])
keep_none places used finding whole full =
    let enough : 64 ≤ length (take used places) = omega (arith, length-take used places) in
    sym (take-append-le 64 (take used places) (finding ∷ []) enough ∙ take_all 64 (take used places) (omega (arith, length-take used places)))
