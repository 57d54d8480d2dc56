-- Maximal runs, built from the front.
use Rattle.std.proofs.Common.{◌≡◌, ℕ, ◌+◌, ◌==◌, ◌<◌, Bool, true, false, cond, if◌then◌else◌, List, [], ◌∷◌, refl, arith}
use Rattle.std.proofs.lemmas.Bool.Decides.{nat_tests}
use Rattle.analysis_model.specs.Cover.{CodeRange, joined, runs}
use Rattle.coverage_map.specs.Coverage.{marked_from}

-- a range before others in ascending order: one with the first of them where they touch
abbrev pub grown : ℕ → ℕ → List CodeRange → List CodeRange
grown from to [] = record { from = from; to = to } ∷ []
grown from to (range ∷ ranges) = if to == range.from then record { from = from; to = range.to } ∷ ranges else record { from = from; to = to } ∷ range ∷ ranges

-- they begin after this address
abbrev pub BeginBehind : ℕ → List CodeRange → Type 0
BeginBehind address [] = Unit {0}
BeginBehind address (range ∷ ranges) = address < range.from

pub grown-word : (pc : ℕ) (ranges : List CodeRange) → joined pc ranges ≡ grown pc (pc + 4) ranges
grown-word pc [] = refl
grown-word pc (range ∷ ranges) = refl

-- two ranges that touch are one
pub grown-grown : (a b c : ℕ) (ranges : List CodeRange) → grown a b (grown b c ranges) ≡ grown a c ranges
grown-grown a b c [] = grind (arith, nat_tests)
grown-grown a b c (range ∷ ranges) = grind (arith, nat_tests)

-- a range that does not touch the others stands alone
pub grown-apart : (a b : ℕ) (ranges : List CodeRange) → BeginBehind b ranges → grown a b ranges ≡ record { from = a; to = b } ∷ ranges
grown-apart a b [] h = refl
grown-apart a b (range ∷ ranges) h = grind (arith, nat_tests)

BeginBehind-joined : (address pc : ℕ) (ranges : List CodeRange) → address < pc → BeginBehind address (joined pc ranges)
BeginBehind-joined address pc [] h = h
BeginBehind-joined address pc (range ∷ ranges) h = elim (pc + 4 == range.from) as (λ b. BeginBehind address (cond b (record { from = pc; to = range.to } ∷ ranges) (record { from = pc; to = pc + 4 } ∷ range ∷ ranges))) [ true ↦ h | false ↦ h ]

-- the ranges of marked words begin after each smaller address
pub BeginBehind-marked : (before address : ℕ) (marks : List Bool) → before < address → BeginBehind before (runs (marked_from address marks))
BeginBehind-marked before address [] h = tt
BeginBehind-marked before address (true ∷ marks) h = BeginBehind-joined before address (runs (marked_from (address + 4) marks)) h
BeginBehind-marked before address (false ∷ marks) h = BeginBehind-marked before (address + 4) marks (omega arith)
