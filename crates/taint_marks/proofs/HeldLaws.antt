-- The number of marks that a hart holds, as one is written over another.
use Rattle.std.proofs.Common.{◌≡◌, ℕ, ◌+◌, ◌<◌, ◌≤◌, List, length, get_or, set, arith, inl, inr}
use Rattle.std.proofs.lemmas.Bool.{cases_lt}
use Rattle.std.proofs.lemmas.Bool.Decides.{nat_tests}
use Rattle.std.proofs.lemmas.List.{get_or_past}
use Rattle.std.proofs.lemmas.List.Sums.{get_or-le-sum_by, sum_by-set}
use Rattle.taint_marks.specs.Held.{weight, marks_held}

weight_none : (mark : ℕ) → weight mark ≡ 0 → mark ≡ 0
weight_none mark none = grind (arith, nat_tests, none)

module _ (registers : List ℕ) (scratch : ℕ) where
  -- where it is 0 no register has a mark, nor has mscratch
  pub none_held : marks_held registers scratch ≡ 0 → (n : ℕ) → get_or registers n 0 ≡ 0
  none_held none n =
      elim (cases_lt n (length registers)) [
        | inl there ↦ weight_none (get_or registers n 0) (omega (arith, none, get_or-le-sum_by weight registers n 0 there))
        | inr past ↦ get_or_past registers n 0 past
      ]

  pub none_held_aside : marks_held registers scratch ≡ 0 → scratch ≡ 0
  none_held_aside none = weight_none scratch (omega (arith, none))

  module _ (n : ℕ) (there : n < length registers) where
    pub held_at : weight (get_or registers n 0) ≤ marks_held registers scratch
    held_at = omega (arith, get_or-le-sum_by weight registers n 0 there)

    pub held_set : (mark : ℕ) → marks_held (set registers n mark) scratch + weight (get_or registers n 0) ≡ marks_held registers scratch + weight mark
    held_set mark = omega (arith, sum_by-set weight registers n mark 0 there)
