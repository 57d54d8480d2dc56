-- The addresses of marked words.
use Rattle.std.proofs.Common.{◌≡◌, ℕ, zero, suc, ◌+◌, ◌*◌, ◌<◌, Bool, true, false, List, [], ◌∷◌, length, set, replicate, refl, sym, ap, ◌∙◌, arith}
use Rattle.std.specs.List.{filter, count_by}
use Rattle.std.proofs.lemmas.List.Sums.{length-filter}
use Rattle.analysis_model.specs.Ascending.{with_member}
use Rattle.coverage_map.specs.Coverage.{marked_from}
use Rattle.coverage_map.proofs.AscendingLaws.{with_member-same, with_member-before, with_member-behind}

pub marked_from-none : (address n : ℕ) → marked_from address (replicate n false) ≡ []
marked_from-none address zero = refl
marked_from-none address (suc n) = marked_from-none (address + 4) n

-- an address before all marks
with_member-front : (new address : ℕ) (marks : List Bool) → new < address → with_member new (marked_from address marks) ≡ new ∷ marked_from address marks
with_member-front new address [] h = refl
with_member-front new address (true ∷ marks) h = with_member-before new address (marked_from (address + 4) marks) h
with_member-front new address (false ∷ marks) h = with_member-front new (address + 4) marks (omega arith)

-- one mark more is one address more
pub marked_from-set : (marks : List Bool) (address place pc : ℕ) → pc ≡ address + 4 * place → place < length marks → marked_from address (set marks place true) ≡ with_member pc (marked_from address marks)
marked_from-set [] address place pc e h = absurd (omega arith)
marked_from-set (true ∷ marks) address zero pc e h = sym (with_member-same pc address (marked_from (address + 4) marks) (omega arith))
marked_from-set (false ∷ marks) address zero pc e h =
    let here : pc ≡ address = omega arith in
    rw here (sym (with_member-front address (address + 4) marks (omega arith)))
marked_from-set (true ∷ marks) address (suc place) pc e h =
    ap (λ l. address ∷ l) (marked_from-set marks (address + 4) place pc (omega arith) (omega arith)) ∙ sym (with_member-behind pc address (marked_from (address + 4) marks) (omega arith))
marked_from-set (false ∷ marks) address (suc place) pc e h = marked_from-set marks (address + 4) place pc (omega arith) (omega arith)

length-marked_from : (address : ℕ) (marks : List Bool) → length (filter (λ mark. mark) marks) ≡ length (marked_from address marks)
length-marked_from address [] = refl
length-marked_from address (true ∷ marks) = ap suc (length-marked_from (address + 4) marks)
length-marked_from address (false ∷ marks) = length-marked_from (address + 4) marks

pub count_by-marked : (address : ℕ) (marks : List Bool) → count_by (λ mark. mark) marks ≡ length (marked_from address marks)
count_by-marked address marks = sym (length-filter (λ mark. mark) marks) ∙ length-marked_from address marks
