-- Words that are known to be executed, and to be code.
use Rattle.std.proofs.Common.{◌≡◌, ℕ, ◌+◌, ◌-◌, ◌*◌, ◌/◌, ◌<◌, Bool, true, false, List, length, get_or, set, sym, ap, ◌∙◌, arith, inl, inr}
use Rattle.std.proofs.lemmas.Bool.{cases_eq}
use Rattle.std.proofs.lemmas.List.{get_or-set_same, get_or-set_other, set-get_or}
use Rattle.memory_map.specs.declared.TheConstants.{RAM_START}
use Rattle.run_events.specs.Event.{IsWordInRam}
use Rattle.analysis_model.specs.Cover.{is_within}
use Rattle.analysis_model.specs.Made.{ranges_made_of}
use Rattle.coverage_map.specs.declared.area.Area.{Area}
use Rattle.coverage_map.specs.Coverage.{Covered, AreKnown, area_numbers, with_mark}

word_at : (kib pc : ℕ) → IsWordInRam kib pc → RAM_START + 4 * ((pc - RAM_START) / 4) ≡ pc
word_at kib pc fetched = omega (arith, fetched.aligned, fetched.within.from)

-- their marks are there, and they are code
module _ (c : Covered) (known : List Bool) (pc : ℕ) (fetched : IsWordInRam c.ram_kib pc) (all : AreKnown known c.marks c.code) (is : get_or known ((pc - RAM_START) / 4) false ≡ true) where
  pub known_marks : with_mark c pc ≡ c
  known_marks =
      let place = (pc - RAM_START) / 4 in
      let same : set c.marks place true ≡ c.marks = ap (set c.marks place) (sym (all place is).0) ∙ set-get_or c.marks place false in
      ap (λ marks. record c { marks = marks }) same

  pub known_is_code : is_within (ranges_made_of (area_numbers c.code)) pc ≡ true
  known_is_code = ap (is_within (ranges_made_of (area_numbers c.code))) (sym (word_at c.ram_kib pc fetched)) ∙ (all ((pc - RAM_START) / 4) is).1

module _ (known marks : List Bool) (code : List Area) (place : ℕ) (room : place < length marks) (all : AreKnown known marks code) where
  kept : (n : ℕ) → get_or marks n false ≡ true → get_or (set marks place true) n false ≡ true
  kept n marked =
      elim (cases_eq n place) [
        | inl same ↦ ap (λ k. get_or (set marks place true) k false) same ∙ get_or-set_same marks place true false room
        | inr apart ↦ get_or-set_other marks place n true false apart ∙ marked
      ]

  -- one mark more
  pub known_marked : AreKnown known (set marks place true) code
  known_marked n is = (kept n (all n is).0, (all n is).1)

  -- of a word of code
  pub known_more : is_within (ranges_made_of (area_numbers code)) (RAM_START + 4 * place) ≡ true → AreKnown (set known place true) (set marks place true) code
  known_more within n is =
      elim (cases_eq n place) [
        | inl same ↦ (ap (λ k. get_or (set marks place true) k false) same ∙ get_or-set_same marks place true false room, ap (λ k. is_within (ranges_made_of (area_numbers code)) (RAM_START + 4 * k)) same ∙ within)
        | inr apart ↦ known_marked n (sym (get_or-set_other known place n true false apart) ∙ is)
      ]
