-- Ranges of code, as they are kept and as their numbers give them.
use Rattle.std.proofs.Common.{◌≡◌, ℕ, ◌+◌, ◌<◌, length, drop, get_or, true, false, Bool, List, [], ◌∷◌, ◌++◌, refl, sym, ap, ◌∙◌, append_assoc}
use Rattle.std.proofs.lemmas.List.{drop_more}
use Rattle.machine_model.specs.Image.{Segment}
use Rattle.analysis_model.specs.Cover.{is_within}
use Rattle.analysis_model.specs.Made.{code_numbers, ranges_made_of}
use Rattle.coverage_map.specs.declared.area.Area.{Area}
use Rattle.coverage_map.specs.Coverage.{area_numbers}

-- an address of the ranges of code from a place on
abbrev pub is_code_behind : List Area → ℕ → ℕ → Bool
is_code_behind code place pc = is_within (ranges_made_of (area_numbers (drop place code))) pc

pub area_numbers-last : (code : List Area) (area : Area) → area_numbers (code ++ area ∷ []) ≡ area_numbers code ++ area.address ∷ area.size ∷ []
area_numbers-last [] area = refl
area_numbers-last (first ∷ code) area = ap (λ l. first.address ∷ first.size ∷ l) (area_numbers-last code area)

-- the numbers of the ranges so far, and of the segments still to come
pub code_goes_on : (code : List Area) (segments : List Segment) (index : ℕ) (segment other : Segment) → index < length segments → segment ≡ get_or segments index other → area_numbers code ++ code_numbers (drop index segments) ≡ code_numbers segments → area_numbers code ++ code_numbers (segment ∷ drop (index + 1) segments) ≡ code_numbers segments
code_goes_on code segments index segment other h is so_far =
    let front : segment ∷ drop (index + 1) segments ≡ drop index segments = rw is (sym (drop_more segments index other h)) in
    ap (λ rest. area_numbers code ++ code_numbers rest) front ∙ so_far

pub code_takes : (code : List Area) (rest : List Segment) (segment : Segment) → segment.executable ≡ true → area_numbers (code ++ record { address = segment.address; size = segment.size } ∷ []) ++ code_numbers rest ≡ area_numbers code ++ code_numbers (segment ∷ rest)
code_takes code rest segment e =
    let area : Area = record { address = segment.address; size = segment.size } in
    rw (e, area_numbers-last code area) (append_assoc (area_numbers code) (area.address ∷ area.size ∷ []) (code_numbers rest))

pub code_skips : (code : List Area) (rest : List Segment) (segment : Segment) → segment.executable ≡ false → area_numbers code ++ code_numbers rest ≡ area_numbers code ++ code_numbers (segment ∷ rest)
code_skips code rest segment e = rw e refl
