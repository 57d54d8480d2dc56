-- How the definitions of an image file go on, from one header or segment to the next.
use Rattle.std.proofs.Common.{◌≡◌, ℕ, suc, ◌+◌, ◌-◌, ◌*◌, ◌<◌, ◌≤◌, List, [], ◌∷◌, ◌++◌, length, get_or, take, drop, Some, None, Result, Ok, Err, refl, sym, ap, ◌∙◌, append_assoc, arith}
use Rattle.std.proofs.lemmas.List.{drop_more, drop_all, take_more}
use Rattle.format_model.specs.Then.{◌>>=◌}
use Rattle.format_model.specs.ImageFile.{Fault, Overlap, Load, load_at, with_front, loads_at, first_shared, overlap_after}

grouped : (front here new : List Load) (rest : Result (List Load) Fault) → front ++ here ≡ new → with_front front (with_front here rest) ≡ with_front new rest
grouped front here new (Ok more) is = ap (λ (x : List Load). Ok x) (sym (append_assoc front here more) ∙ ap (λ (x : List Load). x ++ more) is)
grouped front here new (Err e) is = refl

one_on : (front new : List Load) (one rest : Result (List Load) Fault) → with_front front one ≡ Ok new → with_front front (one >>= λ here. with_front here rest) ≡ with_front new rest
one_on front new (Ok here) rest e = grouped front here new rest cc
one_on front new (Err d) rest e = absurd cc

one_stops : (front : List Load) (one rest : Result (List Load) Fault) (e : Fault) → with_front front one ≡ Err e → with_front front (one >>= λ here. with_front here rest) ≡ Err e
one_stops front (Ok here) rest e stops = absurd cc
one_stops front (Err d) rest e stops = stops

-- a header's loads were added
pub loads_on : (front new : List Load) (file : List ℕ) (size start count index : ℕ) (total : Result (List Load) Fault) → index < count → with_front front (load_at file size (start + 32 * index) index) ≡ Ok new
    → with_front front (loads_at (count - index) file size start index) ≡ total → with_front new (loads_at (count - (index + 1)) file size start (index + 1)) ≡ total
unfolding loads_at
loads_on front new file size start count index total more is_new so_far =
    let k : count - index ≡ suc (count - (index + 1)) = omega arith in
    sym (one_on front new (load_at file size (start + 32 * index) index) (loads_at (count - (index + 1)) file size start (index + 1)) is_new) ∙ (rw k at so_far)

-- a header was refused
pub loads_stop : (front : List Load) (file : List ℕ) (size start count index : ℕ) (total : Result (List Load) Fault) (e : Fault) → index < count → with_front front (load_at file size (start + 32 * index) index) ≡ Err e
    → with_front front (loads_at (count - index) file size start index) ≡ total → total ≡ Err e
unfolding loads_at
loads_stop front file size start count index total e more stops so_far =
    let k : count - index ≡ suc (count - (index + 1)) = omega arith in
    sym (rw k at so_far) ∙ one_stops front (load_at file size (start + 32 * index) index) (loads_at (count - (index + 1)) file size start (index + 1)) e stops

ended : (front : List Load) → front ++ [] ≡ front
ended [] = refl
ended (load ∷ loads) = ap (λ (x : List Load). load ∷ x) (ended loads)

pub loads_end : (front : List Load) (file : List ℕ) (size start count index : ℕ) (total : Result (List Load) Fault) → count ≤ index → with_front front (loads_at (count - index) file size start index) ≡ total → total ≡ Ok front
unfolding loads_at
loads_end front file size start count index total none so_far =
    let k : count - index ≡ 0 = omega arith in
    sym (rw k at so_far) ∙ ap (λ (x : List Load). Ok x) (ended front)

-- a segment shares no address with those before it
pub apart_on : (loads : List Load) (i : ℕ) (load : Load) (total : Result (Unit {0}) Fault) → i < length loads → load ≡ get_or loads i load → first_shared load.segment (take i loads) ≡ None
    → overlap_after (take i loads) (drop i loads) ≡ total → overlap_after (take (i + 1) loads) (drop (i + 1) loads) ≡ total
unfolding overlap_after
apart_on loads i load total more is alone so_far =
    let next : drop i loads ≡ load ∷ drop (i + 1) loads = drop_more loads i load more ∙ ap (λ (x : Load). x ∷ drop (i + 1) loads) (sym is) in
    let longer : take (i + 1) loads ≡ take i loads ++ load ∷ [] = take_more loads i load more ∙ ap (λ (x : Load). take i loads ++ x ∷ []) (sym is) in
    rw longer (rw (next, alone) at so_far)

-- it shares one with this one
pub apart_stops : (loads : List Load) (i : ℕ) (load : Load) (other : ℕ) (total : Result (Unit {0}) Fault) → i < length loads → load ≡ get_or loads i load → first_shared load.segment (take i loads) ≡ Some other
    → overlap_after (take i loads) (drop i loads) ≡ total → total ≡ Err (Overlap other load.index)
unfolding overlap_after
apart_stops loads i load other total more is shares so_far =
    let next : drop i loads ≡ load ∷ drop (i + 1) loads = drop_more loads i load more ∙ ap (λ (x : Load). x ∷ drop (i + 1) loads) (sym is) in
    sym (rw (next, shares) at so_far)

pub apart_end : (loads : List Load) (i : ℕ) (total : Result (Unit {0}) Fault) → length loads ≤ i → overlap_after (take i loads) (drop i loads) ≡ total → total ≡ Ok tt
unfolding overlap_after
apart_end loads i total none so_far = sym (rw (drop_all i loads none) at so_far)
