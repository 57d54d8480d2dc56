-- The marked words from a place on, as the place moves.
use Rattle.std.proofs.Common.{◌≡◌, ℕ, ◌+◌, ◌<◌, ◌≤◌, Bool, true, false, cond, List, [], ◌∷◌, length, drop, get_or, slice_get, Some, refl, ap, ◌∙◌, arith}
use Rattle.std.proofs.lemmas.List.{drop_all, length-drop, drop_more}
use Rattle.std.proofs.lemmas.Option.{get_or_from_slice_get, slice_get_within}
use Rattle.analysis_model.specs.Cover.{CodeRange, runs}
use Rattle.coverage_map.specs.Coverage.{marked_from}
use Rattle.coverage_map.specs.Places.{place_address, marked_from_place}
use Rattle.coverage_map.proofs.RangeLaws.{grown, grown-word, grown-grown, grown-apart, BeginBehind-marked}

next_address : (place : ℕ) → place_address place + 4 ≡ place_address (place + 1)
next_address place = omega arith

-- the mark at the place decides
rest_one : (marks : List Bool) (place : ℕ) (mark : Bool) → place < length marks → get_or marks place false ≡ mark → marked_from_place marks place ≡ cond mark (place_address place ∷ marked_from_place marks (place + 1)) (marked_from_place marks (place + 1))
rest_one marks place mark h is =
    let front : drop place marks ≡ mark ∷ drop (place + 1) marks = drop_more marks place false h ∙ ap (λ m. m ∷ drop (place + 1) marks) is in
    rw (front, next_address place) refl

pub rest-marked : (marks : List Bool) (place : ℕ) → place < length marks → get_or marks place false ≡ true → marked_from_place marks place ≡ place_address place ∷ marked_from_place marks (place + 1)
rest-marked marks place h is = rest_one marks place true h is

pub rest-clear : (marks : List Bool) (place : ℕ) → place < length marks → get_or marks place false ≡ false → marked_from_place marks place ≡ marked_from_place marks (place + 1)
rest-clear marks place h is = rest_one marks place false h is

pub rest-end : (marks : List Bool) (place : ℕ) → length marks ≤ place → marked_from_place marks place ≡ []
rest-end marks place h = ap (marked_from (place_address place)) (drop_all place marks h)

-- a range begins with the word at the place
pub range_begins : (marks : List Bool) (place : ℕ) → place < length marks → get_or marks place false ≡ true → runs (marked_from_place marks place) ≡ grown (place_address place) (place_address (place + 1)) (runs (marked_from_place marks (place + 1)))
range_begins marks place h is = ap runs (rest-marked marks place h is) ∙ grown-word (place_address place) _ ∙ ap (λ to. grown (place_address place) to (runs (marked_from_place marks (place + 1)))) (next_address place)

-- it goes on with the word at the place
pub range_grows : (marks : List Bool) (start place : ℕ) → place < length marks → get_or marks place false ≡ true → grown (place_address start) (place_address place) (runs (marked_from_place marks place)) ≡ grown (place_address start) (place_address (place + 1)) (runs (marked_from_place marks (place + 1)))
range_grows marks start place h is = ap (grown (place_address start) (place_address place)) (range_begins marks place h is) ∙ grown-grown (place_address start) (place_address place) (place_address (place + 1)) _

-- it ends where the word at the place is not marked
pub range_ends : (marks : List Bool) (start place : ℕ) → place < length marks → get_or marks place false ≡ false → grown (place_address start) (place_address place) (runs (marked_from_place marks place)) ≡ record { from = place_address start; to = place_address place } ∷ runs (marked_from_place marks place)
range_ends marks start place h is =
    let behind = BeginBehind-marked (place_address place) (place_address (place + 1)) (drop (place + 1) marks) (omega arith) in
    rw (rest-clear marks place h is) (grown-apart (place_address start) (place_address place) (runs (marked_from_place marks (place + 1))) behind)

-- or where there is no word more
pub range_ends_last : (marks : List Bool) (start place : ℕ) → length marks ≤ place → grown (place_address start) (place_address place) (runs (marked_from_place marks place)) ≡ record { from = place_address start; to = place_address place } ∷ runs (marked_from_place marks place)
range_ends_last marks start place h = rw (rest-end marks place h) refl

-- some range is left where the place is one of a mark
pub range_is_there : (marks : List Bool) (ranges : List CodeRange) (done place : ℕ) → drop done ranges ≡ runs (marked_from_place marks place) → done < length ranges → place < length marks
range_is_there marks ranges done place e h =
    let none = λ (end : length marks ≤ place). let empty : drop done ranges ≡ [] = e ∙ ap runs (rest-end marks place end) in ap length empty in
    grind (arith, none, length-drop)

pub range_begins_at : (marks : List Bool) (place : ℕ) → slice_get marks place ≡ Some true → runs (marked_from_place marks place) ≡ grown (place_address place) (place_address (place + 1)) (runs (marked_from_place marks (place + 1)))
range_begins_at marks place e = range_begins marks place (slice_get_within marks place true e) (get_or_from_slice_get marks place true false e)
