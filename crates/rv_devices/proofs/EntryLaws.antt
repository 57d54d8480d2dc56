-- Entries that are due, those that are not, and what an entry more says.
use Rattle.std.proofs.Common.{◌≡◌, ℕ, zero, suc, ◌+◌, ◌<◌, ◌≤◌, List, [], ◌∷◌, ◌++◌, length, take, drop, Option, Some, None, slice_get, get_or, refl, sym, ◌∙◌, ap, subst, arith, add-one}
use Rattle.std.specs.Prelude.{sum_by, IfSome}
use Rattle.std.specs.Option.{option_to_list}
use Rattle.std.specs.List.{filter_map, flat_map}
use Rattle.std.proofs.lemmas.List.Sums.{sum_by-append}
use Rattle.std.proofs.lemmas.List.Elements.{filter_map-append}
use Rattle.std.proofs.Math.Seq.{drop-append_seam, drop-nil}
use Rattle.std.proofs.lemmas.Option.{slice_get-get_or}
use Rattle.list_laws.proofs.PrefixLaws.{take-next}
use Rattle.machine_model.specs.Script.{Entry}
use Rattle.machine_model.specs.Board.{RisesFrom, arrivals_of, ticks_by, latency_by, last_or}
use Rattle.rv_devices.specs.Entries.{AreDue, AreLater, ticks_of, ticks_before, latency_before, arrivals_at}

-- what is due stays due
pub AreDue-more : (begun later place : ℕ) (entries : List Entry) → begun ≤ later → AreDue begun place entries → AreDue later place entries
AreDue-more begun later zero entries more due = tt
AreDue-more begun later (suc place) [] more due = due
AreDue-more begun later (suc place) (entry ∷ entries) more due = (omega (arith, due.0, more), AreDue-more begun later place entries more due.1)

-- one entry more that is due
AreDue-suc : (begun place : ℕ) (entries : List Entry) (entry : Entry) → AreDue begun place entries → slice_get entries place ≡ Some entry → entry.at < begun → AreDue begun (suc place) entries
AreDue-suc begun zero [] entry due at below = cc
AreDue-suc begun zero (first ∷ entries) entry due at below = let same : entry ≡ first = cc in (subst (λ (e : Entry). e.at < begun) same below, tt)
AreDue-suc begun (suc place) [] entry due at below = due
AreDue-suc begun (suc place) (first ∷ entries) entry due at below = (due.0, AreDue-suc begun place entries entry due.1 at below)

pub AreDue-next : (begun place : ℕ) (entries : List Entry) (entry : Entry) → AreDue begun place entries → slice_get entries place ≡ Some entry → entry.at < begun → AreDue begun (place + 1) entries
AreDue-next begun place entries entry due at below = subst (λ n. AreDue begun n entries) (sym (add-one place)) (AreDue-suc begun place entries entry due at below)

-- before the first step none is due
pub AreDue-none : (place : ℕ) (entries : List Entry) → AreDue 0 place entries → place ≡ 0
AreDue-none zero entries due = refl
AreDue-none (suc place) [] due = absurd due
AreDue-none (suc place) (entry ∷ entries) due = absurd (omega (arith, due.0))

-- what comes later comes no earlier
pub AreLater-less : (low high : ℕ) (entries : List Entry) → low ≤ high → AreLater high entries → AreLater low entries
AreLater-less low high [] less later = tt
AreLater-less low high (entry ∷ entries) less later = (omega (arith, later.0, less), AreLater-less low high entries less later.1)

pub AreLater-zero : (entries : List Entry) → AreLater 0 entries
AreLater-zero [] = tt
AreLater-zero (entry ∷ entries) = (omega arith, AreLater-zero entries)

RisesFrom-less : (low high : ℕ) (entries : List Entry) → low ≤ high → RisesFrom high entries → RisesFrom low entries
RisesFrom-less low high [] less rises = tt
RisesFrom-less low high (entry ∷ entries) less rises = (omega (arith, rises.0, less), rises.1)

rises_later : (step : ℕ) (entries : List Entry) → RisesFrom step entries → AreLater step entries
rises_later step [] rises = tt
rises_later step (entry ∷ entries) rises = (rises.0, AreLater-less step entry.at entries rises.0 (rises_later entry.at entries rises.1))

-- where steps do not fall, the entries from a place on are no earlier than the one at the place
pub later_from : (step place : ℕ) (entries : List Entry) → RisesFrom 0 entries → IfSome (slice_get entries place) (λ entry. step ≤ entry.at) → AreLater step (drop place entries)
later_from step zero [] rises far = tt
later_from step zero (entry ∷ entries) rises far = (far, AreLater-less step entry.at entries far (rises_later entry.at entries rises.1))
later_from step (suc place) [] rises far = tt
later_from step (suc place) (entry ∷ entries) rises far = later_from step place entries (RisesFrom-less 0 entry.at entries (omega arith) rises.1) far

-- the ticks of an entry more
pub ticks-next : (place : ℕ) (entries : List Entry) (entry : Entry) → slice_get entries place ≡ Some entry → ticks_before (place + 1) entries ≡ ticks_before place entries + ticks_by entry.what
ticks-next place entries entry at =
    let one : sum_by ticks_of (entry ∷ []) ≡ ticks_by entry.what = omega arith in
    ap (sum_by ticks_of) (take-next place entries entry at) ∙ sum_by-append ticks_of (take place entries) (entry ∷ []) ∙ ap (λ n. ticks_before place entries + n) one

-- the latency after an entry more
last_or-append : (before : ℕ) (xs ys : List ℕ) → last_or before (xs ++ ys) ≡ last_or (last_or before xs) ys
last_or-append before [] ys = refl
last_or-append before (x ∷ xs) ys = last_or-append x xs ys

one_of : (o : Option ℕ) (before : ℕ) (entry : Entry) → latency_by entry.what ≡ o → last_or before (filter_map (λ (e : Entry). latency_by e.what) (entry ∷ [])) ≡ last_or before (option_to_list (latency_by entry.what))
one_of None before entry is = rw is refl
one_of (Some steps) before entry is = rw is refl

pub latency-next : (place : ℕ) (entries : List Entry) (entry : Entry) → slice_get entries place ≡ Some entry → latency_before (place + 1) entries ≡ last_or (latency_before place entries) (option_to_list (latency_by entry.what))
latency-next place entries entry at =
    ap (λ l. last_or 1000 (filter_map (λ (e : Entry). latency_by e.what) l)) (take-next place entries entry at)
    ∙ ap (last_or 1000) (filter_map-append (λ (e : Entry). latency_by e.what) (take place entries) (entry ∷ []))
    ∙ last_or-append 1000 (filter_map (λ (e : Entry). latency_by e.what) (take place entries)) (filter_map (λ (e : Entry). latency_by e.what) (entry ∷ []))
    ∙ one_of (latency_by entry.what) (latency_before place entries) entry refl

-- past an entry with no byte left
skipped : (source taken : ℕ) (entries : List Entry) → taken ≡ length (arrivals_at source entries) → drop taken (flat_map arrivals_of (drop source entries)) ≡ flat_map arrivals_of (drop (suc source) entries)
skipped zero taken [] all = drop-nil taken
skipped zero taken (entry ∷ entries) all = ap (λ n. drop n (arrivals_of entry ++ flat_map arrivals_of entries)) all ∙ drop-append_seam (arrivals_of entry) (flat_map arrivals_of entries)
skipped (suc source) taken [] all = drop-nil taken
skipped (suc source) taken (entry ∷ entries) all = skipped source taken entries all

pub left_skipped : (source taken : ℕ) (entries : List Entry) → taken ≤ length (arrivals_at source entries) → length (arrivals_at source entries) ≤ taken → flat_map arrivals_of (drop (source + 1) entries) ≡ drop taken (flat_map arrivals_of (drop source entries))
left_skipped source taken entries within spent = ap (λ n. flat_map arrivals_of (drop n entries)) (add-one source) ∙ sym (skipped source taken entries (omega (arith, within, spent)))

-- what stands at a place
pub at_place : {X : Type 0} (xs : List X) (place : ℕ) (x : X) → place < length xs → x ≡ get_or xs place x → slice_get xs place ≡ Some x
at_place xs place x within is = slice_get-get_or xs place x within ∙ ap Some (sym is)
