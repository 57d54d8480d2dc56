-- Each call of a hub is its event of the core.
use Rattle.std.proofs.Common.{◌≡◌, ℕ, ◌+◌, ◌-◌, ◌<◌, ◌≤◌, Bool, true, false, cond, nat_eq, nat_lt, List, [], ◌∷◌, ◌++◌, length, take, drop, slice_index, slice_set, slice_get, Option, Some, None, arith, refl, sym, ap, ◌∙◌}
use Rattle.std.specs.Prelude.{is_some, option_map}
use Rattle.std.specs.List.{position}
use Rattle.std.proofs.lemmas.List.Quantifiers.{position-Some}
use Rattle.std.proofs.lemmas.List.{length-drop, length-take-le, drop-append-le, drop-drop, length_push, map-set}
use Rattle.std.proofs.lemmas.Option.{slice_get_within}
use Rattle.circular_buffer.specs.Buffer.{keep_last}
use Rattle.circular_buffer.proofs.Places.{slice_get-take, slice_get-drop}
use Rattle.list_laws.proofs.PrefixLaws.{take-next}
use Rattle.run_events.specs.declared.record.Record.{Record}
use Rattle.gate_core.specs.declared.full.Full.{Full}
use Rattle.gate_core.specs.declared.verdict.Verdict.{Verdict}
use Rattle.gate_core.specs.Core.{Plan, CoreState, approves}
use Rattle.gate_core.specs.Hub.{HubState, hub_state, full_of, full_at}
use Rattle.gate_core.specs.Follow.{hub_of, approvals, AppendFollows, RefusalFollows, TakeFollows, PostFollows}
use Rattle.gate_core.proofs.HubLaws.{room_left}

-- the last records of those kept and one more are the last of all of them
keep_more : {X : Type 0} (n : ℕ) (xs : List X) (x : X) → keep_last n (keep_last n xs ++ x ∷ []) ≡ keep_last n (xs ++ x ∷ [])
keep_more n xs x =
    let k : ℕ = length xs - n in
    let kept : length (keep_last n xs) ≡ length xs - k = length-drop k xs in
    let more : length (keep_last n xs ++ x ∷ []) ≡ length (keep_last n xs) + 1 = length_push (keep_last n xs) x in
    let all : length (xs ++ x ∷ []) ≡ length xs + 1 = length_push xs x in
    let low : k ≤ length xs = omega arith in
    ap (drop (length (keep_last n xs ++ x ∷ []) - n)) (sym (drop-append-le k xs (x ∷ []) low))
    ∙ drop-drop (length (keep_last n xs ++ x ∷ []) - n) k (xs ++ x ∷ [])
    ∙ ap (λ j. drop j (xs ++ x ∷ [])) (omega (arith, kept, more, all))

-- where a hub is full, a reader has a whole log still to take
pub named : (counts : List ℕ) (total n : ℕ) (full : Full) → full_at counts total n ≡ Some full → (reader : ℕ) × ((reader < length counts) × (slice_index counts reader + n ≡ total))
named counts total n full is = by_size (nat_lt total n) refl is
  where
    passes : ℕ → Bool
    passes count = nat_eq count (total - n)

    of_reader : ℕ → Full
    of_reader reader = record { reader = reader; taken = total - n }

    by_place : nat_lt total n ≡ false → (o : Option ℕ) → position passes counts ≡ o → option_map of_reader o ≡ Some full → (reader : ℕ) × ((reader < length counts) × (slice_index counts reader + n ≡ total))
    by_place large None at none = cc
    by_place large (Some reader) at some =
        let found = position-Some passes counts reader 0 at in
        let same : nat_eq (slice_index counts reader) (total - n) ≡ true = found.1 in
        (reader, (found.0, grind (arith, same, large)))

    by_size : (b : Bool) → nat_lt total n ≡ b → cond b None (option_map of_reader (position passes counts)) ≡ Some full → (reader : ℕ) × ((reader < length counts) × (slice_index counts reader + n ≡ total))
    by_size true small none = cc
    by_size false large some = by_place large (position passes counts) refl some

pub appends : AppendFollows
appends plan s posted item sound opened fine next none =
    let all : List Record = take s.appended plan.items in
    let test : is_some (full_of (hub_of plan s posted)) ≡ false = ap is_some none in
    let low : s.appended < length plan.items = slice_get_within plan.items s.appended item next in
    let longer : all ++ item ∷ [] ≡ take (s.appended + 1) plan.items = sym (take-next s.appended plan.items item next) in
    record {
      may = record {
        «open» = opened;
        sound = fine;
        more = low;
        room = λ reader below.
            let there : reader < length s.taken = omega (arith, below, sound.taken) in
            let left = room_left s.taken s.appended plan.cap (sym none) reader there ((sound.readers reader below).taken, (sound.readers reader below).room) in
            omega (arith, left.1);
      };
      after = ap (λ b. hub_state plan.cap (cond b (keep_last plan.cap all) (keep_last plan.cap (keep_last plan.cap all ++ item ∷ []))) (cond b s.appended (s.appended + 1)) s.taken posted s.closed) test
          ∙ ap (λ l. hub_state plan.cap l (s.appended + 1) s.taken posted s.closed) (keep_more plan.cap all item ∙ ap (keep_last plan.cap) longer);
    }

pub refuses : RefusalFollows
refuses plan s posted item full sound is =
    let all : List Record = take s.appended plan.items in
    let behind = named s.taken s.appended plan.cap full is in
    record {
      may_not = λ may.
          let there : behind.0 < length plan.limits = omega (arith, behind.1.0, sound.taken) in
          omega (arith, may.room behind.0 there, behind.1.1);
      after = ap (λ b. hub_state plan.cap (cond b (keep_last plan.cap all) (keep_last plan.cap (keep_last plan.cap all ++ item ∷ []))) (cond b s.appended (s.appended + 1)) s.taken posted s.closed) (ap is_some is);
    }

-- how a take moves a reader on
abbrev taken_after : Plan → CoreState → List Verdict → ℕ → Bool → HubState
taken_after plan s posted reader moves =
    hub_state plan.cap (keep_last plan.cap (take s.appended plan.items)) s.appended (cond moves (slice_set s.taken reader (slice_index s.taken reader + 1)) s.taken) posted s.closed

pub takes : TakeFollows
takes plan s posted reader item sound low gives =
    let all : List Record = take s.appended plan.items in
    let count : ℕ = slice_index s.taken reader in
    let behind : count < s.appended = gives.0 in
    let here : slice_get (keep_last plan.cap all) (length (keep_last plan.cap all) + count - s.appended) ≡ Some item = gives.1 in
    let long : length all ≡ s.appended = length-take-le s.appended plan.items sound.appended in
    let kept : length (keep_last plan.cap all) ≡ length all - (length all - plan.cap) = length-drop (length all - plan.cap) all in
    let room : s.appended ≤ count + plan.cap = (sound.readers reader low).room in
    let place : count ≡ (length all - plan.cap) + (length (keep_last plan.cap all) + count - s.appended) = omega (arith, long, kept, room, behind) in
    let moves : nat_lt count s.appended ≡ true = grind (arith, behind) in
    let found = sym (slice_get-take s.appended plan.items count behind) ∙ sym (slice_get-drop (length all - plan.cap) all (length (keep_last plan.cap all) + count - s.appended) count place) ∙ here in
    (record { may = (low, behind); after = ap (taken_after plan s posted reader) moves }, found)

pub posts : PostFollows
posts plan s posted reader verdict low board approved =
    let shown : approvals (slice_set posted reader verdict) ≡ slice_set s.approved reader (approves plan s reader) =
    map-set (λ (v : Verdict). v.approved) posted reader verdict ∙ ap (λ l. slice_set l reader verdict.approved) board ∙ ap (slice_set s.approved reader) approved in
    (record { may = low; after = refl }, shown)
