-- What an append keeps.
use Rattle.std.proofs.Common.{◌≡◌, ℕ, ◌+◌, ◌-◌, ◌<◌, ◌≤◌, Bool, IsTrue, true, false, cond, nat_eq, nat_lt, List, [], ◌∷◌, ◌++◌, length, min, slice_index, None, Some, option_map, arith, refl, slice_get}
use Rattle.std.proofs.lemmas.List.{length-drop, length_push}
use Rattle.std.proofs.lemmas.List.Sums.{fails_before_first}
use Rattle.std.proofs.lemmas.List.Elements.{All-drop, All-push}
use Rattle.std.specs.List.{All, position_or_len}
use Rattle.circular_buffer.specs.Buffer.{keep_last}
use Rattle.list_laws.proofs.PlaceLaws.{all-at}
use Rattle.run_events.specs.declared.record.Record.{Record}
use Rattle.run_events.specs.Record.{IsRecord}
use Rattle.gate_core.specs.declared.verdict.Verdict.{Verdict}
use Rattle.gate_core.specs.Hub.{IsHub, IsWithin, hub_state, full_at, is_cap}

-- where no place is named, none was found
pub none_found : {X Y : Type 0} (f : X → Y) (low found : Bool) (x : X) → low ≡ false → None ≡ cond low None (option_map f (cond found (Some x) None)) → found ≡ false
none_found f low false x far none = refl
none_found f true true x far none = far
none_found f false true x far none = grind arith

-- a reader of a log that is not full has room for one record more
pub room_left : (counts : List ℕ) (total n : ℕ) → None ≡ full_at counts total n → (reader : ℕ) → reader < length counts → IsWithin n total (slice_index counts reader) → IsWithin n (total + 1) (slice_index counts reader)
room_left counts total n none reader low within =
    let passes : ℕ → Bool = λ count. nat_eq count (total - n) in
    let apart : total ≡ slice_index counts reader + n → ⊥ =
    λ same.
    let high : nat_lt total n ≡ false = grind arith in
    let found : nat_lt (position_or_len passes counts) (length counts) ≡ false = none_found _ _ _ _ high none in
    let before : reader < position_or_len passes counts = grind arith in
    let other : nat_eq (slice_index counts reader) (total - n) ≡ false = fails_before_first passes counts reader 0 before in
    grind arith in
    let first : slice_index counts reader ≤ total + 1 = omega arith in
    let second : total + 1 ≤ slice_index counts reader + n = omega arith in
    (first, second)

-- how many records are stored after one more
pub stored_more : (n total : ℕ) (items : List Record) (item : Record) → length items ≡ min total n → length (keep_last n (items ++ item ∷ [])) ≡ min (total + 1) n
stored_more n total items item was =
    let more : length (items ++ item ∷ []) ≡ length items + 1 = length_push items item in
    let left : length (keep_last n (items ++ item ∷ [])) ≡ length (items ++ item ∷ []) - (length (items ++ item ∷ []) - n) = length-drop _ _ in
    omega arith

-- a record that is found among such is such a one
pub stored_record : (items : List Record) (place : ℕ) (item : Record) → All IsRecord items → slice_get items place ≡ Some item → IsRecord item
stored_record items place item all here = all-at IsRecord place items item all here

pub cap_bound : (n : ℕ) → IsTrue (is_cap n) → n ≤ 65536
cap_bound n h = grind arith

-- an append keeps what is true of every hub
pub append-IsHub : (n total : ℕ) (items : List Record) (counts : List ℕ) (posted : List Verdict) (ended : Bool) (item : Record)
    → IsHub (hub_state n items total counts posted ended) → total < 4611686018427387904 → None ≡ full_at counts total n → IsRecord item
    → IsHub (hub_state n (keep_last n (items ++ item ∷ [])) (total + 1) counts posted ended)
append-IsHub n total items counts posted ended item was few none new = record {
  cap = was.cap;
  readers = was.readers;
  verdicts = was.verdicts;
  stored = stored_more n total items item was.stored;
  records = All-drop IsRecord (length (items ++ item ∷ []) - n) (items ++ item ∷ []) (All-push IsRecord items item was.records new);
  appended = omega arith;
  taken = λ reader low. room_left counts total n none reader low (was.taken reader low);
}
