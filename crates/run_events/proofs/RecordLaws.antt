-- How far a list of records comes.
use Rattle.std.proofs.Common.{◌≡◌, ℕ, ◌≤◌, Bool, true, nat_eq, nat_lt, ◌&&◌, ◌||◌, List, [], ◌∷◌, ◌++◌, ap, arith}
use Rattle.std.proofs.lemmas.List.{reverse-append}
use Rattle.run_events.specs.declared.record.Record.{Record}
use Rattle.run_events.specs.Record.{number, is_admitted, reach_back, reach}

-- a record that is admitted comes no less far than those before it
pub admitted_rises : (before : List Record) (item : Record) → is_admitted before item ≡ true → reach_back before ≤ number item
admitted_rises [] item is = omega arith
admitted_rises (last ∷ before) item is = rises (number last) (number item) _ _ is
  where
    rises : (a b : ℕ) (first rest : Bool) → (first && (nat_lt a b || (nat_eq a b && rest))) ≡ true → a ≤ b
    rises a b first rest h = grind arith

-- a list comes as far as its last record
pub reach_push : (front : List Record) (last : Record) → reach (front ++ last ∷ []) ≡ number last
reach_push front last = ap reach_back (reverse-append front (last ∷ []))
