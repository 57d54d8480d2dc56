-- The places in which a list of kinds lies, and that they are known from the list.
use Rattle.std.proofs.Common.{◌≡◌, ℕ, ◌-◌, ◌≤◌, List, ◌++◌, length, take, replicate, refl, sym, arith}
use Rattle.std.proofs.lemmas.List.{length-take}
use Rattle.run_events.specs.declared.finding.Kind.{Kind}
use Rattle.run_events.specs.declared.finding.Kind.TheVariants.{Heap}
use Rattle.run_settings.specs.Kinds.{EachOnce}
use Rattle.run_settings.specs.declared.kinds.Kinds.TheInside.{Inside}

-- Five places, of which so many are used, each kind once; in the others stands the kind that stands in new ones.
pub record IsKept (used : ℕ) (places : List Kind) : Type 0 where
  pub five : length places ≡ 5
  pub within : used ≤ 5
  pub once : EachOnce (take used places)
  pub rest : places ≡ take used places ++ replicate (5 - used) Heap

used_again : (used : ℕ) (places : List Kind) → IsKept used places → length (take used places) ≡ used
used_again used places kept = let five = kept.five in let within = kept.within in omega (arith, length-take used places)

filled_again : (used : ℕ) (places : List Kind) → IsKept used places
    → take used places ++ replicate (5 - length (take used places)) Heap ≡ places
filled_again used places kept = rw (used_again used places kept) (sym kept.rest)

-- the list of kinds that contracts see
abbrev pub seen_in : Inside → List Kind
seen_in k = take k.used k.places

-- the places of a list of kinds
abbrev pub places_of : List Kind → Inside
places_of kinds = record {
  places = kinds ++ replicate (5 - length kinds) Heap;
  used = length kinds;
}

same : (p q : List Kind) (u v : ℕ) → p ≡ q → u ≡ v
    → (let x : Inside = record { places = p; used = u } in x) ≡ record { places = q; used = v }
same p q u v places used = rw (places, used) refl

pub places_again : (k : Inside) → IsKept k.used k.places → places_of (seen_in k) ≡ k
places_again k kept =
    same _ k.places _ k.used (filled_again k.used k.places kept) (used_again k.used k.places kept)
