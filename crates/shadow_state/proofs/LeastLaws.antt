-- What a search finds, as the least address whose value passes a test.
use Rattle.std.proofs.Common.{◌≡◌, ◌≢◌, inl, inr, ℕ, ◌+◌, ◌-◌, ◌^◌, ◌<◌, ◌≤◌, min, max, nat_le, Bool, true, false, cond, length, get_or, Option, None, Some, refl, sym, ap, ◌∙◌, arith}
use Rattle.std.specs.Prelude.{IfSome, IfNone}
use Rattle.std.specs.Int.Bits.{bit_and}
use Rattle.std.proofs.lemmas.Bool.{cases_lt}
use Rattle.std.proofs.lemmas.Bool.Decides.{nat_tests}
use Rattle.std.proofs.lemmas.List.{get_or_past}
use Rattle.std.proofs.lemmas.Nat.{and_le_l}
use Rattle.memory_map.specs.declared.TheConstants.{RAM_START}
use Rattle.list_laws.specs.Least.{least_between}
use Rattle.list_laws.proofs.LeastLaws.{least_none, least_found}
use Rattle.shadow_state.specs.Shade.{Shade, shade, IsLeast, NoneBetween}

-- outside RAM each value is 0
pub shade-below : (s : Shade) (address : ℕ) → address < RAM_START → shade s address ≡ 0
shade-below s address h = grind (arith, nat_tests)

pub shade-above : (s : Shade) (address : ℕ) → RAM_START + length s.bytes ≤ address → shade s address ≡ 0
shade-above s address h =
    let past : get_or s.bytes (address - RAM_START) 0 ≡ 0 = get_or_past s.bytes (address - RAM_START) 0 (omega arith) in
    ap (λ v. cond (nat_le RAM_START address) v 0) past ∙ same (nat_le RAM_START address) 0
  where
    same : (b : Bool) (v : ℕ) → cond b v v ≡ v
    same true v = refl
    same false v = refl

zero_and : (set : ℕ) → bit_and 0 set ≡ 0
zero_and set = omega (arith, and_le_l 0 set)

-- an address whose value has a bit is in RAM
in_ram_from : (s : Shade) (set address : ℕ) → bit_and (shade s address) set ≢ 0 → RAM_START ≤ address
in_ram_from s set address has =
    elim (cases_lt address RAM_START) [
      | inl below ↦ absurd (has (ap (λ v. bit_and v set) (shade-below s address below) ∙ zero_and set))
      | inr from ↦ from
    ]

in_ram_to : (s : Shade) (set address : ℕ) → bit_and (shade s address) set ≢ 0 → address < RAM_START + length s.bytes
in_ram_to s set address has =
    elim (cases_lt address (RAM_START + length s.bytes)) [
      | inl below ↦ below
      | inr above ↦ absurd (has (ap (λ v. bit_and v set) (shade-above s address above) ∙ zero_and set))
    ]

-- the test passes exactly the bytes with one of these bits
pub record Tests (set : ℕ) (test : ℕ → Bool) : Type 0 where
  pub clear : (value : ℕ) → value < 2 ^ 8 → bit_and value set ≡ 0 → test value ≡ false
  pub has : (value : ℕ) → bit_and value set ≢ 0 → test value ≡ true

module _ (s : Shade) (bytes : (address : ℕ) → shade s address < 2 ^ 8) (set : ℕ) (test : ℕ → Bool) (tests : Tests set test) (from to : ℕ) where
  -- over the whole range
  pub searched : (o : Option ℕ) → IfSome o (IsLeast s from to set) → IfNone o (NoneBetween s set from to) → o ≡ least_between (λ address. test (shade s address)) from to
  searched None some none = sym (least_none (λ address. test (shade s address)) from (to - from) (λ n low high. tests.clear (shade s n) (bytes n) (none n low (omega arith))))
  searched (Some address) some none =
      sym (least_found (λ address. test (shade s address)) from (to - from) (address - from) address (omega (arith, some.from_on)) (omega (arith, some.from_on, some.below)) (tests.has (shade s address) some.has_one)
      (λ n low high. tests.clear (shade s n) (bytes n) (some.none_before n low (omega (arith, some.from_on)))))

  -- and clipped to RAM
  pub searched_in_ram : (o : Option ℕ) → IfSome o (IsLeast s from to set) → IfNone o (NoneBetween s set from to) → o ≡ least_between (λ address. test (shade s address)) (max from RAM_START) (min to (RAM_START + length s.bytes))
  searched_in_ram None some none =
      sym (least_none (λ address. test (shade s address)) (max from RAM_START) (min to (RAM_START + length s.bytes) - max from RAM_START)
      (λ n low high. tests.clear (shade s n) (bytes n) (none n (omega arith) (omega arith))))
  searched_in_ram (Some address) some none =
      let low_end = in_ram_from s set address some.has_one in
      let high_end = in_ram_to s set address some.has_one in
      sym (least_found (λ address. test (shade s address)) (max from RAM_START) (min to (RAM_START + length s.bytes) - max from RAM_START) (address - max from RAM_START) address
      (omega (arith, some.from_on, low_end)) (omega (arith, some.from_on, some.below, low_end, high_end)) (tests.has (shade s address) some.has_one)
      (λ n low high. tests.clear (shade s n) (bytes n) (some.none_before n (omega arith) (omega (arith, some.from_on, low_end)))))
