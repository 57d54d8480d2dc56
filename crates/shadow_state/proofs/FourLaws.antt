-- Four bytes of RAM, by their places and by their addresses.
use Rattle.std.proofs.Common.{◌≡◌, ℕ, ◌+◌, ◌-◌, ◌^◌, ◌<◌, nat_le, cond, List, take, drop, get_or, true, sym, ap, ◌∙◌, arith}
use Rattle.std.specs.Int.Bits.{bit_and}
use Rattle.std.proofs.lemmas.Bool.Decides.{nat_tests}
use Rattle.std.proofs.lemmas.List.{get_or-take, get_or-drop}
use Rattle.memory_map.specs.declared.TheConstants.{RAM_START}
use Rattle.shadow_state.specs.Places.{NoPlace}
use Rattle.shadow_state.specs.Shade.{Shade, shade, NoneBetween}

in_four : (s : Shade) (place i : ℕ) → i < 4 → get_or (take 4 (drop place s.bytes)) i 0 ≡ shade s (RAM_START + place + i)
in_four s place i small =
    let here : place + i ≡ RAM_START + place + i - RAM_START = omega arith in
    let from : nat_le RAM_START (RAM_START + place + i) ≡ true = grind (arith, nat_tests) in
    get_or-take 4 (drop place s.bytes) i 0 small ∙ get_or-drop place s.bytes i 0 ∙ ap (λ n. get_or s.bytes n 0) here ∙ sym (ap (λ b. cond b (get_or s.bytes (RAM_START + place + i - RAM_START) 0) 0) from)

pub four_fit : (bytes : List ℕ) (place : ℕ) → ((n : ℕ) → get_or bytes n 0 < 2 ^ 8) → (i : ℕ) → i < 4 → get_or (take 4 (drop place bytes)) i 0 < 2 ^ 8
four_fit bytes place fit i small =
    let read : get_or (take 4 (drop place bytes)) i 0 ≡ get_or bytes (place + i) 0 = get_or-take 4 (drop place bytes) i 0 small ∙ get_or-drop place bytes i 0 in
    omega (arith, read, fit (place + i))

module _ (s : Shade) (four : List ℕ) (set address place : ℕ) (is : four ≡ take 4 (drop place s.bytes)) (at : RAM_START + place ≡ address) where
  of_four : (i : ℕ) → i < 4 → get_or four i 0 ≡ shade s (address + i)
  of_four i small = ap (λ l. get_or l i 0) is ∙ in_four s place i small ∙ ap (λ n. shade s (n + i)) at

  pub four_clear : NoPlace four set 0 4 → NoneBetween s set address (address + 4)
  four_clear none a low high =
      let i = a - address in
      let small : i < 4 = omega (arith, low, high) in
      let there : address + i ≡ a = omega (arith, low) in
      ap (λ n. bit_and (shade s n) set) (sym there) ∙ ap (λ v. bit_and v set) (sym (of_four i small)) ∙ none i (omega arith) small

  pub four_none : NoneBetween s set address (address + 4) → NoPlace four set 0 4
  four_none none i low high = ap (λ v. bit_and v set) (of_four i high) ∙ none (address + i) (omega arith) (omega (arith, high))
