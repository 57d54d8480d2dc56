-- A word has one of the bits that are the same in each of its bytes where one of the bytes has one.
use Rattle.std.proofs.Common.{◌≡◌, ℕ, zero, suc, ◌+◌, ◌-◌, ◌*◌, ◌/◌, ◌%◌, ◌^◌, ◌<◌, ◌==◌, true, false, List, get_or, sym, ap, ◌∙◌, arith}
use Rattle.std.specs.Int.Bits.{bit_and}
use Rattle.std.proofs.lemmas.Bool.Decides.{nat_tests}
use Rattle.std.proofs.lemmas.Nat.{and_mask, and_comm, and_assoc, and_shr}
use Rattle.shadow_state.specs.Places.{NoPlace}

low_and : (x y : ℕ) → bit_and x y % 2 ^ 8 ≡ bit_and (x % 2 ^ 8) (y % 2 ^ 8)
low_and x y =
    let low = y % 2 ^ 8 in
    let twice : low % 2 ^ 8 ≡ low = omega arith in
    let kept : bit_and (2 ^ 8 - 1) low ≡ low = and_comm (2 ^ 8 - 1) low ∙ and_mask low 8 ∙ twice in
    sym (and_mask (bit_and x y) 8) ∙ and_assoc (2 ^ 8 - 1) x y ∙ ap (bit_and x) (and_mask y 8) ∙ ap (bit_and x) (sym kept) ∙ sym (and_assoc low x (2 ^ 8 - 1)) ∙ ap (λ n. bit_and n low) (and_mask x 8)

-- two numbers, each by its lowest byte and the rest
module _ (low high s t : ℕ) (fits : low < 2 ^ 8) (small : s < 2 ^ 8) where
  lows : bit_and (low + 256 * high) (s + 256 * t) % 2 ^ 8 ≡ bit_and low s
  lows =
      let first : (low + 256 * high) % 2 ^ 8 ≡ low = omega arith in
      let second : (s + 256 * t) % 2 ^ 8 ≡ s = omega arith in
      low_and (low + 256 * high) (s + 256 * t) ∙ ap (λ n. bit_and n ((s + 256 * t) % 2 ^ 8)) first ∙ ap (bit_and low) second

  highs : bit_and (low + 256 * high) (s + 256 * t) / 2 ^ 8 ≡ bit_and high t
  highs =
      let first : (low + 256 * high) / 2 ^ 8 ≡ high = omega arith in
      let second : (s + 256 * t) / 2 ^ 8 ≡ t = omega arith in
      and_shr (low + 256 * high) (s + 256 * t) 8 ∙ ap (λ n. bit_and n ((s + 256 * t) / 2 ^ 8)) first ∙ ap (bit_and high) second

  low_clear : bit_and (low + 256 * high) (s + 256 * t) ≡ 0 → bit_and low s ≡ 0
  low_clear none = sym lows ∙ ap (λ n. n % 2 ^ 8) none

  high_clear : bit_and (low + 256 * high) (s + 256 * t) ≡ 0 → bit_and high t ≡ 0
  high_clear none = sym highs ∙ ap (λ n. n / 2 ^ 8) none

  both_clear : bit_and low s ≡ 0 → bit_and high t ≡ 0 → bit_and (low + 256 * high) (s + 256 * t) ≡ 0
  both_clear first rest = omega (arith, lows, highs, first, rest)

-- a word of four bytes, and the same bits four times
module _ (four : List ℕ) (set : ℕ) (fits : (i : ℕ) → i < 4 → get_or four i 0 < 2 ^ 8) (small : set < 2 ^ 8) where
  abbrev byte : ℕ → ℕ
  byte i = get_or four i 0

  abbrev upper : ℕ
  upper = byte 2 + 256 * byte 3

  abbrev rest : ℕ
  rest = byte 1 + 256 * upper

  abbrev sets : ℕ
  sets = set + 256 * (set + 256 * set)

  clear : bit_and (byte 0 + 256 * rest) (set + 256 * sets) ≡ 0 → NoPlace four set 0 4
  clear none place from below = at place below
    where
      none_in_rest : bit_and rest sets ≡ 0
      none_in_rest = high_clear (byte 0) rest set sets (fits 0 (omega arith)) small none

      none_in_upper : bit_and upper (set + 256 * set) ≡ 0
      none_in_upper = high_clear (byte 1) upper set (set + 256 * set) (fits 1 (omega arith)) small none_in_rest

      at : (place : ℕ) → place < 4 → bit_and (byte place) set ≡ 0
      at zero below = low_clear (byte 0) rest set sets (fits 0 (omega arith)) small none
      at (suc zero) below = low_clear (byte 1) upper set (set + 256 * set) (fits 1 (omega arith)) small none_in_rest
      at (suc (suc zero)) below = low_clear (byte 2) (byte 3) set set (fits 2 (omega arith)) small none_in_upper
      at (suc (suc (suc zero))) below = high_clear (byte 2) (byte 3) set set (fits 2 (omega arith)) small none_in_upper
      at (suc (suc (suc (suc n)))) below = absurd (omega arith)

  none : NoPlace four set 0 4 → bit_and (byte 0 + 256 * rest) (set + 256 * sets) ≡ 0
  none places =
      let at = λ (i : ℕ) (below : i < 4). places i (omega arith) below in
      both_clear (byte 0) rest set sets (fits 0 (omega arith)) small (at 0 (omega arith))
      (both_clear (byte 1) upper set (set + 256 * set) (fits 1 (omega arith)) small (at 1 (omega arith)) (both_clear (byte 2) (byte 3) set set (fits 2 (omega arith)) small (at 2 (omega arith)) (at 3 (omega arith))))

  module _ (word mask : ℕ) (read : word ≡ byte 0 + byte 1 * 256 + byte 2 * 65536 + byte 3 * 16777216) (same : mask ≡ set + set * 256 + set * 65536 + set * 16777216) where
    word_is : bit_and word mask ≡ bit_and (byte 0 + 256 * rest) (set + 256 * sets)
    word_is =
        let first : word ≡ byte 0 + 256 * rest = omega (arith, read) in
        let second : mask ≡ set + 256 * sets = omega (arith, same) in
        ap (λ n. bit_and n mask) first ∙ ap (bit_and (byte 0 + 256 * rest)) second

    pub lacks_clear : (bit_and word mask == 0) ≡ true → NoPlace four set 0 4
    lacks_clear is = clear (sym word_is ∙ grind (arith, nat_tests, is))

    pub lacks_marked : (bit_and word mask == 0) ≡ false → NoPlace four set 0 4 → ⊥
    lacks_marked is places = let zero_is : bit_and word mask ≡ 0 = word_is ∙ none places in grind (arith, nat_tests, is, zero_is)
