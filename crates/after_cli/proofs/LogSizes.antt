-- The sizes of a log that words may name are those that a log may have.
use Rattle.std.proofs.Common.{◌≡◌, ℕ, zero, suc, ◌+◌, ◌/◌, ◌%◌, ◌^◌, ◌<◌, ◌≤◌, IsTrue, refl, subst, sym, arith}
use Rattle.std.specs.Prelude.{count_ones}
use Rattle.std.specs.Int.Count.{ones_step}
use Rattle.std.proofs.lemmas.Nat.{ones_le_self, zero_from_ones}
use Rattle.std.proofs.Math.Nat.{two-pow-succ}
use Rattle.std.proofs.Math.Pow.{pow_mono}
use Rattle.gate_core.specs.Hub.{is_cap}

-- a number with one digit set, from its half
from_half : (k n r : ℕ) → ((m : ℕ) → m < 2 ^ k → count_ones m ≡ 1 → (j : ℕ) × (m ≡ 2 ^ j)) → n < 2 ^ k + 2 ^ k → n % 2 ≡ r → r + count_ones (n / 2) ≡ 1 → (j : ℕ) × (n ≡ 2 ^ j)
from_half k n zero halves few low one =
    let half = halves (n / 2) (omega arith) (omega arith) in
    let twice = two-pow-succ half.0 in
    (suc half.0, omega (arith, half.1))
from_half k n (suc zero) halves few low one =
    let none : n / 2 ≡ 0 = zero_from_ones (n / 2) (omega arith) in
    (0, omega arith)
from_half k n (suc (suc r)) halves few low one = absurd (omega arith)

power : (k n : ℕ) → n < 2 ^ k → count_ones n ≡ 1 → (j : ℕ) × (n ≡ 2 ^ j)
power zero n few one = let least = ones_le_self n in absurd (omega arith)
power (suc k) n few one =
    let twice = two-pow-succ k in
    let step = ones_step n in
    from_half k n (n % 2) (power k) (omega arith) refl (omega arith)

cap_at : (j : ℕ) → 16 ≤ 2 ^ j → 2 ^ j ≤ 65536 → IsTrue (is_cap (2 ^ j))
cap_at zero least most = absurd (omega arith)
cap_at (suc zero) least most = absurd (omega arith)
cap_at (suc (suc zero)) least most = absurd (omega arith)
cap_at (suc (suc (suc zero))) least most = absurd (omega arith)
cap_at (suc (suc (suc (suc zero)))) least most = refl
cap_at (suc (suc (suc (suc (suc zero))))) least most = refl
cap_at (suc (suc (suc (suc (suc (suc zero)))))) least most = refl
cap_at (suc (suc (suc (suc (suc (suc (suc zero))))))) least most = refl
cap_at (suc (suc (suc (suc (suc (suc (suc (suc zero)))))))) least most = refl
cap_at (suc (suc (suc (suc (suc (suc (suc (suc (suc zero))))))))) least most = refl
cap_at (suc (suc (suc (suc (suc (suc (suc (suc (suc (suc zero)))))))))) least most = refl
cap_at (suc (suc (suc (suc (suc (suc (suc (suc (suc (suc (suc zero))))))))))) least most = refl
cap_at (suc (suc (suc (suc (suc (suc (suc (suc (suc (suc (suc (suc zero)))))))))))) least most = refl
cap_at (suc (suc (suc (suc (suc (suc (suc (suc (suc (suc (suc (suc (suc zero))))))))))))) least most = refl
cap_at (suc (suc (suc (suc (suc (suc (suc (suc (suc (suc (suc (suc (suc (suc zero)))))))))))))) least most = refl
cap_at (suc (suc (suc (suc (suc (suc (suc (suc (suc (suc (suc (suc (suc (suc (suc zero))))))))))))))) least most = refl
cap_at (suc (suc (suc (suc (suc (suc (suc (suc (suc (suc (suc (suc (suc (suc (suc (suc zero)))))))))))))))) least most = refl
cap_at (suc (suc (suc (suc (suc (suc (suc (suc (suc (suc (suc (suc (suc (suc (suc (suc (suc j))))))))))))))))) least most = let large = pow_mono {i = 17} {j = (suc (suc (suc (suc (suc (suc (suc (suc (suc (suc (suc (suc (suc (suc (suc (suc (suc j)))))))))))))))))} (omega arith) in absurd (omega arith)

pub cap_from_size : (n : ℕ) → 16 ≤ n → n ≤ 65536 → count_ones n ≡ 1 → IsTrue (is_cap n)
cap_from_size n least most one =
    let p = power 17 n (omega arith) one in
    subst (λ (m : ℕ). IsTrue (is_cap m)) (sym p.1) (cap_at p.0 (subst (λ (m : ℕ). 16 ≤ m) p.1 least) (subst (λ (m : ℕ). m ≤ 65536) p.1 most))
