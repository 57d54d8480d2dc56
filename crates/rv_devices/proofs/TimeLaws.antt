-- A timer that goes on through many steps at once.
use Rattle.std.proofs.Common.{◌≡◌, ℕ, ◌+◌, ◌-◌, ◌*◌, ◌/◌, ◌%◌, ◌^◌, ◌<◌, ◌≤◌, Bool, true, false, refl, sym, ◌∙◌, ap, subst, arith}
use Rattle.std.proofs.lemmas.Bool.Decides.{nat_tests}
use Rattle.std.proofs.Math.Nat.{add-mul, div-lt_iff_lt-mul, div-mul-le_self, lt-div-mul-add}
use Rattle.std.specs.Prelude.{nat_le, nat_lt, if◌then◌else◌}
use Rattle.rv_devices.specs.declared.timer.Timer.{Timer}
use Rattle.rv_devices.specs.Times.{Times, passed, rises_kept, rises_until, steady_until}

-- where a timer has risen until so many steps have begun: the last rise was before them, and the next one comes later
record Bounds (clock rise base to j : ℕ) : Type 0 where
  pub until : to ≤ rise + j * clock
  pub since : base + j * clock ≤ to - 1

bounds_by : (clock rise base to : ℕ) → 1 ≤ clock → rise ≡ base + clock → base ≤ to - 1 → (early : Bool) → nat_le to rise ≡ early → Bounds clock rise base to (if early then 0 else (to - 1 - rise) / clock + 1)
bounds_by clock rise base to some next last true is =
    let below : to ≤ rise = grind (arith, nat_tests, is) in
    record { until = omega (arith, below); since = omega (arith, last) }
bounds_by clock rise base to some next last false is =
    let above : rise < to = grind (arith, nat_tests, is) in
    let times = (to - 1 - rise) / clock in
    let low : times * clock ≤ to - 1 - rise = div-mul-le_self (to - 1 - rise) clock in
    let high : to - 1 - rise < times * clock + clock = lt-div-mul-add some in
    let more : (times + 1) * clock ≡ times * clock + clock = add-mul times 1 clock ∙ omega arith in
    record { until = omega (arith, above, high, more); since = omega (arith, above, low, more, next) }

-- modulo 2 ^ 64
counts_on : (rises ticks offset j count : ℕ) → count ≡ (rises + ticks + offset) % 2 ^ 64 → (count + j) % 2 ^ 64 ≡ (rises + j + ticks + offset) % 2 ^ 64
counts_on rises ticks offset j count is = omega (arith, is)

-- it keeps its times
pub times_passed : (clock begun to ticks offset : ℕ) (t : Timer) → 1 ≤ clock → begun ≤ to → Times clock begun ticks offset t → Times clock to ticks offset (passed t to)
times_passed clock begun to ticks offset t some more s =
    let j = rises_until t to in
    let whole : (s.rises + 1) * clock ≡ s.rises * clock + clock = add-mul s.rises 1 clock ∙ omega arith in
    let bounds : Bounds clock t.rise (s.rises * clock) to j =
    subst (λ n. Bounds clock t.rise (s.rises * clock) to (if nat_le to t.rise then 0 else (to - 1 - t.rise) / n + 1)) (sym s.clock_is)
    (bounds_by clock t.rise (s.rises * clock) to some (s.rise_is ∙ whole) (omega (arith, s.since, more)) (nat_le to t.rise) refl) in
    let risen : (s.rises + j) * clock ≡ s.rises * clock + j * clock = add-mul s.rises j clock in
    let next : (s.rises + j + 1) * clock ≡ (s.rises + j) * clock + clock = add-mul (s.rises + j) 1 clock ∙ omega arith in
    let own : j * t.clock ≡ j * clock = ap (λ n. j * n) s.clock_is in
    record {
      rises = s.rises + j;
      clock_is = s.clock_is;
      rise_is = omega (arith, own, next, risen, s.rise_is, whole);
      since = omega (arith, risen, bounds.since);
      until = omega (arith, own, bounds.until);
      count_is = counts_on s.rises ticks offset j t.count s.count_is;
    }

-- a rise does not move its line as long as it is steady
few_rises : (clock rise kept to : ℕ) → 1 ≤ clock → to < rise + kept * clock → (early : Bool) → nat_le (to + 1) rise ≡ early → (if early then 0 else (to + 1 - 1 - rise) / clock + 1) ≤ kept
few_rises clock rise kept to some below true is = omega arith
few_rises clock rise kept to some below false is =
    let above : rise ≤ to = grind (arith, nat_tests, is) in
    let within : to + 1 - 1 - rise < kept * clock = omega (arith, above, below) in
    let fewer : (to + 1 - 1 - rise) / clock < kept = (div-lt_iff_lt-mul some).1 within in
    omega (arith, fewer)

line_by : (count compare j : ℕ) → count < 2 ^ 64 → (low : Bool) → nat_lt count compare ≡ low → j ≤ (if low then compare - count - 1 else 2 ^ 64 - 1 - count) → nat_le compare ((count + j) % 2 ^ 64) ≡ nat_le compare count
line_by count compare j small true is few =
    let below : count < compare = grind (arith, nat_tests, is) in
    let still : (count + j) % 2 ^ 64 < compare = omega (arith, below, few) in
    let before : nat_le compare count ≡ false = grind (arith, nat_tests, below) in
    let after : nat_le compare ((count + j) % 2 ^ 64) ≡ false = grind (arith, nat_tests, still) in
    after ∙ sym before
line_by count compare j small false is few =
    let reached : compare ≤ count = grind (arith, nat_tests, is) in
    let still : compare ≤ (count + j) % 2 ^ 64 = omega (arith, reached, few, small) in
    let before : nat_le compare count ≡ true = grind (arith, nat_tests, reached) in
    let after : nat_le compare ((count + j) % 2 ^ 64) ≡ true = grind (arith, nat_tests, still) in
    after ∙ sym before

pub steady_line : (clock begun ticks offset to : ℕ) (t : Timer) → 1 ≤ clock → Times clock begun ticks offset t → to < steady_until t → nat_le t.compare (passed t (to + 1)).count ≡ nat_le t.compare t.count
steady_line clock begun ticks offset to t some s below =
    let small : t.count < 2 ^ 64 = omega (arith, s.count_is) in
    let few : rises_until t (to + 1) ≤ rises_kept t = few_rises t.clock t.rise (rises_kept t) to (omega (arith, some, s.clock_is)) below (nat_le (to + 1) t.rise) refl in
    line_by t.count t.compare (rises_until t (to + 1)) small (nat_lt t.count t.compare) refl few
