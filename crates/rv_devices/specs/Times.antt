-- What a timer stands for.
use Rattle.std.specs.Prelude.{◌≡◌, ℕ, ◌+◌, ◌-◌, ◌*◌, ◌/◌, ◌%◌, ◌^◌, ◌≤◌, nat_le, nat_lt, if◌then◌else◌}
use Rattle.rv_devices.specs.declared.timer.Timer.{Timer}

-- A timer with this clock, where so many steps have begun, so many ticks were due, and it is ahead by this offset. It
-- has risen so many times by its clock.
pub record Times (clock begun ticks offset : ℕ) (timer : Timer) : Type 0 where
  pub rises : ℕ
  pub clock_is : timer.clock ≡ clock
  pub rise_is : timer.rise ≡ (rises + 1) * clock
  pub since : rises * clock ≤ begun - 1
  pub until : begun ≤ timer.rise
  pub count_is : timer.count ≡ (rises + ticks + offset) % 2 ^ 64

-- how often a timer rises by its clock until so many steps have begun, and the timer then
abbrev pub rises_until : Timer → (begun : ℕ) → ℕ
rises_until timer begun =
    if nat_le begun timer.rise then 0 else (begun - 1 - timer.rise) / timer.clock + 1

abbrev pub passed : Timer → (begun : ℕ) → Timer
passed timer begun = record timer {
  rise = timer.rise + rises_until timer begun * timer.clock;
  count = (timer.count + rises_until timer begun) % 2 ^ 64;
}

-- so often it may rise while its line stays as it is, and so up to this step
abbrev pub rises_kept : Timer → ℕ
rises_kept timer =
    if nat_lt timer.count timer.compare then timer.compare - timer.count - 1
    else 2 ^ 64 - 1 - timer.count

abbrev pub steady_until : Timer → ℕ
steady_until timer = timer.rise + rises_kept timer * timer.clock
