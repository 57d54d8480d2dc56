-- The halves of 64 bits. A register of 64 bits stands in two of 32.
use Rattle.std.specs.Prelude.{ℕ, ◌+◌, ◌*◌, ◌/◌, ◌%◌, ◌^◌}

abbrev pub low_half : ℕ → ℕ
low_half value = value % 2 ^ 32

abbrev pub high_half : ℕ → ℕ
high_half value = value / 2 ^ 32

-- a value with one half replaced and the other kept
abbrev pub with_low : ℕ → ℕ → ℕ
with_low value half = high_half value * 2 ^ 32 + half

abbrev pub with_high : ℕ → ℕ → ℕ
with_high value half = half * 2 ^ 32 + low_half value
