-- The lesser of two numbers that may be there.
use Rattle.std.specs.Prelude.{ℕ, min, Option, None, Some}

abbrev pub lesser : Option ℕ → Option ℕ → Option ℕ
lesser None other = other
lesser (Some x) None = Some x
lesser (Some x) (Some y) = Some (min x y)
