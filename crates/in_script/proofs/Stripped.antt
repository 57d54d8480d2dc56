-- What std's test of a prefix says, as the definition of a word does.
use Rattle.std.proofs.Common.{◌≡◌, ℕ, ◌+◌, true, false, eqb, List, length, take, drop, Option, Some, None, MatchOption, option_copied, Bor, refl, ap}
use Rattle.std.specs.Cmp.Lexicographic.{pointwise}
use Rattle.format_model.specs.ScriptReading.{strip}
use Rattle.format_model.proofs.ScriptSteps.{strip_by}

-- what a word's test answers is whether it is stripped
pub stripped_by : (r : Option (Bor (List ℕ))) (word text : List ℕ)
    → MatchOption r (pointwise eqb (take (length word) text) word ≡ false) (λ x. (pointwise eqb (take (length word) text) word ≡ true) × (x.now ≡ drop (length word) text) × (length x.now + length word ≡ length text))
    → option_copied r ≡ strip word text
stripped_by None word text h = rw (strip_by word text, h) refl
stripped_by (Some x) word text h = rw (strip_by word text, h.0) (ap Some h.1)
