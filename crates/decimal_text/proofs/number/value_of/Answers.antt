use Rattle.std.proofs.Common.{◌≡◌, ◌+◌, ◌-◌, ◌*◌, get_or, drop, refl, sym, ◌∙◌, arith}
use Rattle.std.proofs.lemmas.List.{at_drop_more}
use Rattle.format_model.specs.ScriptReading.{value_after, value_of}
use Rattle.format_model.proofs.ScriptSteps.{value_after-le}
use Rattle.decimal_text.proofs.number.value_of.Goals as goal

pub loop-digit-init : goal.loop-digit-init
unfolding value_of
loop-digit-init c = record { small = omega arith; so_far = refl }

pub returns-then-value-gt4294967295 : goal.returns-then-value-gt4294967295
returns-then-value-gt4294967295 c =
    let value = c.loop-digit.value in
    let i = c.loop-digit.digit-index in
    let digit = get_or c.args.digits.now i 0 in
    let later = drop (i + 1) c.args.digits.now in
    let step : value_after value (drop i c.args.digits.now) ≡ value_after (10 * value + (digit - 48)) later = at_drop_more (value_after value) c.args.digits.now i 0 c.loop-digit-test.true in
    let whole : value_after (10 * value + (digit - 48)) later ≡ value_of c.args.digits.now = sym step ∙ c.loop-digit.invariant.so_far in
    omega (arith, value_after-le (10 * value + (digit - 48)) later)
