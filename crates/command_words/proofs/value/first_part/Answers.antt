use Rattle.std.proofs.Common.{◌≡◌, ℕ, eqb, Some, None, refl, sym, ◌∙◌}
use Rattle.std.specs.List.{position}
use Rattle.std.proofs.lemmas.List.{take_rest}
use Rattle.format_model.proofs.ScriptSteps.{cut_by}
use Rattle.command_words.proofs.ValueLaws.{parts_cut}
use Rattle.command_words.proofs.value.first_part.Goals as goal

pub returns-in-Some : goal.returns-in-Some
returns-in-Some c =
    let place : position (λ (b : ℕ). eqb b 44) c.args.text.now ≡ Some c.in-Some.at = sym c.comma_in.ensures ∙ c.in-Some.is in
    rw (parts_cut, cut_by, place, take_rest) refl

pub returns-in-None : goal.returns-in-None
returns-in-None c =
    let place : position (λ (b : ℕ). eqb b 44) c.args.text.now ≡ None = sym c.comma_in.ensures ∙ c.in-None.is in
    rw (parts_cut, cut_by, place) refl
