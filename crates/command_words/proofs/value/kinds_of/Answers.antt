use Rattle.std.proofs.Common.{◌≡◌, ℕ, List, [], ◌∷◌, None, Some, option_copied, sym, ◌∙◌, ap, refl}
use Rattle.run_settings.proofs.KindLaws.{once_more}
use Rattle.command_words.specs.Values.{kind_named, all_named, parts_after}
use Rattle.command_words.proofs.ValueLaws.{behind, named_more, named_none, kinds_unknown, kinds_twice, kinds_all}
use Rattle.command_words.proofs.value.kinds_of.Goals as goal

pub returns-in-None : goal.returns-in-None
returns-in-None c =
    let kinds = c.loop-rest.kinds in
    let name = c.first_part.result.0.now in
    let names = parts_after (option_copied c.first_part.result.1) in
    let split : parts_after (option_copied c.loop-rest.rest) ≡ name ∷ names = rw c.in-Some.is c.first_part.ensures in
    let unknown : kind_named name ≡ None = sym c.kind_named.ensures ∙ c.in-None.is in
    sym (kinds_unknown c.args.text.now (c.loop-rest.invariant.so_far ∙ ap (λ (t : List (List ℕ)). behind kinds (all_named t)) split ∙ named_none kinds name names unknown))

pub returns-then-contains : goal.returns-then-contains
returns-then-contains c =
    let kinds = c.loop-rest.kinds in
    let name = c.first_part.result.0.now in
    let names = parts_after (option_copied c.first_part.result.1) in
    let kind = c.in-Some-kind_named.kind in
    let split : parts_after (option_copied c.loop-rest.rest) ≡ name ∷ names = rw c.in-Some.is c.first_part.ensures in
    let known : kind_named name ≡ Some kind = sym c.kind_named.ensures ∙ c.in-Some-kind_named.is in
    sym (kinds_twice c.args.text.now kinds kind (all_named names) (c.contains.ensures.test.0 c.if-contains.true) (c.loop-rest.invariant.so_far ∙ ap (λ (t : List (List ℕ)). behind kinds (all_named t)) split ∙ named_more kinds kind name names known))

pub loop-rest-preserved : goal.loop-rest-preserved
loop-rest-preserved c =
    let kinds = c.loop-rest.kinds in
    let name = c.first_part.result.0.now in
    let names = parts_after (option_copied c.first_part.result.1) in
    let kind = c.in-Some-kind_named.kind in
    let split : parts_after (option_copied c.loop-rest.rest) ≡ name ∷ names = rw c.in-Some.is c.first_part.ensures in
    let known : kind_named name ≡ Some kind = sym c.kind_named.ensures ∙ c.in-Some-kind_named.is in
    record {
      so_far = rw c.add.ensures (c.loop-rest.invariant.so_far ∙ ap (λ (t : List (List ℕ)). behind kinds (all_named t)) split ∙ named_more kinds kind name names known);
      once = rw c.add.ensures (once_more kinds kind c.loop-rest.invariant.once (λ there. let h = c.contains.ensures.test.1 there in let f = c.if-contains.false in cc));
    }

pub returns : goal.returns
returns c =
    let end : parts_after (option_copied c.loop-rest.rest) ≡ [] = rw c.in_default.is refl in
    sym (kinds_all c.args.text.now c.loop-rest.kinds c.loop-rest.invariant.once (c.loop-rest.invariant.so_far ∙ ap (λ (t : List (List ℕ)). behind c.loop-rest.kinds (all_named t)) end))
