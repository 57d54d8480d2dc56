use Rattle.std.proofs.Common.{map, string_bytes, sym, ◌∙◌, ap, arith}
use Rattle.std.proofs.lemmas.List.{length-map}
use Rattle.command_words.specs.Roles.{may_stand}
use Rattle.command_words.proofs.RoleLaws.{plain_room, plain_next, refuse_plain, refuse_option, refuse_open, refuse_value, option_next, none_held}
use Rattle.command_words.proofs.reading.take_next.Goals as goal

pub returns-then-not-may_stand-clause-refused : goal.returns-then-not-may_stand-clause-refused
returns-then-not-may_stand-clause-refused c = λ before holds.
    refuse_plain c.args.command (map string_bytes c.args.words.now) before c.args.index c.args.draft.now c.word_at-word.result.now
    (rw length-map c.requires.there)
    c.word_at-word.ensures
    (sym c.is_option.ensures ∙ c.if-not-is_option.true)
    holds
    (ap (λ n. may_stand c.args.command n c.word_at-word.result.now) (sym c.plain_count.ensures.number) ∙ sym c.may_stand.ensures ∙ c.if-not-may_stand.true)

pub add_plain-requires : goal.add_plain-requires
add_plain-requires c = plain_room c.args.command _ c.word_at-word.result.now (ap (λ n. may_stand c.args.command n c.word_at-word.result.now) (sym c.plain_count.ensures.number) ∙ sym c.may_stand.ensures ∙ c.if-not-may_stand.false)

pub returns-then-not-is_option-clause-next : goal.returns-then-not-is_option-clause-next
returns-then-not-is_option-clause-next c = λ before holds.
    plain_next c.args.command (map string_bytes c.args.words.now) before c.args.index c.args.draft.now c.add_plain.new.self c.word_at-word.result.now
    (rw length-map c.requires.there)
    c.word_at-word.ensures
    (sym c.is_option.ensures ∙ c.if-not-is_option.true)
    (ap (λ n. may_stand c.args.command n c.word_at-word.result.now) (sym c.plain_count.ensures.number) ∙ sym c.may_stand.ensures ∙ c.if-not-may_stand.false)
    c.add_plain.ensures.plain
    c.add_plain.ensures.values
    holds

pub returns-in_default-clause-refused : goal.returns-in_default-clause-refused
returns-in_default-clause-refused c = λ before holds.
    refuse_option c.args.command (map string_bytes c.args.words.now) before c.args.index c.args.draft.now c.word_at-word.result.now
    (rw length-map c.requires.there)
    c.word_at-word.ensures
    (sym c.is_option.ensures ∙ c.if-not-is_option.false)
    holds
    (sym c.option_of.ensures ∙ c.in_default.is)

pub returns-then-index-words-clause-refused : goal.returns-then-index-words-clause-refused
returns-then-index-words-clause-refused c = λ before holds.
    refuse_open c.args.command (map string_bytes c.args.words.now) before c.args.index c.args.draft.now c.word_at-word.result.now c.in-Some.setting
    (rw length-map c.if-index-words.true)
    c.word_at-word.ensures
    (sym c.is_option.ensures ∙ c.if-not-is_option.false)
    holds
    (sym c.option_of.ensures ∙ c.in-Some.is)

pub returns-then-not-is_value-clause-refused : goal.returns-then-not-is_value-clause-refused
returns-then-not-is_value-clause-refused c = λ before holds.
    refuse_value c.args.command (map string_bytes c.args.words.now) before c.args.index c.args.draft.now c.word_at-word.result.now c.word_at-text.result.now c.in-Some.setting
    (rw length-map (let differ = c.if-index-words.false in let below = c.requires.there in omega arith))
    c.word_at-word.ensures
    c.word_at-text.ensures
    (sym c.is_option.ensures ∙ c.if-not-is_option.false)
    holds
    (sym c.option_of.ensures ∙ c.in-Some.is)
    (sym c.is_value.ensures ∙ c.if-not-is_value.true)

pub put-requires : goal.put-requires
put-requires c = none_held c.args.command c.args.draft.now c.word_at-word.result.now c.in-Some.setting (sym c.option_of.ensures ∙ c.in-Some.is)

pub returns-clause-next : goal.returns-clause-next
returns-clause-next c = λ before holds.
    option_next c.args.command (map string_bytes c.args.words.now) before c.args.index c.args.draft.now c.put.new.self c.word_at-word.result.now c.word_at-text.result.now c.in-Some.setting
    (rw length-map (let differ = c.if-index-words.false in let below = c.requires.there in omega arith))
    c.word_at-word.ensures
    c.word_at-text.ensures
    (sym c.is_option.ensures ∙ c.if-not-is_option.false)
    (sym c.option_of.ensures ∙ c.in-Some.is)
    (sym c.is_value.ensures ∙ c.if-not-is_value.false)
    (none_held c.args.command c.args.draft.now c.word_at-word.result.now c.in-Some.setting (sym c.option_of.ensures ∙ c.in-Some.is))
    c.put.ensures.plain
    c.put.ensures.values
    holds
