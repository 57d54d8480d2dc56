use Rattle.std.proofs.Common.{◌≡◌, ℕ, ◌+◌, ◌<◌, ◌==◌, false, List, [], ◌∷◌, None, Some, get_or, drop, sym, ◌∙◌, length, length-append, arith}
use Rattle.std.proofs.lemmas.Bool.{eqb-true, eqb-false}
use Rattle.std.proofs.lemmas.List.{at_drop_more}
use Rattle.command_words.specs.Values.{letters_in, letter_in}
use Rattle.command_words.proofs.ValueLaws.{behind, letters_more, letters_none, turns_short, turns_long, turns_within, letters_all}
use Rattle.command_words.proofs.value.turns_of.Goals as goal
use Rattle.command_words.proofs.value.turns_of.Goals.{then-is_empty-via-then-is_empty, then-is_empty-via-else-is_empty+then-text-gt-MOST_TURNS}

length_some : (text : List ℕ) → (length text == 0) ≡ false → 0 < length text
length_some text e = let h = eqb-false (length text) 0 e in omega arith

pub returns-then-is_empty : goal.returns-then-is_empty
returns-then-is_empty c =
    elim c.then-is_empty.branch [
      | then-is_empty-via-then-is_empty w ↦ sym (turns_short c.args.text.now (eqb-true (length c.args.text.now) 0 (sym c.is_empty.ensures ∙ w.if-is_empty.true)))
      | then-is_empty-via-else-is_empty+then-text-gt-MOST_TURNS w ↦ sym (turns_long c.args.text.now (omega arith))
    ]

pub returns-in-None : goal.returns-in-None
returns-in-None c =
    let text = c.args.text.now in
    let i = c.loop-byte.byte-index in
    let turns = c.loop-byte.turns in
    let unknown : letter_in (get_or text i 0) ≡ None = sym c.letter_in.ensures ∙ c.in-None.is in
    let whole : letters_in text ≡ None = c.loop-byte.invariant.so_far ∙ at_drop_more (λ (t : List ℕ). behind turns (letters_in t)) text i 0 c.loop-byte-test.true ∙ letters_none turns (get_or text i 0) (drop (i + 1) text) unknown in
    sym (turns_within text (omega arith) (omega arith) ∙ whole)

pub loop-byte-preserved : goal.loop-byte-preserved
loop-byte-preserved c =
    let text = c.args.text.now in
    let i = c.loop-byte.byte-index in
    let turns = c.loop-byte.turns in
    let known : letter_in (get_or text i 0) ≡ Some c.in-Some.letter = sym c.letter_in.ensures ∙ c.in-Some.is in
    record {
      so_far = rw c.add.ensures (c.loop-byte.invariant.so_far ∙ at_drop_more (λ (t : List ℕ). behind turns (letters_in t)) text i 0 c.loop-byte-test.true ∙ letters_more turns c.in-Some.letter (get_or text i 0) (drop (i + 1) text) known);
      long = rw c.add.ensures (omega (arith, length-append turns (c.in-Some.letter ∷ []), c.loop-byte.invariant.long));
    }

pub returns : goal.returns
returns c =
    let text = c.args.text.now in
    let some : 0 < length text = length_some text (sym c.is_empty.ensures ∙ c.if-is_empty.false) in
    sym (turns_within text some c.if-text-gt-MOST_TURNS.false ∙ letters_all text c.loop-byte.byte-index c.loop-byte.turns c.loop-byte-test.false c.loop-byte.invariant.so_far)
