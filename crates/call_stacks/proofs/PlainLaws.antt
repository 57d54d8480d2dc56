-- Only the words of JAL and JALR are calls or returns.
use Rattle.std.proofs.Common.{◌≡◌, ◌≢◌, ℕ, ◌%◌, ◌==◌, Bool, true, false, ◌&&◌, ◌||◌, cond, List, [], ◌∷◌, Some, refl, sym, ap, ◌∙◌, arith, inl, inr}
use Rattle.std.specs.List.{list_all}
use Rattle.std.proofs.lemmas.Bool.{cases_eq}
use Rattle.std.proofs.lemmas.Bool.Decides.{nat_tests}
use Rattle.rv_decode.specs.declared.links.Link.{Link}
use Rattle.rv_decode.specs.declared.links.Link.TheVariants as link
use Rattle.rv_decode.specs.Fields.{opcode_of, rd_of, immediate_j}
use Rattle.rv_decode.specs.Links.{link_of}
use Rattle.rv_decode.specs.declared.instruction.Instr.TheVariants.{Jal}
use Rattle.rv_decode.specs.Listing.{Row, meets, read_by, rows, instruction}
use Rattle.rv_decode.proofs.ListingLaws.{jal_words}
use Rattle.analysis_model.specs.Calls.{link_as}

abbrev is_jump : ℕ → Bool
is_jump opcode = opcode == 0x6f || opcode == 0x67

abbrev is_plain : Link → Bool
is_plain link.Plain = true
is_plain link.Push = false
is_plain link.Pop = false
is_plain link.PopPush = false

-- each row of another opcode reads neither a call nor a return
abbrev are_plain : ℕ → List Row → Bool
are_plain word rs = list_all (λ r. is_jump r.opcode || is_plain (link_of (r.reads word))) rs

rows_plain : (word : ℕ) → are_plain word rows ≡ true
unfolding rows
rows_plain word = refl

plain_is : (kind : Link) → is_plain kind ≡ true → kind ≡ link.Plain
plain_is link.Plain e = refl
plain_is link.Push e = absurd (let clash : false ≡ true = e in cc)
plain_is link.Pop e = absurd (let clash : false ≡ true = e in cc)
plain_is link.PopPush e = absurd (let clash : false ≡ true = e in cc)

first_true : (a b : Bool) → (a && b) ≡ true → a ≡ true
first_true true b e = refl
first_true false b e = absurd (let clash : false ≡ true = e in cc)

rest_true : (a b : Bool) → (a && b) ≡ true → b ≡ true
rest_true true b e = e
rest_true false b e = absurd (let clash : false ≡ true = e in cc)

-- a word of another opcode reads neither
plain_read : (rs : List Row) (word : ℕ) → are_plain word rs ≡ true → is_jump (opcode_of word) ≡ false → link_as (read_by rs word) ≡ link.Plain
plain_read [] word all elsewhere = refl
plain_read (r ∷ rs) word all elsewhere = by_row (is_jump r.opcode) refl (first_true (is_jump r.opcode || is_plain (link_of (r.reads word))) (are_plain word rs) all) (plain_read rs word (rest_true (is_jump r.opcode || is_plain (link_of (r.reads word))) (are_plain word rs) all) elsewhere)
  where
    by_row : (b : Bool) → is_jump r.opcode ≡ b → (b || is_plain (link_of (r.reads word))) ≡ true → link_as (read_by rs word) ≡ link.Plain → link_as (cond (meets r word) (Some (r.reads word)) (read_by rs word)) ≡ link.Plain
    by_row true jump here rest =
        elim (cases_eq (opcode_of word) r.opcode) [
          | inl same ↦ absurd (let clash : false ≡ true = sym elsewhere ∙ ap is_jump same ∙ jump in cc)
          | inr apart ↦ let test : (opcode_of word == r.opcode) ≡ false = grind (arith, nat_tests) in rw test rest
        ]
    by_row false jump here rest =
        elim (meets r word) as (λ b. link_as (cond b (Some (r.reads word)) (read_by rs word)) ≡ link.Plain) [
          | true ↦ plain_is (link_of (r.reads word)) here
          | false ↦ rest
        ]

pub plain_word : (word : ℕ) → word % 128 ≢ 0x6f → word % 128 ≢ 0x67 → link.Plain ≡ link_as (instruction word)
unfolding instruction
plain_word word jal jalr =
    let elsewhere : is_jump (opcode_of word) ≡ false = grind (arith, nat_tests) in
    sym (plain_read rows word (rows_plain word) elsewhere)

-- the usual return, and the usual call
pub return_word : link.Pop ≡ link_as (instruction 0x8067)
unfolding instruction rows
return_word = refl

pub call_word : (word : ℕ) → word % 4096 ≡ 0xef → link.Push ≡ link_as (instruction word)
call_word word call =
    let opcode : opcode_of word ≡ 0x6f = omega (arith, call) in
    let rd : rd_of word ≡ 1 = omega (arith, call) in
    let reads : instruction word ≡ Some (Jal (rd_of word) (immediate_j word)) = jal_words word opcode ∙ simp opcode refl in
    sym (ap link_as reads ∙ ap (λ (r : ℕ). link_of (Jal r (immediate_j word))) rd)
