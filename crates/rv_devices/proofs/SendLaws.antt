-- What a transfer hands out, word by word.
use Rattle.std.proofs.Common.{◌≡◌, ℕ, zero, suc, ◌+◌, ◌-◌, ◌%◌, ◌^◌, ◌<◌, ◌≤◌, ◌⊎◌, inl, inr, List, [], ◌∷◌, take, drop, Some, slice_get, refl, sym, ◌∙◌, ap, arith}
use Rattle.std.proofs.lemmas.Bool.{cases_lt}
use Rattle.std.proofs.lemmas.List.{drop-drop}
use Rattle.std.specs.Int.{w32, from_le_bytes}
use Rattle.run_events.specs.declared.supply.DmaWord.{DmaWord}
use Rattle.machine_model.specs.Board.{words_of}
use Rattle.rv_devices.specs.declared.transfer.Transfer.{Transfer}
use Rattle.rv_devices.specs.Sends.{Sends, unsent, words_left}

-- no word, and one word more
words_of-none : (left : ℕ) (bytes : List ℕ) (address mark : ℕ) → left ≡ 0 → words_of left bytes address mark ≡ []
unfolding words_of
words_of-none zero bytes address mark is = refl
words_of-none (suc left) bytes address mark is = cc

words_of-next : (left rest : ℕ) (bytes : List ℕ) (address mark : ℕ) → left ≡ suc rest → words_of left bytes address mark ≡ record { address = address; word = from_le_bytes w32 (take 4 bytes); mark = mark } ∷ words_of rest (drop 4 bytes) (address + 4) mark
unfolding words_of
words_of-next left rest bytes address mark is = rw is refl

-- where no word is left, the address does not matter
words_of-same : (left : ℕ) (bytes : List ℕ) (mark a b : ℕ) → (left ≡ 0) ⊎ (a ≡ b) → words_of left bytes a mark ≡ words_of left bytes b mark
words_of-same left bytes mark a b (inl none) = words_of-none left bytes a mark none ∙ sym (words_of-none left bytes b mark none)
words_of-same left bytes mark a b (inr same) = ap (λ n. words_of left bytes n mark) same

-- past its last word a transfer has none left
pub sends_nothing : (t : Transfer) → 508 < t.sent → t.address + (512 - t.sent) ≤ 2 ^ 32 → Sends [] t
sends_nothing t past below = record { words_are = sym (words_of-none (unsent t) (drop t.sent t.bytes) t.address t.mark (omega arith)); below = below }

pub none_left : (words : List DmaWord) (t : Transfer) → 508 < t.sent → Sends words t → words ≡ []
none_left words t past sends = sends.words_are ∙ words_of-none (unsent t) (drop t.sent t.bytes) t.address t.mark (omega arith)

pub no_words : (t : Transfer) → t.sent ≡ 512 → words_left t ≡ []
no_words t all = words_of-none (unsent t) (drop t.sent t.bytes) t.address t.mark (omega (arith, all))

-- a word handed out
abbrev pub sent_on : Transfer → Transfer
sent_on t = record { bytes = t.bytes; sent = t.sent + 4; address = (t.address + 4) % 4294967296; mark = t.mark }

pub one_left : (words : List DmaWord) (t : Transfer) → t.sent ≤ 508 → Sends words t → words ≡ record { address = t.address; word = from_le_bytes w32 (take 4 (drop t.sent t.bytes)); mark = t.mark } ∷ words_left (sent_on t)
one_left words t within sends =
    let rest = unsent (sent_on t) in
    let more : unsent t ≡ suc rest = omega arith in
    let near : (rest ≡ 0) ⊎ (t.address + 4 ≡ (t.address + 4) % 4294967296) = elim (cases_lt (t.address + 4) 4294967296) [ inl small ↦ inr (omega arith) | inr big ↦ inl (omega (arith, sends.below)) ] in
    sends.words_are
    ∙ words_of-next (unsent t) rest (drop t.sent t.bytes) t.address t.mark more
    ∙ ap (λ l. record { address = t.address; word = from_le_bytes w32 (take 4 (drop t.sent t.bytes)); mark = t.mark } ∷ l)
    (ap (λ l. words_of rest l (t.address + 4) t.mark) (drop-drop 4 t.sent t.bytes) ∙ words_of-same rest (drop (t.sent + 4) t.bytes) t.mark (t.address + 4) ((t.address + 4) % 4294967296) near)

pub first_left : (words : List DmaWord) (t : Transfer) → t.sent ≤ 508 → Sends words t → Some (record { address = t.address; word = from_le_bytes w32 (take 4 (drop t.sent t.bytes)); mark = t.mark }) ≡ slice_get words 0
first_left words t within sends = sym (ap (λ l. slice_get l 0) (one_left words t within sends))

pub sends_next : (words : List DmaWord) (t : Transfer) → t.sent ≤ 508 → Sends words t → Sends (drop 1 words) (sent_on t)
sends_next words t within sends = record { words_are = ap (drop 1) (one_left words t within sends); below = omega (arith, sends.below) }
