-- Reading a file piece by piece: the bytes so far are a prefix of what the name has.
use Rattle.std.proofs.Common.{◌≡◌, ℕ, ◌+◌, ◌-◌, ◌<◌, ◌≤◌, List, [], ◌++◌, length, take, drop, Option, Some, is_some, unwrap_or, sym, ◌∙◌, ap, subst, append_assoc, append-nil, length-append, arith}
use Rattle.std.proofs.lemmas.List.{nil_from_length, take-append-drop}
use Rattle.std.proofs.lemmas.List.Prefix.{front_rest}
use Rattle.list_laws.specs.Prefix.{IsPrefix}
use Rattle.after_edge.specs.Files.{Contents, IfTold, IsThere, Reads, HasAbsentCause}
use Rattle.after_edge.specs.Reading.{IsLonger}

-- these bytes begin the named file; a name without one has only the empty beginning
pub record BeginsFile (files : Contents) (name bytes : List ℕ) : Type 0 where
  pub front : IsPrefix bytes (unwrap_or (files name) [])

-- how far a file was read: a prefix of it, within the limit, and the count is as before
pub record HasRead (content : Option Contents) (name bytes : List ℕ) (max before now : ℕ) : Type 0 where
  pub begins : IfTold content (λ files. BeginsFile files name bytes)
  pub within : length bytes ≤ max
  pub still : now ≡ before

-- what begins the file that the name has
front_of_file : (files : Contents) (name bytes whole : List ℕ) → files name ≡ Some whole → BeginsFile files name bytes → IsPrefix bytes whole
front_of_file files name bytes whole file begins = let P : Option (List ℕ) → Type 0 = λ o. IsPrefix bytes (unwrap_or o []) in subst P file begins.front

-- where each byte left would have been read, none is
none_left : (before left whole : ℕ) → before + left ≡ whole → (before < whole → 0 < 0) → left ≡ 0
none_left before left whole sum some = grind arith

-- nothing more to read: the bytes so far are the file
Reads-end : (files : Contents) (name bytes piece : List ℕ) → BeginsFile files name bytes → Reads files name (length bytes) 0 piece → files name ≡ Some bytes
Reads-end files name bytes piece begins read =
    let p = front_of_file files name bytes read.bytes read.file begins in
    let sum : length bytes + length p.rest ≡ length read.bytes = sym (length-append bytes p.rest) ∙ ap length p.joined in
    let none : length p.rest ≡ 0 = none_left (length bytes) (length p.rest) (length read.bytes) sum read.some in
    let all : read.bytes ≡ bytes = sym p.joined ∙ ap (λ r. bytes ++ r) (nil_from_length p.rest none) ∙ append-nil bytes in
    read.file ∙ ap Some all

-- the bytes so far and the next ones begin the file
Reads-next : (files : Contents) (name bytes piece : List ℕ) (count : ℕ) → BeginsFile files name bytes → Reads files name (length bytes) count piece → BeginsFile files name (bytes ++ piece)
Reads-next files name bytes piece count begins read =
    let p = front_of_file files name bytes read.bytes read.file begins in
    let left : drop (length bytes) read.bytes ≡ p.rest = front_rest read.bytes bytes p.rest (sym p.joined) in
    let cut : piece ++ drop count p.rest ≡ p.rest = ap (λ l. l ++ drop count p.rest) (read.piece_is ∙ ap (λ l. take count l) left) ∙ take-append-drop count p.rest in
    let front : IsPrefix (bytes ++ piece) read.bytes = record { rest = drop count p.rest; joined = append_assoc bytes piece (drop count p.rest) ∙ ap (λ l. bytes ++ l) cut ∙ p.joined } in
    let P : Option (List ℕ) → Type 0 = λ o. IsPrefix (bytes ++ piece) (unwrap_or o []) in
    record { front = subst P (sym read.file) front }

-- more bytes were read than are left to take
Reads-longer : (files : Contents) (name piece : List ℕ) (at count max : ℕ) → Reads files name at count piece → at ≤ max → max - at < count → IsLonger files name max
Reads-longer files name piece at count max read within more =
    let inside = read.within in
    record { bytes = read.bytes; file = read.file; longer = omega arith }

module _ (content later : Option Contents) (name bytes : List ℕ) (max before middle : ℕ) (read : HasRead content name bytes max before middle) (same : later ≡ content) where
  -- the read that gave nothing: the bytes so far are the file
  pub HasRead-end : (piece : List ℕ) (at count : ℕ) → at ≡ length bytes → count ≡ 0 → IfTold later (λ files. Reads files name at count piece) → IfTold content (λ files. files name ≡ Some bytes)
  HasRead-end piece at count here none reads files told =
      let P : ℕ → ℕ → Type 0 = λ a c. Reads files name a c piece in
      Reads-end files name bytes piece (read.begins files told) (subst (λ (c : ℕ). P (length bytes) c) none (subst (λ (a : ℕ). P a count) here (reads files (same ∙ told))))

  -- the read that gave a piece
  pub HasRead-next : (piece all : List ℕ) (at count now : ℕ) → at ≡ length bytes → all ≡ bytes ++ piece → length piece ≡ count → count ≤ max - at → now ≡ middle
      → IfTold later (λ files. Reads files name at count piece) → HasRead content name all max before now
  HasRead-next piece all at count now here joined long fits stays reads =
      let sum : length all ≡ length bytes + length piece = ap length joined ∙ length-append bytes piece in
      let within = read.within in
      record {
        begins = λ files told.
            let next = Reads-next files name bytes piece count (read.begins files told) (subst (λ (a : ℕ). Reads files name a count piece) here (reads files (same ∙ told))) in
            subst (λ (l : List ℕ). BeginsFile files name l) (sym joined) next;
        within = omega arith;
        still = stays ∙ read.still;
      }

  -- the read that gave more than is left to take
  pub HasRead-longer : (piece : List ℕ) (at count : ℕ) → at ≡ length bytes → max - at < count → IfTold later (λ files. Reads files name at count piece) → IfTold content (λ files. IsLonger files name max)
  HasRead-longer piece at count here more reads files told =
      let within = read.within in
      let inside : at ≤ max = omega arith in
      Reads-longer files name piece at count max (reads files (same ∙ told)) inside more

  -- the read that gave a piece for which there is no memory: there is a file
  pub HasRead-there : (piece : List ℕ) (at count : ℕ) → IfTold later (λ files. Reads files name at count piece) → IsThere content name
  HasRead-there piece at count reads files told = ap is_some (reads files (same ∙ told)).file

  -- the read that found no file
  pub HasRead-absent : (now : ℕ) → HasAbsentCause later name middle now → HasAbsentCause content name before now
  HasRead-absent now cause =
      subst (λ (count : ℕ). HasAbsentCause content name count now) read.still
      (subst (λ (c : Option Contents). HasAbsentCause c name middle now) same cause)
