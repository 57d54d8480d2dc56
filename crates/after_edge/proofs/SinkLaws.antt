-- What several puts do to a sink.
use Rattle.std.proofs.Common.{◌≡◌, ℕ, List, [], ◌++◌, subst, append_assoc, append-nil, sym, arith, Result, Ok, Err}
use Rattle.std.specs.Result.{OnErr}
use Rattle.list_laws.specs.Prefix.{IsPrefix}
use Rattle.list_laws.proofs.PrefixLaws.{IsPrefix-after, IsPrefix-more, IsPrefix-trans}
use Rattle.after_edge.specs.Sink.{Telling, Adds, Writes, WritesPart}
use Rattle.after_edge.proofs.FaultLaws.{Rose-later}

-- one more piece after
pub Adds-then : {S : Type 0} (holds : S → List ℕ → Type 0) (a b c : S) (p q : List ℕ) → Adds holds a b p → Adds holds b c q → Adds holds a c (p ++ q)
Adds-then holds a b c p q first second held h =
    let P : List ℕ → Type 0 = λ l. holds c l in subst P (append_assoc held p q) (second (held ++ p) (first held h))

module _ {S : Type 0} (sink : Telling S) where
  -- nothing was put
  pub Writes-nothing : (a : S) → Writes sink a a []
  Writes-nothing a = record { added = λ held h. (let P : List ℕ → Type 0 = λ l. sink.holds a l in subst P (sym (append-nil held)) h); kept = omega arith }

  -- one more piece after
  pub Writes-then : (a b c : S) (p q : List ℕ) → Writes sink a b p → Writes sink b c q → Writes sink a c (p ++ q)
  Writes-then a b c p q first second =
      let one = first.kept in
      let two = second.kept in
      record { added = Adds-then sink.holds a b c p q first.added second.added; kept = omega arith }

  -- the same bytes in other words
  pub Writes-same : (a b : S) {p q : List ℕ} → p ≡ q → Writes sink a b p → Writes sink a b q
  Writes-same a b e added = let P : List ℕ → Type 0 = λ l. Writes sink a b l in subst P e added

  -- a part after a whole piece
  pub WritesPart-then : (a b c : S) (p q : List ℕ) → Writes sink a b p → WritesPart sink b c q → WritesPart sink a c (p ++ q)
  WritesPart-then a b c p q first second = record {
    part = p ++ second.part;
    is_prefix = IsPrefix-after p second.is_prefix;
    added = Adds-then sink.holds a b c p second.part first.added second.added;
    rose = Rose-later _ _ _ first.kept second.rose;
  }

  -- a part of a piece is a part of what begins with the piece
  pub WritesPart-more : (a b : S) (p q : List ℕ) → WritesPart sink a b p → WritesPart sink a b (p ++ q)
  WritesPart-more a b p q part = record { part = part.part; is_prefix = IsPrefix-more q part.is_prefix; added = part.added; rose = part.rose }

  -- a part of a prefix is a part of the whole
  pub WritesPart-prefix : (a b : S) (p q : List ℕ) → IsPrefix p q → WritesPart sink a b p → WritesPart sink a b q
  WritesPart-prefix a b p q begins part = record { part = part.part; is_prefix = IsPrefix-trans part.is_prefix begins; added = part.added; rose = part.rose }

  -- the same bytes in other words
  pub WritesPart-same : (a b : S) {p q : List ℕ} → p ≡ q → WritesPart sink a b p → WritesPart sink a b q
  WritesPart-same a b e part = let P : List ℕ → Type 0 = λ l. WritesPart sink a b l in subst P e part

-- what stands where a call failed is said of its answer
pub on_err_of : {T E P : Type 0} (r : Result T E) → P → OnErr r P
on_err_of (Ok x) p = tt
on_err_of (Err e) p = p
