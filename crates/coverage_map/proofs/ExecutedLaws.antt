-- The ranges of marked words ascend, lie apart, and have exactly the executed bytes.
use Rattle.std.proofs.Common.{◌≡◌, ℕ, ◌+◌, ◌<◌, ◌≤◌, Bool, true, false, ◌&&◌, ◌||◌, nat_le, nat_lt, List, [], ◌∷◌, refl, sym, ap, ◌∙◌, arith, inl, inr}
use Rattle.std.proofs.Math.Bool.{or_assoc, or_self_left}
use Rattle.std.specs.List.{filter_map, list_any}
use Rattle.std.proofs.lemmas.Bool.{cases_lt, cases_order}
use Rattle.std.proofs.lemmas.Bool.Decides.{nat_tests}
use Rattle.memory_map.specs.declared.TheConstants.{RAM_START}
use Rattle.run_events.specs.declared.event.Event.{Event}
use Rattle.analysis_model.specs.Ascending.{with_member, ascending}
use Rattle.analysis_model.specs.Cover.{CodeRange, executed_pc, joined, runs, is_within}
use Rattle.coverage_map.specs.Coverage.{Covered, Stands, marked_from, marked, ranges_now}
use Rattle.coverage_map.proofs.AscendingLaws.{with_member-same, with_member-before, with_member-behind}
use Rattle.coverage_map.specs.Executed.{is_byte_of, AscendFrom, AreExecuted}

-- words of four bytes in ascending order, from this address on
abbrev WordsFrom : ℕ → List ℕ → Type 0
WordsFrom address [] = Unit {0}
WordsFrom address (pc ∷ pcs) = (address ≤ pc) × WordsFrom (pc + 4) pcs

WordsFrom-less : (less address : ℕ) (pcs : List ℕ) → less ≤ address → WordsFrom address pcs → WordsFrom less pcs
WordsFrom-less less address [] h w = tt
WordsFrom-less less address (pc ∷ pcs) h w = (omega arith, w.1)

WordsFrom-marked : (address : ℕ) (marks : List Bool) → WordsFrom address (marked_from address marks)
WordsFrom-marked address [] = tt
WordsFrom-marked address (true ∷ marks) = (omega arith, WordsFrom-marked (address + 4) marks)
WordsFrom-marked address (false ∷ marks) = WordsFrom-less address (address + 4) (marked_from (address + 4) marks) (omega arith) (WordsFrom-marked (address + 4) marks)

-- a word before ranges either touches the first of them or lies apart
joined-touches : (pc : ℕ) (range : CodeRange) (ranges : List CodeRange) → pc + 4 ≡ range.from → joined pc (range ∷ ranges) ≡ record { from = pc; to = range.to } ∷ ranges
joined-touches pc range ranges e = grind (arith, nat_tests)

joined-apart : (pc : ℕ) (range : CodeRange) (ranges : List CodeRange) → pc + 4 < range.from → joined pc (range ∷ ranges) ≡ record { from = pc; to = pc + 4 } ∷ range ∷ ranges
joined-apart pc range ranges h = grind (arith, nat_tests)

AscendFrom-joined : (address pc : ℕ) (ranges : List CodeRange) → address ≤ pc → AscendFrom (pc + 4) ranges → AscendFrom address (joined pc ranges)
AscendFrom-joined address pc [] h a = (h, omega arith, tt)
AscendFrom-joined address pc (range ∷ ranges) h a =
    elim (cases_lt (pc + 4) range.from) [
      | inl apart ↦ rw (joined-apart pc range ranges apart) (h, omega arith, (omega arith, a.1, a.2))
      | inr close ↦ let touches : pc + 4 ≡ range.from = omega arith in rw (joined-touches pc range ranges touches) (h, omega arith, a.2)
    ]

AscendFrom-runs : (address : ℕ) (pcs : List ℕ) → WordsFrom address pcs → AscendFrom address (runs pcs)
AscendFrom-runs address [] w = tt
AscendFrom-runs address (pc ∷ pcs) w = AscendFrom-joined address pc (runs pcs) w.0 (AscendFrom-runs (pc + 4) pcs w.1)

bytes_joined : (b pc : ℕ) (range : CodeRange) → pc + 4 ≡ range.from → range.from < range.to → (nat_le pc b && nat_lt b range.to) ≡ (is_byte_of b pc || (nat_le range.from b && nat_lt b range.to))
bytes_joined b pc range e h = grind (arith, nat_tests)

or_swap : (a b c : Bool) → (a || (b || c)) ≡ (b || (a || c))
or_swap a b c = grind arith

-- a word adds its bytes
is_within-joined : (b pc : ℕ) (ranges : List CodeRange) → AscendFrom (pc + 4) ranges → is_within (joined pc ranges) b ≡ (is_byte_of b pc || is_within ranges b)
is_within-joined b pc [] a = refl
is_within-joined b pc (range ∷ ranges) a =
    elim (cases_lt (pc + 4) range.from) [
      | inl apart ↦ ap (λ l. is_within l b) (joined-apart pc range ranges apart)
      | inr close ↦
          let touches : pc + 4 ≡ range.from = omega arith in
          ap (λ l. is_within l b) (joined-touches pc range ranges touches) ∙ ap (λ t. t || is_within ranges b) (bytes_joined b pc range touches a.1) ∙ or_assoc (is_byte_of b pc) _ (is_within ranges b)
    ]

is_within-runs : (b address : ℕ) (pcs : List ℕ) → WordsFrom address pcs → is_within (runs pcs) b ≡ list_any (is_byte_of b) pcs
is_within-runs b address [] w = refl
is_within-runs b address (pc ∷ pcs) w =
    is_within-joined b pc (runs pcs) (AscendFrom-runs (pc + 4) pcs w.1) ∙ ap (λ rest. is_byte_of b pc || rest) (is_within-runs b (pc + 4) pcs w.1)

-- a set has the members of its list
list_any-with_member : (p : ℕ → Bool) (new : ℕ) (xs : List ℕ) → list_any p (with_member new xs) ≡ (p new || list_any p xs)
list_any-with_member p new [] = refl
list_any-with_member p new (x ∷ xs) =
    elim (cases_order new x) [
      | inl same ↦ ap (list_any p) (with_member-same new x xs same) ∙ sym (or_self_left (p x) (list_any p xs)) ∙ ap (λ y. p y || (p x || list_any p xs)) (sym same)
      | inr (inl before) ↦ ap (list_any p) (with_member-before new x xs before)
      | inr (inr behind) ↦ ap (list_any p) (with_member-behind new x xs behind) ∙ ap (λ rest. p x || rest) (list_any-with_member p new xs) ∙ or_swap (p x) (p new) (list_any p xs)
    ]

list_any-ascending : (p : ℕ → Bool) (xs : List ℕ) → list_any p (ascending xs) ≡ list_any p xs
list_any-ascending p [] = refl
list_any-ascending p (x ∷ xs) = list_any-with_member p x (ascending xs) ∙ ap (λ rest. p x || rest) (list_any-ascending p xs)

pub Stands-AreExecuted : (c : Covered) (h : List Event) → Stands c h → AreExecuted (ranges_now c) h
Stands-AreExecuted c h stands =
    let words = WordsFrom-less 0 RAM_START (marked c.marks) (omega arith) (WordsFrom-marked RAM_START c.marks) in
    record {
      apart = AscendFrom-runs 0 (marked c.marks) words;
      exact = λ address. is_within-runs address 0 (marked c.marks) words ∙ ap (list_any (is_byte_of address)) stands.executed ∙ list_any-ascending (is_byte_of address) (filter_map executed_pc h);
    }
