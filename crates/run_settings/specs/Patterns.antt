-- The patterns of turns.
use Rattle.std.specs.Prelude.{ℕ, zero, suc, ◌==◌, Bool, true, false, ◌&&◌, nat_lt, ◌<◌, List, [], ◌∷◌, ◌++◌}
use Rattle.std.specs.List.{All, Contains, list_all, list_any}
use Rattle.run_settings.specs.declared.letter.Letter.{Letter}
use Rattle.run_settings.specs.declared.letter.Letter.TheVariants.{Record, Read, Release}

-- a letter names a follower that there is
abbrev pub IsLetter : ℕ → Letter → Type 0
IsLetter readers Record = Unit {0}
IsLetter readers (Read reader) = reader < readers
IsLetter readers Release = Unit {0}

-- a pattern has turns of the recorder, of each follower and of the gate, and of no other
pub record IsPattern (readers : ℕ) (turns : List Letter) : Type 0 where
  pub letters : All (IsLetter readers) turns
  pub records : Contains turns Record
  pub reads : (reader : ℕ) → reader < readers → Contains turns (Read reader)
  pub releases : Contains turns Release

-- The same as a test.

abbrev pub is_letter : ℕ → Letter → Bool
is_letter readers Record = true
is_letter readers (Read reader) = nat_lt reader readers
is_letter readers Release = true

abbrev pub is_record : Letter → Bool
is_record Record = true
is_record (Read reader) = false
is_record Release = false

abbrev pub is_release : Letter → Bool
is_release Record = false
is_release (Read reader) = false
is_release Release = true

abbrev pub is_read : ℕ → Letter → Bool
is_read reader Record = false
is_read reader (Read other) = other == reader
is_read reader Release = false

-- each of so many followers has a turn
abbrev pub has_reads : ℕ → List Letter → Bool
has_reads zero turns = true
has_reads (suc reader) turns = has_reads reader turns && list_any (is_read reader) turns

unfoldable pub is_pattern : ℕ → List Letter → Bool
is_pattern readers turns =
    list_all (is_letter readers) turns && list_any is_record turns && has_reads readers turns
    && list_any is_release turns

-- a turn of each follower in order
unfoldable pub reads_below : ℕ → List Letter
reads_below zero = []
reads_below (suc reader) = reads_below reader ++ Read reader ∷ []

-- the recorder, each follower in order, the gate
abbrev pub plain_turns : ℕ → List Letter
plain_turns readers = Record ∷ reads_below readers ++ Release ∷ []
