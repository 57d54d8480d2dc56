-- What is kept of the words that were read.
use Rattle.std.specs.Prelude.{◌≡◌, ℕ, ◌+◌, ◌*◌, ◌<◌, ◌≤◌, true, false, List, [], ◌++◌, length, map, take, drop, slice_index_or, count_by, Option, Some, None, is_some, option_map}
use Rattle.command_words.specs.declared.draft.Draft.{Draft}
use Rattle.command_words.specs.declared.draft.Given.{Given}
use Rattle.command_words.specs.declared.fault.WordsFault.{WordsFault}
use Rattle.command_words.specs.declared.fault.WordsFault.TheVariants.{Word, Missing}
use Rattle.command_words.specs.declared.table.CommandName.{CommandName}
use Rattle.command_words.specs.declared.table.Setting.{Setting}
use Rattle.command_words.specs.Table.{place}
use Rattle.command_words.specs.Roles.{Role, roles, found, has_name, plain_words, ends_open, first_bad}

-- a value, and the number of its word
abbrev pub seen : Given → List ℕ × ℕ
seen given = (given.text.now, given.number)

-- the value of an option that is kept
abbrev pub held : Draft → Setting → Option (List ℕ × ℕ)
held draft setting = option_map seen (slice_index_or draft.values (place setting) None)

-- the plain words that are kept
abbrev pub plain_held : Draft → List (List ℕ)
plain_held draft = map (λ word. word.now) (take draft.plain_count draft.plain)

-- how many words are kept
abbrev pub spent : Draft → ℕ
spent draft = 2 * count_by is_some draft.values + draft.plain_count

-- all of these words is kept
pub record Holds (words : List Role) (draft : Draft) : Type 0 where
  pub values : (setting : Setting) → held draft setting ≡ found words setting
  pub stood : (setting : Setting) → is_some (held draft setting) ≡ has_name words setting
  pub plain : plain_held draft ≡ plain_words words
  pub closed : ends_open false words ≡ false

-- the words from an index on were read up to the next, and none of them is bad
pub record ReadsOn (command : CommandName) (words : List (List ℕ)) (before : List Role)
    (index next : ℕ) (draft : Draft) : Type 0 where
  pub part : List Role
  pub further : index < next
  pub within : next ≤ length words
  pub same : roles (index + 2) None (drop index words)
      ≡ part ++ roles (next + 2) None (drop next words)
  pub good : (later : List Role)
      → first_bad command before (part ++ later) ≡ first_bad command (before ++ part) later
  pub holds : Holds (before ++ part) draft

-- why the words after these are refused
abbrev pub Refuses : CommandName → List Role → List Role → WordsFault → Type 0
Refuses command before words (Word number) = first_bad command before words ≡ Some number
Refuses command before words Missing =
    (first_bad command before words ≡ None) × (ends_open false words ≡ true)

-- all words of a command are kept, and none is bad
pub record IsDraft (command : CommandName) (words : List Role) (draft : Draft) : Type 0 where
  pub good : first_bad command [] words ≡ None
  pub holds : Holds words draft
