-- What each word after the command is, and the first bad one.
use Rattle.std.specs.Prelude.{ℕ, ◌+◌, ◌==◌, Bool, true, false, not, ◌&&◌, nat_lt, if◌then◌else◌, List, [], ◌∷◌, ◌++◌, length, Option, Some, None, is_none, is_some}
use Rattle.std.specs.List.{list_any}
use Rattle.command_words.specs.declared.table.CommandName.{CommandName}
use Rattle.command_words.specs.declared.table.CommandName.TheVariants.{Load}
use Rattle.command_words.specs.declared.table.Setting.{Setting}
use Rattle.command_words.specs.Table.{belongs, place, plain_count, setting_named}
use Rattle.command_words.specs.Values.{◌>>=◌, is_option, is_plain, is_value, seed_in, size_in}

-- a plain word; an option; or the value of the option that stands before it: each with its number among the words
pub data Role : Type 0 where
  Plain : ℕ → List ℕ → Role
  Naming : ℕ → List ℕ → Role
  Value : ℕ → List ℕ → List ℕ → Role

-- what words are, of which the first has this number, and is a value where an option stands before it
unfoldable pub roles : ℕ → Option (List ℕ) → List (List ℕ) → List Role
roles number waiting [] = []
roles number None (word ∷ words) =
    if is_option word then Naming number word ∷ roles (number + 1) (Some word) words
    else Plain number word ∷ roles (number + 1) None words
roles number (Some name) (word ∷ words) = Value number name word ∷ roles (number + 1) None words

abbrev pub is_setting : Setting → Option Setting → Bool
is_setting setting None = false
is_setting setting (Some other) = place other == place setting

-- whether a word names an option
abbrev pub names : Setting → List ℕ → Bool
names setting word = is_setting setting (setting_named word)

abbrev pub is_naming : Setting → Role → Bool
is_naming setting (Plain number word) = false
is_naming setting (Naming number name) = names setting name
is_naming setting (Value number name value) = false

-- whether an option stands among words
abbrev pub has_name : List Role → Setting → Bool
has_name words setting = list_any (is_naming setting) words

-- the first value of an option, and the number of its word
abbrev pub found : List Role → Setting → Option (List ℕ × ℕ)
found [] setting = None
found (Plain number word ∷ words) setting = found words setting
found (Naming number name ∷ words) setting = found words setting
found (Value number name value ∷ words) setting =
    if names setting name then Some (value, number) else found words setting

abbrev pub plain_words : List Role → List (List ℕ)
plain_words [] = []
plain_words (Plain number word ∷ words) = word ∷ plain_words words
plain_words (Naming number name ∷ words) = plain_words words
plain_words (Value number name value ∷ words) = plain_words words

-- whether words end with an option that has no value; the first argument says so where there are none
abbrev pub ends_open : Bool → List Role → Bool
ends_open open_before [] = open_before
ends_open open_before (Plain number word ∷ words) = ends_open false words
ends_open open_before (Naming number name ∷ words) = ends_open true words
ends_open open_before (Value number name value ∷ words) = ends_open false words

-- the option of a word, where the command has it and it has not stood before
unfoldable pub option_of : CommandName → (Setting → Bool) → List ℕ → Option Setting
option_of command stood word =
    setting_named word >>= λ setting.
    if belongs setting command && not (stood setting) then Some setting else None

-- the plain words of a made guest are numbers: the first any of 32 bits, the second its size
abbrev pub meets_plain : CommandName → ℕ → List ℕ → Bool
meets_plain Load before word =
    if before == 0 then is_some (seed_in word) else is_some (size_in word)
meets_plain _ before word = true

-- whether a plain word may stand after so many others
unfoldable pub may_stand : CommandName → ℕ → List ℕ → Bool
may_stand command before word =
    nat_lt before (plain_count command) && is_plain word && meets_plain command before word

abbrev pub is_value_of : Option Setting → List ℕ → Bool
is_value_of None value = false
is_value_of (Some setting) value = is_value setting value

-- whether a word is bad, after these
abbrev pub is_bad : CommandName → List Role → Role → Bool
is_bad command before (Plain number word) =
    not (may_stand command (length (plain_words before)) word)
is_bad command before (Naming number name) = is_none (option_of command (has_name before) name)
is_bad command before (Value number name value) = not (is_value_of (setting_named name) value)

abbrev pub number : Role → ℕ
number (Plain n word) = n
number (Naming n name) = n
number (Value n name value) = n

-- the number of the first bad word, after these
unfoldable pub first_bad : CommandName → List Role → List Role → Option ℕ
first_bad command before [] = None
first_bad command before (word ∷ words) =
    if is_bad command before word then Some (number word)
    else first_bad command (before ++ word ∷ []) words
