-- How the values of options are read.
use Rattle.std.specs.Prelude.{ℕ, ◌-◌, ◌==◌, Bool, true, false, not, ◌&&◌, nat_le, if◌then◌else◌, List, [], ◌∷◌, length, codes, Option, Some, None, is_some}
use Rattle.std.specs.List.{find}
use Rattle.std.specs.Char.{is_ascii_digit}
use Rattle.std.specs.Int.{is_power_of_two}
use Rattle.std.specs.Result.{result_ok}
use Rattle.std.specs.Str.{bytes_eq}
use Rattle.memory_map.specs.declared.TheConstants.{LEAST_RAM_KIB, MOST_RAM_KIB, MOST_STEPS}
use Rattle.run_events.specs.declared.finding.Kind.{Kind}
use Rattle.run_events.specs.declared.finding.Kind.TheVariants.{Heap, Taint, Calls, Cover, Locks}
use Rattle.run_settings.specs.Kinds.{are_once}
use Rattle.run_settings.specs.declared.letter.Letter.{Letter}
use Rattle.run_settings.specs.declared.letter.Letter.TheVariants as letter
use Rattle.format_model.specs.ScriptReading.{number_at}
use Rattle.analysis_model.specs.Report.{kind_name}
use Rattle.command_words.specs.declared.value.TheConstants.{LEAST_LOG, MOST_LOG, MOST_THREADS}
use Rattle.command_words.specs.declared.table.Setting.{Setting}
use Rattle.command_words.specs.declared.table.Setting.TheVariants.{Disk, Mode, With, Require, Ram, Steps, Log, Threads, Turns}

-- what is read of a part, and then of what it gives
infixl 10 ◌>>=◌
abbrev pub ◌>>=◌ : {A B : Type 0} → Option A → (A → Option B) → Option B
None >>= f = None
(Some x) >>= f = f x

-- a word that may be a name or a value: it is not empty, and does not begin with a dash
abbrev pub is_plain : List ℕ → Bool
is_plain [] = false
is_plain (first ∷ others) = not (first == 45)

-- a word that stands for an option: it begins with two dashes
abbrev pub is_option : List ℕ → Bool
is_option [] = false
is_option (first ∷ []) = false
is_option (first ∷ second ∷ others) = first == 45 && second == 45

-- decimal digits without a leading zero, whose value is within these ends
abbrev pub number_in : ℕ → ℕ → List ℕ → Option ℕ
number_in least most text = result_ok (number_at least most text)

-- whether the mode is best effort
unfoldable pub best_in : List ℕ → Option Bool
best_in text =
    if bytes_eq text (codes "sync") then Some false
    else if bytes_eq text (codes "best") then Some true
    else None

-- the size of RAM in KiB
abbrev pub ram_in : List ℕ → Option ℕ
ram_in text = number_in LEAST_RAM_KIB MOST_RAM_KIB text

-- the most steps of a run
abbrev pub steps_in : List ℕ → Option ℕ
steps_in text = number_in 1 MOST_STEPS text

-- how many places a log has: a power of two
unfoldable pub log_in : List ℕ → Option ℕ
log_in text =
    number_in LEAST_LOG MOST_LOG text >>= λ places. if is_power_of_two places then Some places else None

-- how many threads
abbrev pub threads_in : List ℕ → Option ℕ
threads_in text = number_in 0 MOST_THREADS text

-- the number that a guest is made from
abbrev pub seed_in : List ℕ → Option ℕ
seed_in text = number_in 0 4294967295 text

-- how many parts a made guest has
abbrev pub size_in : List ℕ → Option ℕ
size_in text = number_in 1 100000 text

abbrev pub kinds : List Kind
kinds = Heap ∷ Taint ∷ Calls ∷ Cover ∷ Locks ∷ []

-- the analysis of a name
unfoldable pub kind_named : List ℕ → Option Kind
kind_named text = find (λ kind. bytes_eq text (kind_name kind)) kinds

-- a text with one byte more before the first part
abbrev pub onto_first : ℕ → List (List ℕ) → List (List ℕ)
onto_first b [] = []
onto_first b (text ∷ texts) = (b ∷ text) ∷ texts

-- the texts before, between and after the commas
unfoldable pub parts_of : List ℕ → List (List ℕ)
parts_of [] = [] ∷ []
parts_of (b ∷ bs) = if b == 44 then [] ∷ parts_of bs else onto_first b (parts_of bs)

-- the texts of what stands after a comma
abbrev pub parts_after : Option (List ℕ) → List (List ℕ)
parts_after None = []
parts_after (Some text) = parts_of text

-- the analyses of names, where each is one
unfoldable pub all_named : List (List ℕ) → Option (List Kind)
all_named [] = Some []
all_named (text ∷ texts) =
    kind_named text >>= λ kind. all_named texts >>= λ others. Some (kind ∷ others)

-- names that are parted by commas, each once
unfoldable pub kinds_in : List ℕ → Option (List Kind)
kinds_in text = all_named (parts_of text) >>= λ named. if are_once named then Some named else None

-- such names, or the word for none of them
unfoldable pub required_in : List ℕ → Option (List Kind)
required_in text = if bytes_eq text (codes "none") then Some [] else kinds_in text

-- whose turn a byte names
unfoldable pub letter_in : ℕ → Option Letter
letter_in b =
    if b == 97 then Some letter.Record
    else if b == 114 then Some letter.Release
    else if is_ascii_digit b then Some (letter.Read (b - 48))
    else None

unfoldable pub letters_in : List ℕ → Option (List Letter)
letters_in [] = Some []
letters_in (b ∷ bs) = letter_in b >>= λ first. letters_in bs >>= λ others. Some (first ∷ others)

-- 1 to 64 letters
unfoldable pub turns_in : List ℕ → Option (List Letter)
turns_in text = if nat_le 1 (length text) && nat_le (length text) 64 then letters_in text else None

-- whether a value meets the table
unfoldable pub meets : Setting → List ℕ → Bool
meets Disk value = true
meets Mode value = is_some (best_in value)
meets With value = is_some (kinds_in value)
meets Require value = is_some (required_in value)
meets Ram value = is_some (ram_in value)
meets Steps value = is_some (steps_in value)
meets Log value = is_some (log_in value)
meets Threads value = is_some (threads_in value)
meets Turns value = is_some (turns_in value)

abbrev pub is_value : Setting → List ℕ → Bool
is_value setting value = is_plain value && meets setting value
