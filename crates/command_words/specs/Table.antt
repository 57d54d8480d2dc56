-- The commands and the options.
use Rattle.std.specs.Prelude.{ℕ, ◌==◌, Bool, List, [], ◌∷◌, codes, Option}
use Rattle.std.specs.List.{find, list_any}
use Rattle.std.specs.Str.{bytes_eq}
use Rattle.command_words.specs.declared.table.CommandName.{CommandName}
use Rattle.command_words.specs.declared.table.CommandName.TheVariants.{Run, Record, Analyze, Show, Load}
use Rattle.command_words.specs.declared.table.Setting.{Setting}
use Rattle.command_words.specs.declared.table.Setting.TheVariants.{Disk, Mode, With, Require, Ram, Steps, Log, Threads, Turns}

-- a command: its word, and how many plain words it has
pub record CommandRow : Type 0 where
  pub word : List ℕ
  pub plain : ℕ

abbrev pub command_row : CommandName → CommandRow
command_row Run = record { word = codes "run"; plain = 2 }
command_row Record = record { word = codes "record"; plain = 3 }
command_row Analyze = record { word = codes "analyze"; plain = 2 }
command_row Show = record { word = codes "show"; plain = 1 }
command_row Load = record { word = codes "load"; plain = 2 }

abbrev pub commands : List CommandName
commands = Run ∷ Record ∷ Analyze ∷ Show ∷ Load ∷ []

abbrev pub plain_count : CommandName → ℕ
plain_count command = (command_row command).plain

-- the command of a word
unfoldable pub command_named : List ℕ → Option CommandName
command_named word = find (λ command. bytes_eq word (command_row command).word) commands

-- commands by number, so that they can be compared
abbrev pub number_of : CommandName → ℕ
number_of Run = 0
number_of Record = 1
number_of Analyze = 2
number_of Show = 3
number_of Load = 4

-- an option: its word, and the commands that have it
pub record OptionRow : Type 0 where
  pub word : List ℕ
  pub commands : List CommandName

abbrev pub option_row : Setting → OptionRow
option_row Disk = record { word = codes "--disk"; commands = Run ∷ Record ∷ [] }
option_row Mode = record { word = codes "--mode"; commands = Run ∷ [] }
option_row With = record { word = codes "--with"; commands = Run ∷ Analyze ∷ [] }
option_row Require = record { word = codes "--require"; commands = Run ∷ [] }
option_row Ram = record { word = codes "--ram"; commands = Run ∷ Record ∷ [] }
option_row Steps = record { word = codes "--steps"; commands = Run ∷ Record ∷ [] }
option_row Log = record { word = codes "--log"; commands = Run ∷ Load ∷ [] }
option_row Threads = record { word = codes "--threads"; commands = Run ∷ Load ∷ [] }
option_row Turns = record { word = codes "--turns"; commands = Run ∷ [] }

abbrev pub settings : List Setting
settings = Disk ∷ Mode ∷ With ∷ Require ∷ Ram ∷ Steps ∷ Log ∷ Threads ∷ Turns ∷ []

-- the option of a word
unfoldable pub setting_named : List ℕ → Option Setting
setting_named word = find (λ setting. bytes_eq word (option_row setting).word) settings

-- whether a command has an option
abbrev pub belongs : Setting → CommandName → Bool
belongs setting command =
    list_any (λ c. number_of c == number_of command) (option_row setting).commands

-- the place of an option among all
abbrev pub place : Setting → ℕ
place Disk = 0
place Mode = 1
place With = 2
place Require = 3
place Ram = 4
place Steps = 5
place Log = 6
place Threads = 7
place Turns = 8
