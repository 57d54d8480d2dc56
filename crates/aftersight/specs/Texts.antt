-- The texts that a command line asks for in place of a run.
use Rattle.std.specs.Prelude.{ℕ, List, [], ◌∷◌, Option, None, Some, codes, if◌then◌else◌}
use Rattle.std.specs.Str.{bytes_eq}
use Rattle.aftersight.specs.declared.command_line.TheConstants.{HELP, VERSION}

-- the text for a word that stands alone: the help text for `--help`, the version text for `--version`
abbrev pub text_for : List ℕ → Option (List ℕ)
text_for word =
    if bytes_eq word (codes "--help") then Some HELP.now
    else if bytes_eq word (codes "--version") then Some VERSION.now
    else None

-- the text for these words: none unless there is exactly one
abbrev pub text_of : List (List ℕ) → Option (List ℕ)
text_of (word ∷ []) = text_for word
text_of words = None
