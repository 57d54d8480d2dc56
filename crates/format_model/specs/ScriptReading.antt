-- Reading a script from left to right, with the first fault that is met.
use Rattle.std.specs.Prelude.{ℕ, ◌+◌, ◌-◌, ◌*◌, ◌==◌, Bool, true, ◌&&◌, ◌||◌, nat_lt, nat_le, if◌then◌else◌, List, [], ◌∷◌, ◌++◌, length, slice_index, codes, Option, Some, None, is_none, option_map, ok_or, Result, Ok, Err}
use Rattle.std.specs.Option.{option_map_or}
use Rattle.std.specs.Char.{is_ascii_digit}
use Rattle.std.specs.List.{list_all}
use Rattle.memory_map.specs.declared.TheConstants.{MOST_STEPS}
use Rattle.machine_model.specs.Script.{Span, Entry, Script, What, default_clock}
use Rattle.machine_model.specs.Script as model
use Rattle.format_model.specs.Then.{◌>>=◌}
use Rattle.format_model.specs.Script.{Line, Blank, Clock, Sectors, At, most_sectors, last_step, texts_of}

-- what may be wrong with a line, in the order in which it is told
pub data Broken : Type 0 where
  BadLine : Broken
  BadNumber : Broken
  Falling : Broken
  TooMany : Broken

-- what stands after a word, where the text begins with it
abbrev pub strip : List ℕ → List ℕ → Option (List ℕ)
strip [] text = Some text
strip (w ∷ word) [] = None
strip (w ∷ word) (b ∷ text) = if b == w then strip word text else None

-- what stands before and after the first byte of this value
abbrev pub cut : ℕ → List ℕ → Option (List ℕ × List ℕ)
cut c [] = None
cut c (b ∷ bs) = if b == c then Some ([], bs) else option_map (λ p. (b ∷ p.0, p.1)) (cut c bs)

-- what stands before and after the first space
abbrev pub at_space : List ℕ → Result (List ℕ × List ℕ) Broken
at_space text = ok_or (cut 32 text) BadLine

-- one digit or more, and nothing else
abbrev pub is_number : List ℕ → Bool
is_number text = nat_lt 0 (length text) && list_all is_ascii_digit text

-- more digits than one, of which the first is 0
abbrev pub leads_with_zero : List ℕ → Bool
leads_with_zero digits = nat_lt 1 (length digits) && slice_index digits 0 == 48

-- the value of digits that stand after others of this value
abbrev pub value_after : ℕ → List ℕ → ℕ
value_after n [] = n
value_after n (digit ∷ digits) = value_after (10 * n + (digit - 48)) digits

unfoldable pub value_of : List ℕ → ℕ
value_of digits = value_after 0 digits

-- the value of digits that have no leading zero and are within these ends
unfoldable pub number_in : ℕ → ℕ → List ℕ → Result ℕ Broken
number_in least most digits =
    if leads_with_zero digits || (nat_lt (value_of digits) least || nat_lt most (value_of digits))
    then Err BadNumber
    else Ok (value_of digits)

-- a number alone
unfoldable pub number_at : ℕ → ℕ → List ℕ → Result ℕ Broken
number_at least most text = if is_number text then number_in least most text else Err BadLine

-- the value of a digit of lower case hexadecimal
unfoldable pub hex_value : ℕ → Result ℕ Broken
hex_value c =
    if nat_le 48 c && nat_le c 57 then Ok (c - 48)
    else if nat_le 97 c && nat_le c 102 then Ok (c - 87)
    else Err BadLine

-- the byte of a pair of such digits
unfoldable pub pair_at : ℕ → ℕ → Result ℕ Broken
pair_at high low = do
  h ← hex_value high
  l ← hex_value low
  Ok (16 * h + l)

-- the bytes of pairs
unfoldable pub pairs_at : List ℕ → Result (List ℕ) Broken
pairs_at [] = Ok []
pairs_at (high ∷ []) = Err BadLine
pairs_at (high ∷ low ∷ rest) = do
  byte ← pair_at high low
  bytes ← pairs_at rest
  Ok (byte ∷ bytes)

-- one pair or more
unfoldable pub hex_at : List ℕ → Result (List ℕ) Broken
hex_at text = if length text == 0 then Err BadLine else pairs_at text

unfoldable pub serial_at : ℕ → List ℕ → Result What Broken
serial_at mark text = do
  bytes ← hex_at text
  Ok (model.Serial bytes mark)

unfoldable pub tick_at : List ℕ → Result What Broken
tick_at text = do
  count ← number_at 1 4294967295 text
  Ok (model.Tick count)

unfoldable pub latency_at : List ℕ → Result What Broken
latency_at text = do
  steps ← number_at 1 1000000 text
  Ok (model.Latency steps)

-- what arrives, by its word
unfoldable pub what_at : List ℕ → Result What Broken
what_at text =
    option_map_or (serial_at 0) (strip (codes "serial ") text)
    (option_map_or (serial_at 1) (strip (codes "marked ") text)
    (option_map_or (λ rest. Ok (model.Serial (rest ++ 10 ∷ []) 0)) (strip (codes "line ") text)
    (option_map_or tick_at (strip (codes "tick ") text)
    (option_map_or latency_at (strip (codes "latency ") text) (Err BadLine)))))

-- what the lines so far have said; the clock is None where no line gave it
pub record SoFar : Type 0 where
  pub clock : Option ℕ
  pub sectors : List Span
  pub entries : List Entry

abbrev pub nothing : SoFar
nothing = record { clock = None; sectors = []; entries = [] }

abbrev pub with_line : SoFar → Line → SoFar
with_line so_far Blank = so_far
with_line so_far (Clock period) = record so_far { clock = Some period }
with_line so_far (Sectors span) = record so_far { sectors = so_far.sectors ++ span ∷ [] }
with_line so_far (At entry) = record so_far { entries = so_far.entries ++ entry ∷ [] }

-- a clock, where one may stand
unfoldable pub clock_at : Bool → List ℕ → Result Line Broken
clock_at may_stand text =
    if may_stand then (number_at 1 MOST_STEPS text >>= λ period. Ok (Clock period)) else Err BadLine

-- the numbers of a span: a last one below the first is out of range
unfoldable pub span_in : List ℕ → List ℕ → Result Span Broken
span_in left right = do
  first ← number_in 0 most_sectors left
  last ← number_in first most_sectors right
  Ok (record { first = first; last = last })

-- sectors, where they may stand, after this many others
unfoldable pub sectors_at : Bool → ℕ → List ℕ → Result Line Broken
sectors_at may_stand count text = do
  words ← at_space text
  if may_stand && (is_number words.0 && is_number words.1)
      then (span_in words.0 words.1 >>= λ span. if nat_lt count 256 then Ok (Sectors span)
      else Err TooMany)
      else Err BadLine

-- an entry after this many others, of which the last is at this step
unfoldable pub entry_in : ℕ → ℕ → ℕ → What → Result Line Broken
entry_in last count step arriving =
    if nat_lt step last then Err Falling
    else if nat_lt count 65536 then Ok (At (record { at = step; what = arriving }))
    else Err TooMany

unfoldable pub entry_at : ℕ → ℕ → List ℕ → Result Line Broken
entry_at last count text = do
  words ← at_space text
  if is_number words.0
      then (what_at words.1 >>= λ arriving. number_in 0 MOST_STEPS words.0
      >>= λ step. entry_in last count step arriving)
      else Err BadLine

-- the line says nothing
abbrev pub is_blank : List ℕ → Bool
is_blank [] = true
is_blank (b ∷ bs) = b == 35

-- what the next line says, after what was said so far
unfoldable pub line_at : SoFar → List ℕ → Result Line Broken
line_at so_far text = if is_blank text then Ok Blank else
    option_map_or (clock_at (is_none so_far.clock && length so_far.entries == 0))
    (strip (codes "clock ") text)
    (option_map_or (sectors_at (length so_far.entries == 0) (length so_far.sectors)) (strip (codes "sectors ") text)
    (option_map_or (entry_at (last_step so_far.entries) (length so_far.entries)) (strip (codes "at ") text) (Err BadLine)))

-- a fault and the number of its line
abbrev pub at_line : {A : Type 0} → ℕ → Result A Broken → Result A (ℕ × Broken)
at_line number (Ok x) = Ok x
at_line number (Err broken) = Err (number, broken)

-- the lines of these texts, of which the first has this number
unfoldable pub lines_at : SoFar → ℕ → List (List ℕ) → Result SoFar (ℕ × Broken)
lines_at so_far number [] = Ok so_far
lines_at so_far number (text ∷ texts) =
    at_line number (line_at so_far text)
    >>= λ line. lines_at (with_line so_far line) (number + 1) texts

-- the script of what all lines have said
abbrev pub script_so_far : SoFar → Script
script_so_far so_far = record {
  clock = option_map_or (λ period. period) so_far.clock default_clock;
  sectors = so_far.sectors;
  entries = so_far.entries;
}

-- the script of a file, or the first broken line, by its number from 1, and what is wrong with it
unfoldable pub script_in : List ℕ → Result Script (ℕ × Broken)
script_in file = do
  so_far ← lines_at nothing 1 (texts_of file)
  Ok (script_so_far so_far)
