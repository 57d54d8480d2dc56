-- Which bytes spell which script: line by line, what each may say and where it may stand; and the canonical text.
use Rattle.memory_map.specs.declared.TheConstants.{MOST_STEPS}
use Rattle.std.specs.Prelude.{◌≡◌, ℕ, ◌+◌, ◌/◌, ◌%◌, ◌<◌, ◌≤◌, ◌⊎◌, ◌==◌, nat_lt, if◌then◌else◌, List, [], ◌∷◌, ◌++◌, length, codes, decimal}
use Rattle.std.specs.List.{flat_map, AllByRecursion}
use Rattle.run_events.specs.Record.{IsMark}
use Rattle.machine_model.specs.Script.{Span, Entry, Script, default_clock}
use Rattle.machine_model.specs.Script as model

-- a line of a script: one that says nothing, or what it says
pub data Line : Type 0 where
  Blank : Line
  Clock : (period : ℕ) → Line
  Sectors : (span : Span) → Line
  At : (entry : Entry) → Line

-- the largest number of a sector in a script
abbrev pub most_sectors : ℕ
most_sectors = 32767

-- what may arrive: one byte or more, each with a mark; ticks; a latency
abbrev pub IsWhat : model.What → Type 0
IsWhat (model.Serial bytes mark) =
    (0 < length bytes) × AllByRecursion (λ b. b < 256) bytes × IsMark mark
IsWhat (model.Tick count) = (1 ≤ count) × (count ≤ 4294967295)
IsWhat (model.Latency steps) = (1 ≤ steps) × (steps ≤ 1000000)

-- what a line may say
abbrev pub IsLine : Line → Type 0
IsLine Blank = Unit {0}
IsLine (Clock period) = (1 ≤ period) × (period ≤ MOST_STEPS)
IsLine (Sectors span) = (span.first ≤ span.last) × (span.last ≤ most_sectors)
IsLine (At entry) = (entry.at ≤ MOST_STEPS) × IsWhat entry.what

-- a digit of lower case hexadecimal
abbrev pub hex_digit : ℕ → ℕ
hex_digit n = if nat_lt n 10 then 48 + n else 87 + n

-- two of them a byte, the high one first
abbrev pub hex_pair : ℕ → List ℕ
hex_pair b = hex_digit (b / 16) ∷ hex_digit (b % 16) ∷ []

abbrev pub hex : List ℕ → List ℕ
hex bytes = flat_map hex_pair bytes

-- bytes are spelled by their word, which tells the mark, and in hexadecimal
abbrev pub what_text : model.What → List ℕ
what_text (model.Serial bytes mark) =
    (if mark == 0 then codes "serial " else codes "marked ") ++ hex bytes
what_text (model.Tick count) = codes "tick " ++ decimal count
what_text (model.Latency steps) = codes "latency " ++ decimal steps

-- or, where they end with a line feed and have no mark, as the text before it
abbrev pub SpellsWhat : model.What → List ℕ → Type 0
SpellsWhat (model.Serial bytes mark) text =
    (text ≡ what_text (model.Serial bytes mark))
    ⊎ ((front : List ℕ) × (text ≡ codes "line " ++ front) × (bytes ≡ front ++ 10 ∷ []) × (mark ≡ 0))
SpellsWhat (model.Tick count) text = text ≡ what_text (model.Tick count)
SpellsWhat (model.Latency steps) text = text ≡ what_text (model.Latency steps)

-- the texts of a line; one that says nothing is empty, or begins with a number sign
abbrev pub Spells : Line → List ℕ → Type 0
Spells Blank text = (text ≡ []) ⊎ ((rest : List ℕ) × (text ≡ 35 ∷ rest))
Spells (Clock period) text = text ≡ codes "clock " ++ decimal period
Spells (Sectors span) text =
    text ≡ codes "sectors " ++ (decimal span.first ++ 32 ∷ decimal span.last)
Spells (At entry) text =
    (what : List ℕ) × (text ≡ codes "at " ++ (decimal entry.at ++ 32 ∷ what))
    × SpellsWhat entry.what what

-- what the lines of a script say, each kind by itself
abbrev pub clocks : List Line → List ℕ
clocks [] = []
clocks (Blank ∷ lines) = clocks lines
clocks (Clock period ∷ lines) = period ∷ clocks lines
clocks (Sectors span ∷ lines) = clocks lines
clocks (At entry ∷ lines) = clocks lines

abbrev pub spans : List Line → List Span
spans [] = []
spans (Blank ∷ lines) = spans lines
spans (Clock period ∷ lines) = spans lines
spans (Sectors span ∷ lines) = span ∷ spans lines
spans (At entry ∷ lines) = spans lines

abbrev pub entries : List Line → List Entry
entries [] = []
entries (Blank ∷ lines) = entries lines
entries (Clock period ∷ lines) = entries lines
entries (Sectors span ∷ lines) = entries lines
entries (At entry ∷ lines) = entry ∷ entries lines

-- the step of the last entry, and 0 where there is none
abbrev pub last_step : List Entry → ℕ
last_step [] = 0
last_step (entry ∷ []) = entry.at
last_step (first ∷ second ∷ others) = last_step (second ∷ others)

-- Where a line may stand, by the lines before it: the clock once; clock and sectors before any entry; the steps of the
-- entries do not fall; and there are at most this many of each.
abbrev pub MayStand : List Line → Line → Type 0
MayStand before Blank = Unit {0}
MayStand before (Clock period) = (clocks before ≡ []) × (entries before ≡ [])
MayStand before (Sectors span) = (entries before ≡ []) × (length (spans before) < 256)
MayStand before (At entry) =
    (last_step (entries before) ≤ entry.at) × (length (entries before) < 65536)

-- each line is one that may be, and stands where it may
abbrev pub StandAfter : List Line → List Line → Type 0
StandAfter before [] = Unit {0}
StandAfter before (line ∷ lines) =
    IsLine line × MayStand before line × StandAfter (before ++ line ∷ []) lines

-- the texts spell the lines, one for one
abbrev pub SpellEach : List Line → List (List ℕ) → Type 0
SpellEach [] [] = Unit {0}
SpellEach [] (text ∷ texts) = ⊥
SpellEach (line ∷ lines) [] = ⊥
SpellEach (line ∷ lines) (text ∷ texts) = Spells line text × SpellEach lines texts

-- the timer's period: the clock's, if a line gives it
abbrev pub period_of : List ℕ → ℕ
period_of [] = default_clock
period_of (period ∷ others) = period

abbrev pub script_of : List Line → Script
script_of lines = record {
  clock = period_of (clocks lines);
  sectors = spans lines;
  entries = entries lines;
}

-- a byte before these texts: it begins the first one
abbrev pub longer : ℕ → List (List ℕ) → List (List ℕ)
longer b [] = (b ∷ []) ∷ []
longer b (text ∷ texts) = (b ∷ text) ∷ texts

-- the texts of a file's lines: a line feed ends each, and may be missing after the last
abbrev pub texts_of : List ℕ → List (List ℕ)
texts_of [] = []
texts_of (b ∷ bs) = if b == 10 then [] ∷ texts_of bs else longer b (texts_of bs)

-- the bytes are a file of this script
abbrev pub IsScript : List ℕ → Script → Type 0
IsScript file script =
    (lines : List Line) × SpellEach lines (texts_of file) × StandAfter [] lines
    × (script ≡ script_of lines)

-- The canonical text: the clock always, then the sectors, then the entries, each line with its line feed.
abbrev pub clock_line : ℕ → List ℕ
clock_line period = codes "clock " ++ (decimal period ++ 10 ∷ [])

abbrev pub span_line : Span → List ℕ
span_line span = codes "sectors " ++ (decimal span.first ++ 32 ∷ (decimal span.last ++ 10 ∷ []))

abbrev pub entry_line : Entry → List ℕ
entry_line entry = codes "at " ++ (decimal entry.at ++ 32 ∷ (what_text entry.what ++ 10 ∷ []))

unfoldable pub printed : Script → List ℕ
printed script =
    clock_line script.clock ++ flat_map span_line script.sectors
    ++ flat_map entry_line script.entries
