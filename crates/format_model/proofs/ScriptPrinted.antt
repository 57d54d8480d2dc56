-- The canonical text of a script is a file of it.
use Rattle.std.proofs.Common.{◌≡◌, ℕ, zero, suc, ◌+◌, ◌/◌, ◌%◌, ◌^◌, ◌<◌, ◌≤◌, Bool, true, false, not, cond, eqb, leb, List, [], ◌∷◌, ◌++◌, length, map, refl, sym, ap, subst, ◌∙◌, append_assoc, arith, inl, inr, decimal}
use Rattle.std.specs.Prelude.{codes}
use Rattle.std.specs.Char.{is_ascii_digit}
use Rattle.std.specs.List.{list_all, flat_map, AllByRecursion}
use Rattle.std.proofs.lemmas.Bool.{cases_lt, lt-ltb, le-ltb, leb-true, ne_eqb, and_parts}
use Rattle.std.proofs.lemmas.List.{append-nil, length_push}
use Rattle.machine_model.specs.Script.{Span, Entry, What, Serial, Tick, Latency, Script}
use Rattle.format_model.specs.Script.{Line, Blank, Clock, Sectors, At, IsWhat, IsLine, hex_digit, hex, what_text, SpellsWhat, Spells, clocks, spans, entries, last_step, StandAfter, SpellEach, period_of, script_of, longer, texts_of, IsScript, clock_line, span_line, entry_line, printed}
use Rattle.format_model.proofs.ScriptParts.{AreDigits, decimal_digits}
use Rattle.format_model.proofs.ScriptLines.{spans_more, entries_more}

-- ---- what lines that stand give

-- the steps do not fall, from this one on
abbrev pub Rises : ℕ → List Entry → Type 0
Rises last [] = Unit {0}
Rises last (entry ∷ entries) = (last ≤ entry.at) × Rises entry.at entries

-- what lines say, after others with this last step and so many spans and entries
pub record SayFit (last many count : ℕ) (lines : List Line) : Type 0 where
  pub periods : AllByRecursion (λ p. IsLine (Clock p)) (clocks lines)
  pub spans_are : AllByRecursion (λ s. IsLine (Sectors s)) (spans lines)
  pub entries_are : AllByRecursion (λ e. IsLine (At e)) (entries lines)
  pub rises : Rises last (entries lines)
  pub few_spans : many ≤ 256 → many + length (spans lines) ≤ 256
  pub few_entries : count ≤ 65536 → count + length (entries lines) ≤ 65536

last_of_more : (es : List Entry) (e : Entry) → last_step (es ++ e ∷ []) ≡ e.at
last_of_more [] e = refl
last_of_more (x ∷ []) e = refl
last_of_more (x ∷ y ∷ es) e = last_of_more (y ∷ es) e

same_spans : (before : List Line) (line : Line) → spans (line ∷ []) ≡ [] → spans (before ++ line ∷ []) ≡ spans before
same_spans before line none = spans_more before line ∙ ap (λ (x : List Span). spans before ++ x) none ∙ append-nil (spans before)

same_entries : (before : List Line) (line : Line) → entries (line ∷ []) ≡ [] → entries (before ++ line ∷ []) ≡ entries before
same_entries before line none = entries_more before line ∙ ap (λ (x : List Entry). entries before ++ x) none ∙ append-nil (entries before)

say_fit : (before lines : List Line) (last many count : ℕ) → last ≡ last_step (entries before) → many ≡ length (spans before) → count ≡ length (entries before) → StandAfter before lines → SayFit last many count lines
say_fit before [] last many count a b c stand =
    record { periods = tt; spans_are = tt; entries_are = tt; rises = tt; few_spans = λ h. omega arith; few_entries = λ h. omega arith }
say_fit before (Blank ∷ lines) last many count a b c stand =
    let es = same_entries before Blank refl in
    let later = say_fit (before ++ Blank ∷ []) lines last many count (a ∙ ap last_step (sym es)) (b ∙ ap length (sym (same_spans before Blank refl))) (c ∙ ap length (sym es)) stand.2 in
    record { periods = later.periods; spans_are = later.spans_are; entries_are = later.entries_are; rises = later.rises; few_spans = later.few_spans; few_entries = later.few_entries }
say_fit before (Clock period ∷ lines) last many count a b c stand =
    let es = same_entries before (Clock period) refl in
    let later = say_fit (before ++ Clock period ∷ []) lines last many count (a ∙ ap last_step (sym es)) (b ∙ ap length (sym (same_spans before (Clock period) refl))) (c ∙ ap length (sym es)) stand.2 in
    record { periods = (stand.0, later.periods); spans_are = later.spans_are; entries_are = later.entries_are; rises = later.rises; few_spans = later.few_spans; few_entries = later.few_entries }
say_fit before (Sectors span ∷ lines) last many count a b c stand =
    let es = same_entries before (Sectors span) refl in
    let more : many + 1 ≡ length (spans (before ++ Sectors span ∷ [])) = rw (spans_more before (Sectors span), length_push (spans before) span) (ap (λ (n : ℕ). n + 1) b) in
    let later = say_fit (before ++ Sectors span ∷ []) lines last (many + 1) count (a ∙ ap last_step (sym es)) more (c ∙ ap length (sym es)) stand.2 in
    record {
      periods = later.periods;
      spans_are = (stand.0, later.spans_are);
      entries_are = later.entries_are;
      rises = later.rises;
      few_spans = λ h. (let room : many + 1 ≤ 256 = omega (arith, b, stand.1.1) in omega (arith, later.few_spans room));
      few_entries = later.few_entries;
    }
say_fit before (At entry ∷ lines) last many count a b c stand =
    let more : count + 1 ≡ length (entries (before ++ At entry ∷ [])) = rw (entries_more before (At entry), length_push (entries before) entry) (ap (λ (n : ℕ). n + 1) c) in
    let ends : entry.at ≡ last_step (entries (before ++ At entry ∷ [])) = rw (entries_more before (At entry), last_of_more (entries before) entry) refl in
    let later = say_fit (before ++ At entry ∷ []) lines entry.at many (count + 1) ends (b ∙ ap length (sym (same_spans before (At entry) refl))) more stand.2 in
    record {
      periods = later.periods;
      spans_are = later.spans_are;
      entries_are = (stand.0, later.entries_are);
      rises = (omega (arith, a, stand.1.0), later.rises);
      few_spans = later.few_spans;
      few_entries = λ h. (let room : count + 1 ≤ 65536 = omega (arith, c, stand.1.1) in omega (arith, later.few_entries room));
    }

-- ---- the canonical lines stand

abbrev pub span_lines : List Span → List Line
span_lines ss = map Sectors ss

abbrev pub entry_lines : List Entry → List Line
entry_lines es = map At es

abbrev pub canonical : Script → List Line
canonical script = Clock script.clock ∷ (span_lines script.sectors ++ entry_lines script.entries)

stand_entries : (before : List Line) (es : List Entry) → Rises (last_step (entries before)) es → AllByRecursion (λ e. IsLine (At e)) es → length (entries before) + length es ≤ 65536 → StandAfter before (entry_lines es)
stand_entries before [] rises are few = tt
stand_entries before (e ∷ es) rises are few =
    let more : entries (before ++ At e ∷ []) ≡ entries before ++ e ∷ [] = entries_more before (At e) in
    let ends : last_step (entries (before ++ At e ∷ [])) ≡ e.at = ap last_step more ∙ last_of_more (entries before) e in
    let count : length (entries (before ++ At e ∷ [])) ≡ length (entries before) + 1 = ap length more ∙ length_push (entries before) e in
    (are.0, (rises.0, omega arith), stand_entries (before ++ At e ∷ []) es (subst (λ (n : ℕ). Rises n es) (sym ends) rises.1) are.1 (omega (arith, count, few)))

stand_spans : (before : List Line) (ss : List Span) (rest : List Line) → entries before ≡ [] → AllByRecursion (λ s. IsLine (Sectors s)) ss → length (spans before) + length ss ≤ 256 → StandAfter (before ++ span_lines ss) rest → StandAfter before (span_lines ss ++ rest)
stand_spans before [] rest none are few later = subst (λ (b : List Line). StandAfter b rest) (append-nil before) later
stand_spans before (s ∷ ss) rest none are few later =
    let count : length (spans (before ++ Sectors s ∷ [])) ≡ length (spans before) + 1 = ap length (spans_more before (Sectors s)) ∙ length_push (spans before) s in
    let regrouped : before ++ (Sectors s ∷ span_lines ss) ≡ (before ++ Sectors s ∷ []) ++ span_lines ss = sym (append_assoc before (Sectors s ∷ []) (span_lines ss)) in
    (are.0, (none, omega arith), stand_spans (before ++ Sectors s ∷ []) ss rest (same_entries before (Sectors s) refl ∙ none) are.1 (omega (arith, count, few)) (subst (λ (b : List Line). StandAfter b rest) regrouped later))

no_entries : (ss : List Span) → entries (Clock 0 ∷ span_lines ss) ≡ []
no_entries [] = refl
no_entries (s ∷ ss) = no_entries ss

canonical_stands : (script : Script) (lines : List Line) → IsLine (Clock script.clock) → script.sectors ≡ spans lines → script.entries ≡ entries lines → SayFit 0 0 0 lines → StandAfter [] (canonical script)
canonical_stands script lines is ss es fit =
    let before : List Line = Clock script.clock ∷ span_lines script.sectors in
    let none : entries before ≡ [] = no_entries script.sectors in
    let rises : Rises 0 script.entries = subst (λ (x : List Entry). Rises 0 x) (sym es) fit.rises in
    let from : Rises (last_step (entries before)) script.entries = subst (λ (x : List Entry). Rises (last_step x) script.entries) (sym none) rises in
    let few : length (entries before) + length script.entries ≤ 65536 = omega (arith, ap length none, ap length es, fit.few_entries (omega arith)) in
    let spans_few : length script.sectors ≤ 256 = omega (arith, ap length ss, fit.few_spans (omega arith)) in
    let entries_stand = stand_entries before script.entries from (subst (λ (x : List Entry). AllByRecursion (λ e. IsLine (At e)) x) (sym es) fit.entries_are) few in
    (is, (refl, refl), stand_spans (Clock script.clock ∷ []) script.sectors (entry_lines script.entries) refl (subst (λ (x : List Span). AllByRecursion (λ s. IsLine (Sectors s)) x) (sym ss) fit.spans_are) (omega arith) entries_stand)

-- ---- the canonical text spells them

-- no line feed is among these
abbrev pub feedless : List ℕ → Bool
feedless text = list_all (λ b. not (eqb b 10)) text

feedless_more : (a b : List ℕ) → feedless a ≡ true → feedless b ≡ true → feedless (a ++ b) ≡ true
feedless_more [] b first second = second
feedless_more (x ∷ a) b first second =
    let parts = and_parts (not (eqb x 10)) (feedless a) first in
    rw (parts.0, feedless_more a b parts.1 second) refl

feedless_digits : (ds : List ℕ) → AreDigits ds → feedless ds ≡ true
feedless_digits [] are = refl
feedless_digits (d ∷ ds) are =
    let parts = and_parts (is_ascii_digit d) (list_all is_ascii_digit ds) are in
    let ends = and_parts (leb 48 d) (leb d 57) parts.0 in
    let low : 48 ≤ d = leb-true 48 d ends.0 in
    rw (ne_eqb d 10 (λ e. omega arith), feedless_digits ds parts.1) refl

feedless_decimal : (n : ℕ) → n < 2 ^ 64 → feedless (decimal n) ≡ true
feedless_decimal n small = feedless_digits (decimal n) (decimal_digits n small)

no_feed_digit : (n : ℕ) → eqb (hex_digit n) 10 ≡ false
no_feed_digit n =
    elim (cases_lt n 10) [
      | inl lt ↦ rw (lt-ltb n 10 lt) (ne_eqb (48 + n) 10 (λ e. omega arith))
      | inr le ↦ rw (le-ltb n 10 le) (ne_eqb (87 + n) 10 (λ e. omega arith))
    ]

feedless_hex : (bytes : List ℕ) → feedless (hex bytes) ≡ true
feedless_hex [] = refl
feedless_hex (b ∷ bytes) = rw (no_feed_digit (b / 16), no_feed_digit (b % 16), feedless_hex bytes) refl

feedless_what : (what : What) → IsWhat what → feedless (what_text what) ≡ true
feedless_what (Serial bytes zero) is = feedless_hex bytes
feedless_what (Serial bytes (suc zero)) is = feedless_hex bytes
feedless_what (Serial bytes (suc (suc mark))) is = absurd (omega (arith, is.2))
feedless_what (Tick count) is = feedless_decimal count (omega (arith, is.1))
feedless_what (Latency steps) is = feedless_decimal steps (omega (arith, is.1))

text_first : (t : Bool) (b : ℕ) (text : List ℕ) (rest others : List (List ℕ)) → not t ≡ true → others ≡ text ∷ rest → cond t ([] ∷ others) (longer b others) ≡ (b ∷ text) ∷ rest
text_first true b text rest others ends e = absurd cc
text_first false b text rest others ends e = ap (longer b) e

text_then : (text rest : List ℕ) → feedless text ≡ true → texts_of (text ++ 10 ∷ rest) ≡ text ∷ texts_of rest
text_then [] rest none = refl
text_then (b ∷ text) rest none =
    let parts = and_parts (not (eqb b 10)) (feedless text) none in
    text_first (eqb b 10) b text (texts_of rest) (texts_of (text ++ 10 ∷ rest)) parts.0 (text_then text rest parts.1)

-- a line that is spelled, before others that are
spelled_then : (line : Line) (lines : List Line) (file text rest : List ℕ) → file ≡ text ++ 10 ∷ rest → feedless text ≡ true → Spells line text → SpellEach lines (texts_of rest) → SpellEach (line ∷ lines) (texts_of file)
spelled_then line lines file text rest is none spelled others =
    subst (λ (texts : List (List ℕ)). SpellEach (line ∷ lines) texts) (sym (ap texts_of is ∙ text_then text rest none)) (spelled, others)

canonical_what : (what : What) → SpellsWhat what (what_text what)
canonical_what (Serial bytes mark) = inl refl
canonical_what (Tick count) = refl
canonical_what (Latency steps) = refl

clock_spelled : (period : ℕ) (lines : List Line) (rest : List ℕ) → IsLine (Clock period) → SpellEach lines (texts_of rest) → SpellEach (Clock period ∷ lines) (texts_of (clock_line period ++ rest))
clock_spelled period lines rest is others =
    spelled_then (Clock period) lines (clock_line period ++ rest) (codes "clock " ++ decimal period) rest (simp append_assoc) (feedless_decimal period (omega (arith, is.1))) refl others

span_spelled : (span : Span) (lines : List Line) (rest : List ℕ) → IsLine (Sectors span) → SpellEach lines (texts_of rest) → SpellEach (Sectors span ∷ lines) (texts_of (span_line span ++ rest))
span_spelled span lines rest is others =
    let first = feedless_decimal span.first (omega (arith, is.0, is.1)) in
    let last = feedless_decimal span.last (omega (arith, is.1)) in
    spelled_then (Sectors span) lines (span_line span ++ rest) (codes "sectors " ++ (decimal span.first ++ 32 ∷ decimal span.last)) rest (simp append_assoc) (feedless_more (decimal span.first) (32 ∷ decimal span.last) first last) refl others

entry_spelled : (entry : Entry) (lines : List Line) (rest : List ℕ) → IsLine (At entry) → SpellEach lines (texts_of rest) → SpellEach (At entry ∷ lines) (texts_of (entry_line entry ++ rest))
entry_spelled entry lines rest is others =
    let number = feedless_decimal entry.at (omega (arith, is.0)) in
    let what = what_text entry.what in
    spelled_then (At entry) lines (entry_line entry ++ rest) (codes "at " ++ (decimal entry.at ++ 32 ∷ what)) rest (simp append_assoc) (feedless_more (decimal entry.at) (32 ∷ what) number (feedless_what entry.what is.1)) (what, refl, canonical_what entry.what) others

spans_spelled : (ss : List Span) (lines : List Line) (rest : List ℕ) → AllByRecursion (λ s. IsLine (Sectors s)) ss → SpellEach lines (texts_of rest) → SpellEach (span_lines ss ++ lines) (texts_of (flat_map span_line ss ++ rest))
spans_spelled [] lines rest are others = others
spans_spelled (s ∷ ss) lines rest are others =
    let later = span_spelled s (span_lines ss ++ lines) (flat_map span_line ss ++ rest) are.0 (spans_spelled ss lines rest are.1 others) in
    subst (λ (file : List ℕ). SpellEach (Sectors s ∷ (span_lines ss ++ lines)) (texts_of file)) (sym (append_assoc (span_line s) (flat_map span_line ss) rest)) later

entries_spelled : (es : List Entry) → AllByRecursion (λ e. IsLine (At e)) es → SpellEach (entry_lines es) (texts_of (flat_map entry_line es))
entries_spelled [] are = tt
entries_spelled (e ∷ es) are = entry_spelled e (entry_lines es) (flat_map entry_line es) are.0 (entries_spelled es are.1)

-- ---- and they say the script

spans_are : (ss : List Span) (es : List Entry) → spans (span_lines ss ++ entry_lines es) ≡ ss
spans_are [] [] = refl
spans_are [] (e ∷ es) = spans_are [] es
spans_are (s ∷ ss) es = ap (λ (x : List Span). s ∷ x) (spans_are ss es)

entries_are : (ss : List Span) (es : List Entry) → entries (span_lines ss ++ entry_lines es) ≡ es
entries_are [] [] = refl
entries_are [] (e ∷ es) = ap (λ (x : List Entry). e ∷ x) (entries_are [] es)
entries_are (s ∷ ss) es = entries_are ss es

says_it : (script : Script) → script_of (canonical script) ≡ script
says_it script = rw (spans_are script.sectors script.entries, entries_are script.sectors script.entries) refl

period_fits : (periods : List ℕ) → AllByRecursion (λ p. IsLine (Clock p)) periods → IsLine (Clock (period_of periods))
period_fits [] are = (omega arith, omega arith)
period_fits (p ∷ periods) are = are.0

-- the canonical text of a script that some file gives is a file of it
pub printed_is : (file : List ℕ) (script : Script) → IsScript file script → IsScript (printed script) script
unfolding printed
printed_is file script is =
    let lines = is.0 in
    let fit = say_fit [] lines 0 0 0 refl refl refl is.2 in
    let clock_fits : IsLine (Clock script.clock) = subst (λ (s : Script). IsLine (Clock s.clock)) (sym is.3) (period_fits (clocks lines) fit.periods) in
    let ss : script.sectors ≡ spans lines = ap (λ (s : Script). s.sectors) is.3 in
    let es : script.entries ≡ entries lines = ap (λ (s : Script). s.entries) is.3 in
    let spans_fit = subst (λ (x : List Span). AllByRecursion (λ s. IsLine (Sectors s)) x) (sym ss) fit.spans_are in
    let entries_fit = subst (λ (x : List Entry). AllByRecursion (λ e. IsLine (At e)) x) (sym es) fit.entries_are in
    let rest = flat_map span_line script.sectors ++ flat_map entry_line script.entries in
    let others = spans_spelled script.sectors (entry_lines script.entries) (flat_map entry_line script.entries) spans_fit (entries_spelled script.entries entries_fit) in
    let spelled = clock_spelled script.clock (span_lines script.sectors ++ entry_lines script.entries) rest clock_fits others in
    let grouped : clock_line script.clock ++ rest ≡ printed script = sym (append_assoc (clock_line script.clock) (flat_map span_line script.sectors) (flat_map entry_line script.entries)) in
    (canonical script, subst (λ (f : List ℕ). SpellEach (canonical script) (texts_of f)) grouped spelled, canonical_stands script lines clock_fits ss es fit, sym (says_it script))
