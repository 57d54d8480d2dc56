-- The lines of a script: what is spelled, and stands where it may, is read again; and what is read is spelled so.
use Rattle.std.proofs.Common.{◌≡◌, ℕ, zero, suc, ◌+◌, ◌<◌, ◌≤◌, Bool, true, false, ◌&&◌, cond, eqb, ltb, List, [], ◌∷◌, ◌++◌, length, Option, Some, None, Result, Ok, Err, refl, sym, ap, subst, ◌∙◌, append_assoc, arith, inl, inr, decimal}
use Rattle.std.specs.Prelude.{codes, is_none, ok_or}
use Rattle.std.specs.Option.{option_map_or}
use Rattle.std.specs.List.{AllByRecursion}
use Rattle.std.proofs.lemmas.Bool.{lt-ltb, le-ltb, ltb-true, ltb-false, eqb-true, and_parts}
use Rattle.std.proofs.lemmas.List.{append-nil, nil_from_length}
use Rattle.memory_map.specs.declared.TheConstants.{MOST_STEPS}
use Rattle.machine_model.specs.Script.{Span, Entry, What, Serial, Tick, Latency, Script}
use Rattle.format_model.specs.Script.{Line, Blank, Clock, Sectors, At, most_sectors, IsWhat, IsLine, what_text, SpellsWhat, Spells, clocks, spans, entries, last_step, MayStand, StandAfter, SpellEach, period_of, script_of, longer, texts_of, IsScript, hex}
use Rattle.format_model.specs.Then.{◌>>=◌}
use Rattle.format_model.specs.ScriptReading.{Broken, BadLine, Falling, TooMany, strip, cut, at_space, is_number, number_in, number_at, hex_at, serial_at, tick_at, latency_at, what_at, SoFar, nothing, with_line, clock_at, span_in, sectors_at, entry_in, entry_at, is_blank, line_at, at_line, lines_at, script_so_far, script_in}
use Rattle.format_model.proofs.ScriptParts.{bind_ok, ok_is, chosen_ok, passed_ok, either_of, taken, strip_found, cut_again, cut_found, decimal_digits, decimal_number, in_again, in_found, number_again, number_found, AreBytes, hex_again, hex_found}

-- ---- what arrives

bytes_after : (front back : List ℕ) → AreBytes (front ++ back) → AreBytes back
bytes_after [] back fits = fits
bytes_after (b ∷ front) back fits = bytes_after front back fits.1

bytes_more : (bytes : List ℕ) (b : ℕ) → AreBytes bytes → b < 256 → AreBytes (bytes ++ b ∷ [])
bytes_more [] b fits small = (small, tt)
bytes_more (x ∷ bytes) b fits small = (fits.0, bytes_more bytes b fits.1 small)

some_more : (bytes : List ℕ) (b : ℕ) → 0 < length (bytes ++ b ∷ [])
some_more [] b = omega arith
some_more (x ∷ bytes) b = omega arith

serial_again : (bytes : List ℕ) (mark : ℕ) → IsWhat (Serial bytes mark) → what_at (what_text (Serial bytes mark)) ≡ Ok (Serial bytes mark)
unfolding what_at serial_at
serial_again bytes zero is = rw (hex_again bytes is.0 is.1) refl
serial_again bytes (suc zero) is = rw (hex_again bytes is.0 is.1) refl
serial_again bytes (suc (suc mark)) is = absurd (omega (arith, is.2))

what_again : (what : What) (text : List ℕ) → IsWhat what → SpellsWhat what text → what_at text ≡ Ok what
unfolding what_at tick_at latency_at
what_again (Serial bytes mark) text is (inl e) = ap what_at e ∙ serial_again bytes mark is
what_again (Serial bytes mark) text is (inr f) =
    let mark_is : ◌≡◌ {A = Result What Broken} (Ok (Serial (f.0 ++ 10 ∷ []) 0)) (Ok (Serial bytes mark)) = rw (f.2, f.3) refl in
    ap what_at f.1 ∙ mark_is
what_again (Tick count) text is e = rw (e, number_again 1 4294967295 count is.0 is.1 (omega (arith, is.1))) refl
what_again (Latency steps) text is e = rw (e, number_again 1 1000000 steps is.0 is.1 (omega (arith, is.1))) refl

-- what a text spells
abbrev pub Tells : List ℕ → What → Type 0
Tells text what = SpellsWhat what text × IsWhat what

serial_found : (word rest text : List ℕ) (mark : ℕ) (what : What) → mark ≤ 1 → text ≡ word ++ rest → ((bytes : List ℕ) → word ++ hex bytes ≡ what_text (Serial bytes mark)) → serial_at mark rest ≡ Ok what → Tells text what
unfolding serial_at
serial_found word rest text mark what small is_text spelled e =
    let b = bind_ok (hex_at rest) (λ bytes. Ok (Serial bytes mark)) what e in
    let found = hex_found rest b.0 b.1 in
    let whole : text ≡ what_text (Serial b.0 mark) = is_text ∙ ap (λ (x : List ℕ). word ++ x) found.0 ∙ spelled b.0 in
    subst (λ (w : What). Tells text w) (ok_is (Serial b.0 mark) what b.2) (inl whole, (found.2, found.1, small))

text_found : (rest text : List ℕ) (what : What) → AreBytes rest → text ≡ codes "line " ++ rest → ◌≡◌ {A = Result What Broken} (Ok (Serial (rest ++ 10 ∷ []) 0)) (Ok what) → Tells text what
text_found rest text what fits is_text e =
    subst (λ (w : What). Tells text w) (ok_is (Serial (rest ++ 10 ∷ []) 0) what e) (inr (rest, is_text, refl, refl), (some_more rest 10, bytes_more rest 10 fits (omega arith), omega arith))

tick_found : (rest text : List ℕ) (what : What) → text ≡ codes "tick " ++ rest → tick_at rest ≡ Ok what → Tells text what
unfolding tick_at
tick_found rest text what is_text e =
    let n = bind_ok (number_at 1 4294967295 rest) (λ count. Ok (Tick count)) what e in
    let found = number_found 1 4294967295 n.0 rest (omega arith) n.1 in
    subst (λ (w : What). Tells text w) (ok_is (Tick n.0) what n.2) (is_text ∙ ap (λ (x : List ℕ). codes "tick " ++ x) found.spelled, (found.low, found.high))

latency_found : (rest text : List ℕ) (what : What) → text ≡ codes "latency " ++ rest → latency_at rest ≡ Ok what → Tells text what
unfolding latency_at
latency_found rest text what is_text e =
    let n = bind_ok (number_at 1 1000000 rest) (λ steps. Ok (Latency steps)) what e in
    let found = number_found 1 1000000 n.0 rest (omega arith) n.1 in
    subst (λ (w : What). Tells text w) (ok_is (Latency n.0) what n.2) (is_text ∙ ap (λ (x : List ℕ). codes "latency " ++ x) found.spelled, (found.low, found.high))

what_found : (text : List ℕ) (what : What) → AreBytes text → what_at text ≡ Ok what → Tells text what
unfolding what_at
what_found text what fits e =
    let at_latency : Result What Broken = option_map_or latency_at (strip (codes "latency ") text) (Err BadLine) in
    let at_tick : Result What Broken = option_map_or tick_at (strip (codes "tick ") text) at_latency in
    let at_text : Result What Broken = option_map_or (λ rest. Ok (Serial (rest ++ 10 ∷ []) 0)) (strip (codes "line ") text) at_tick in
    let at_marked : Result What Broken = option_map_or (serial_at 1) (strip (codes "marked ") text) at_text in
    elim (taken (serial_at 0) (strip (codes "serial ") text) at_marked what e) [
      | inl t ↦ serial_found (codes "serial ") t.0 text 0 what (omega arith) (strip_found (codes "serial ") text t.0 t.1) (λ bytes. refl) t.2
      | inr e1 ↦ elim (taken (serial_at 1) (strip (codes "marked ") text) at_text what e1) [
        | inl t ↦ serial_found (codes "marked ") t.0 text 1 what (omega arith) (strip_found (codes "marked ") text t.0 t.1) (λ bytes. refl) t.2
        | inr e2 ↦ elim (taken (λ (rest : List ℕ). Ok (Serial (rest ++ 10 ∷ []) 0)) (strip (codes "line ") text) at_tick what e2) [
          | inl t ↦ let is_text = strip_found (codes "line ") text t.0 t.1 in
              text_found t.0 text what (bytes_after (codes "line ") t.0 (subst AreBytes is_text fits)) is_text t.2
          | inr e3 ↦ elim (taken tick_at (strip (codes "tick ") text) at_latency what e3) [
            | inl t ↦ tick_found t.0 text what (strip_found (codes "tick ") text t.0 t.1) t.2
            | inr e4 ↦ elim (taken latency_at (strip (codes "latency ") text) (Err BadLine) what e4) [
              | inl t ↦ latency_found t.0 text what (strip_found (codes "latency ") text t.0 t.1) t.2
              | inr e5 ↦ absurd (let no : ◌≡◌ {A = Result What Broken} (Err BadLine) (Ok what) = e5 in cc)
            ]
          ]
        ]
      ]
    ]

-- ---- what the lines before have said

abbrev pub head_of : List ℕ → Option ℕ
head_of [] = None
head_of (x ∷ xs) = Some x

abbrev pub heard : List Line → SoFar
heard before = record { clock = head_of (clocks before); sectors = spans before; entries = entries before }

clocks_more : (before : List Line) (line : Line) → clocks (before ++ line ∷ []) ≡ clocks before ++ clocks (line ∷ [])
clocks_more [] line = refl
clocks_more (Blank ∷ before) line = clocks_more before line
clocks_more (Clock period ∷ before) line = ap (λ (x : List ℕ). period ∷ x) (clocks_more before line)
clocks_more (Sectors span ∷ before) line = clocks_more before line
clocks_more (At entry ∷ before) line = clocks_more before line

pub spans_more : (before : List Line) (line : Line) → spans (before ++ line ∷ []) ≡ spans before ++ spans (line ∷ [])
spans_more [] line = refl
spans_more (Blank ∷ before) line = spans_more before line
spans_more (Clock period ∷ before) line = spans_more before line
spans_more (Sectors span ∷ before) line = ap (λ (x : List Span). span ∷ x) (spans_more before line)
spans_more (At entry ∷ before) line = spans_more before line

pub entries_more : (before : List Line) (line : Line) → entries (before ++ line ∷ []) ≡ entries before ++ entries (line ∷ [])
entries_more [] line = refl
entries_more (Blank ∷ before) line = entries_more before line
entries_more (Clock period ∷ before) line = entries_more before line
entries_more (Sectors span ∷ before) line = entries_more before line
entries_more (At entry ∷ before) line = ap (λ (x : List Entry). entry ∷ x) (entries_more before line)

with_one : (before : List Line) (line : Line) → MayStand before line → with_line (heard before) line ≡ heard (before ++ line ∷ [])
with_one before Blank may =
    rw (clocks_more before Blank, spans_more before Blank, entries_more before Blank, append-nil (clocks before), append-nil (spans before), append-nil (entries before)) refl
with_one before (Clock period) may =
    rw (clocks_more before (Clock period), spans_more before (Clock period), entries_more before (Clock period), append-nil (spans before), append-nil (entries before), may.0) refl
with_one before (Sectors span) may =
    rw (clocks_more before (Sectors span), spans_more before (Sectors span), entries_more before (Sectors span), append-nil (clocks before), append-nil (entries before)) refl
with_one before (At entry) may =
    rw (clocks_more before (At entry), spans_more before (At entry), entries_more before (At entry), append-nil (clocks before), append-nil (spans before)) refl

-- ---- a line

span_again : (a b : ℕ) → a ≤ b → b ≤ most_sectors → span_in (decimal a) (decimal b) ≡ Ok (record { first = a; last = b })
unfolding span_in
span_again a b low high = rw (in_again 0 most_sectors a (omega arith) (omega arith) (omega arith), in_again a most_sectors b low high (omega arith)) refl

sectors_again : (a b count : ℕ) → a ≤ b → b ≤ most_sectors → count < 256 → sectors_at true count (decimal a ++ 32 ∷ decimal b) ≡ Ok (Sectors (record { first = a; last = b }))
unfolding sectors_at
sectors_again a b count low high few =
    rw (cut_again (decimal a) (decimal b) (decimal_digits a (omega arith)), decimal_number a (omega arith), decimal_number b (omega arith), span_again a b low high, lt-ltb count 256 few) refl

entry_in_again : (last count at : ℕ) (what : What) → last ≤ at → count < 65536 → entry_in last count at what ≡ Ok (At (record { at = at; what = what }))
unfolding entry_in
entry_in_again last count at what rises few = rw (le-ltb at last rises, lt-ltb count 65536 few) refl

entry_again : (last count at : ℕ) (what : What) (text : List ℕ) → last ≤ at → count < 65536 → at ≤ MOST_STEPS → IsWhat what → SpellsWhat what text → entry_at last count (decimal at ++ 32 ∷ text) ≡ Ok (At (record { at = at; what = what }))
unfolding entry_at
entry_again last count at what text rises few high is spelled =
    rw (cut_again (decimal at) text (decimal_digits at (omega arith)), decimal_number at (omega arith), what_again what text is spelled, in_again 0 MOST_STEPS at (omega arith) high (omega arith), entry_in_again last count at what rises few) refl

line_again : (before : List Line) (line : Line) (text : List ℕ) → Spells line text → IsLine line → MayStand before line → line_at (heard before) text ≡ Ok line
unfolding line_at clock_at
line_again before Blank text (inl e) is may = rw e refl
line_again before Blank text (inr f) is may = rw f.1 refl
line_again before (Clock period) text e is may =
    rw (e, may.0, may.1, number_again 1 MOST_STEPS period is.0 is.1 (omega (arith, is.1))) refl
line_again before (Sectors span) text e is may =
    rw (e, may.0, sectors_again span.first span.last (length (spans before)) is.0 is.1 may.1) refl
line_again before (At entry) text f is may =
    rw (f.1, entry_again (last_step (entries before)) (length (entries before)) entry.at entry.what f.0 may.0 may.1 is.0 is.1 f.2) refl

-- what a line's text says, and where it stands
abbrev pub Says : List Line → List ℕ → Line → Type 0
Says before text line = Spells line text × IsLine line × MayStand before line

blank_found : (before : List Line) (text : List ℕ) → is_blank text ≡ true → Says before text Blank
blank_found before [] e = (inl refl, tt, tt)
blank_found before (b ∷ bs) e = (inr (bs, ap (λ (x : ℕ). x ∷ bs) (eqb-true b 35 e)), tt, tt)

no_clock : (periods : List ℕ) → is_none (head_of periods) ≡ true → periods ≡ []
no_clock [] e = refl
no_clock (p ∷ periods) e = absurd cc

clock_found : (before : List Line) (text rest : List ℕ) (line : Line) → text ≡ codes "clock " ++ rest → clock_at (is_none (head_of (clocks before)) && eqb (length (entries before)) 0) rest ≡ Ok line → Says before text line
unfolding clock_at
clock_found before text rest line is_text e =
    let chosen = chosen_ok (is_none (head_of (clocks before)) && eqb (length (entries before)) 0) (number_at 1 MOST_STEPS rest >>= λ period. Ok (Clock period)) BadLine line e in
    let may = and_parts (is_none (head_of (clocks before))) (eqb (length (entries before)) 0) chosen.0 in
    let n = bind_ok (number_at 1 MOST_STEPS rest) (λ period. Ok (Clock period)) line chosen.1 in
    let found = number_found 1 MOST_STEPS n.0 rest (omega arith) n.1 in
    subst (λ (l : Line). Says before text l) (ok_is (Clock n.0) line n.2)
    (is_text ∙ ap (λ (x : List ℕ). codes "clock " ++ x) found.spelled, (found.low, found.high), (no_clock (clocks before) may.0, nil_from_length (entries before) (eqb-true (length (entries before)) 0 may.1)))

parted_ok : (o : Option (List ℕ × List ℕ)) (p : List ℕ × List ℕ) → ok_or o BadLine ≡ Ok p → o ≡ Some p
parted_ok None p e = absurd cc
parted_ok (Some q) p e = cc

space_found : (text : List ℕ) (p : List ℕ × List ℕ) → at_space text ≡ Ok p → cut 32 text ≡ Some p
space_found text p e = parted_ok (cut 32 text) p e

span_found : (left right : List ℕ) (span : Span) → is_number left ≡ true → is_number right ≡ true → span_in left right ≡ Ok span → (left ≡ decimal span.first) × (right ≡ decimal span.last) × (span.first ≤ span.last) × (span.last ≤ most_sectors)
unfolding span_in
span_found left right span is_left is_right e =
    let a = bind_ok (number_in 0 most_sectors left) (λ first. number_in first most_sectors right >>= λ last. Ok (record { first = first; last = last })) span e in
    let b = bind_ok (number_in a.0 most_sectors right) (λ last. Ok (record { first = a.0; last = last })) span a.2 in
    let first = in_found 0 most_sectors a.0 left (omega arith) is_left a.1 in
    let last = in_found a.0 most_sectors b.0 right (omega arith) is_right b.1 in
    let made : Span = record { first = a.0; last = b.0 } in
    subst (λ (s : Span). (left ≡ decimal s.first) × (right ≡ decimal s.last) × (s.first ≤ s.last) × (s.last ≤ most_sectors)) (ok_is made span b.2) (first.spelled, last.spelled, last.low, last.high)

sectors_found : (before : List Line) (text rest : List ℕ) (line : Line) → text ≡ codes "sectors " ++ rest → sectors_at (eqb (length (entries before)) 0) (length (spans before)) rest ≡ Ok line → Says before text line
unfolding sectors_at
sectors_found before text rest line is_text e =
    let count = length (spans before) in
    let w = bind_ok (at_space rest) (λ words. cond (eqb (length (entries before)) 0 && (is_number words.0 && is_number words.1)) (span_in words.0 words.1 >>= λ span. cond (ltb count 256) (Ok (Sectors span)) (Err TooMany)) (Err BadLine)) line e in
    let words = w.0 in
    let chosen = chosen_ok (eqb (length (entries before)) 0 && (is_number words.0 && is_number words.1)) (span_in words.0 words.1 >>= λ span. cond (ltb count 256) (Ok (Sectors span)) (Err TooMany)) BadLine line w.2 in
    let may = and_parts (eqb (length (entries before)) 0) (is_number words.0 && is_number words.1) chosen.0 in
    let numbers = and_parts (is_number words.0) (is_number words.1) may.1 in
    let s = bind_ok (span_in words.0 words.1) (λ span. cond (ltb count 256) (Ok (Sectors span)) (Err TooMany)) line chosen.1 in
    let few = chosen_ok (ltb count 256) (Ok (Sectors s.0)) TooMany line s.2 in
    let found = span_found words.0 words.1 s.0 numbers.0 numbers.1 s.1 in
    let parts : rest ≡ words.0 ++ 32 ∷ words.1 = cut_found 32 rest words (space_found rest words w.1) in
    let spelled : rest ≡ decimal s.0.first ++ 32 ∷ decimal s.0.last = parts ∙ ap (λ (x : List ℕ). x ++ 32 ∷ words.1) found.0 ∙ ap (λ (x : List ℕ). decimal s.0.first ++ 32 ∷ x) found.1 in
    subst (λ (l : Line). Says before text l) (ok_is (Sectors s.0) line few.1)
    (is_text ∙ ap (λ (x : List ℕ). codes "sectors " ++ x) spelled, (found.2, found.3), (nil_from_length (entries before) (eqb-true (length (entries before)) 0 may.0), ltb-true count 256 few.0))

entry_in_found : (before : List Line) (at : ℕ) (what : What) (line : Line) → entry_in (last_step (entries before)) (length (entries before)) at what ≡ Ok line → (At (record { at = at; what = what }) ≡ line) × MayStand before (At (record { at = at; what = what }))
unfolding entry_in
entry_in_found before at what line e =
    let made : Line = At (record { at = at; what = what }) in
    let rises = passed_ok (ltb at (last_step (entries before))) Falling (cond (ltb (length (entries before)) 65536) (Ok made) (Err TooMany)) line e in
    let few = chosen_ok (ltb (length (entries before)) 65536) (Ok made) TooMany line rises.1 in
    (ok_is made line few.1, (ltb-false at (last_step (entries before)) rises.0, ltb-true (length (entries before)) 65536 few.0))

entry_found : (before : List Line) (text rest : List ℕ) (line : Line) → AreBytes rest → text ≡ codes "at " ++ rest → entry_at (last_step (entries before)) (length (entries before)) rest ≡ Ok line → Says before text line
unfolding entry_at
entry_found before text rest line fits is_text e =
    let last = last_step (entries before) in
    let count = length (entries before) in
    let w = bind_ok (at_space rest) (λ words. cond (is_number words.0) (what_at words.1 >>= λ arriving. number_in 0 MOST_STEPS words.0 >>= λ step. entry_in last count step arriving) (Err BadLine)) line e in
    let words = w.0 in
    let chosen = chosen_ok (is_number words.0) (what_at words.1 >>= λ arriving. number_in 0 MOST_STEPS words.0 >>= λ step. entry_in last count step arriving) BadLine line w.2 in
    let arriving = bind_ok (what_at words.1) (λ arriving. number_in 0 MOST_STEPS words.0 >>= λ step. entry_in last count step arriving) line chosen.1 in
    let step = bind_ok (number_in 0 MOST_STEPS words.0) (λ step. entry_in last count step arriving.0) line arriving.2 in
    let stands = entry_in_found before step.0 arriving.0 line step.2 in
    let parts : rest ≡ words.0 ++ 32 ∷ words.1 = cut_found 32 rest words (space_found rest words w.1) in
    let text_fits : AreBytes words.1 = (bytes_after words.0 (32 ∷ words.1) (subst AreBytes parts fits)).1 in
    let told = what_found words.1 arriving.0 text_fits arriving.1 in
    let number = in_found 0 MOST_STEPS step.0 words.0 (omega arith) chosen.0 step.1 in
    let spelled : rest ≡ decimal step.0 ++ 32 ∷ words.1 = parts ∙ ap (λ (x : List ℕ). x ++ 32 ∷ words.1) number.spelled in
    subst (λ (l : Line). Says before text l) stands.0
    ((words.1, is_text ∙ ap (λ (x : List ℕ). codes "at " ++ x) spelled, told.0), (number.high, told.1), stands.1)

line_found : (before : List Line) (text : List ℕ) (line : Line) → AreBytes text → line_at (heard before) text ≡ Ok line → Says before text line
unfolding line_at
line_found before text line fits e =
    let count = length (entries before) in
    let at_entry : Result Line Broken = option_map_or (entry_at (last_step (entries before)) count) (strip (codes "at ") text) (Err BadLine) in
    let at_sectors : Result Line Broken = option_map_or (sectors_at (eqb count 0) (length (spans before))) (strip (codes "sectors ") text) at_entry in
    let at_clock : Result Line Broken = option_map_or (clock_at (is_none (head_of (clocks before)) && eqb count 0)) (strip (codes "clock ") text) at_sectors in
    elim (either_of (is_blank text) (Ok Blank) at_clock (Ok line) e) [
      | inl t ↦ subst (λ (l : Line). Says before text l) (ok_is Blank line t.1) (blank_found before text t.0)
      | inr t ↦ elim (taken (clock_at (is_none (head_of (clocks before)) && eqb count 0)) (strip (codes "clock ") text) at_sectors line t.1) [
        | inl u ↦ clock_found before text u.0 line (strip_found (codes "clock ") text u.0 u.1) u.2
        | inr e1 ↦ elim (taken (sectors_at (eqb count 0) (length (spans before))) (strip (codes "sectors ") text) at_entry line e1) [
          | inl u ↦ sectors_found before text u.0 line (strip_found (codes "sectors ") text u.0 u.1) u.2
          | inr e2 ↦ elim (taken (entry_at (last_step (entries before)) count) (strip (codes "at ") text) (Err BadLine) line e2) [
            | inl u ↦ let is_text = strip_found (codes "at ") text u.0 u.1 in
                entry_found before text u.0 line (bytes_after (codes "at ") u.0 (subst AreBytes is_text fits)) is_text u.2
            | inr e3 ↦ absurd (let no : ◌≡◌ {A = Result Line Broken} (Err BadLine) (Ok line) = e3 in cc)
          ]
        ]
      ]
    ]

-- ---- all lines of a file

at_line_ok : {A : Type 0} (number : ℕ) (r : Result A Broken) (x : A) → at_line number r ≡ Ok x → r ≡ Ok x
at_line_ok number (Ok y) x e = cc
at_line_ok number (Err broken) x e = absurd cc

then_ok : {A B : Type 0} (r : Result A (ℕ × Broken)) (f : A → Result B (ℕ × Broken)) (y : B) → (r >>= f) ≡ Ok y → (x : A) × (r ≡ Ok x) × (f x ≡ Ok y)
then_ok (Ok x) f y e = (x, refl, e)
then_ok (Err d) f y e = absurd cc

lines_again : (before lines : List Line) (texts : List (List ℕ)) (number : ℕ) → SpellEach lines texts → StandAfter before lines → lines_at (heard before) number texts ≡ Ok (heard (before ++ lines))
unfolding lines_at
lines_again before [] [] number spelled stand = rw (append-nil before) refl
lines_again before [] (text ∷ texts) number spelled stand = absurd spelled
lines_again before (line ∷ lines) [] number spelled stand = absurd spelled
lines_again before (line ∷ lines) (text ∷ texts) number spelled stand =
    let one : line_at (heard before) text ≡ Ok line = line_again before line text spelled.0 stand.0 stand.1 in
    let others : lines_at (heard (before ++ line ∷ [])) (number + 1) texts ≡ Ok (heard ((before ++ line ∷ []) ++ lines)) = lines_again (before ++ line ∷ []) lines texts (number + 1) spelled.1 stand.2 in
    rw (one, with_one before line stand.1, others, append_assoc before (line ∷ []) lines) refl

lines_found : (before : List Line) (texts : List (List ℕ)) (number : ℕ) (so_far : SoFar) → AllByRecursion AreBytes texts → lines_at (heard before) number texts ≡ Ok so_far → (lines : List Line) × SpellEach lines texts × StandAfter before lines × (so_far ≡ heard (before ++ lines))
unfolding lines_at
lines_found before [] number so_far fits e = ([], tt, tt, (let is : heard before ≡ so_far = cc in rw (append-nil before) (sym is)))
lines_found before (text ∷ texts) number so_far fits e =
    let one = then_ok (at_line number (line_at (heard before) text)) (λ line. lines_at (with_line (heard before) line) (number + 1) texts) so_far e in
    let line = one.0 in
    let said = line_found before text line fits.0 (at_line_ok number (line_at (heard before) text) line one.1) in
    let later : lines_at (heard (before ++ line ∷ [])) (number + 1) texts ≡ Ok so_far = ap (λ (s : SoFar). lines_at s (number + 1) texts) (sym (with_one before line said.2)) ∙ one.2 in
    let others = lines_found (before ++ line ∷ []) texts (number + 1) so_far fits.1 later in
    (line ∷ others.0, (said.0, others.1), (said.1, said.2, others.2), others.3 ∙ ap heard (append_assoc before (line ∷ []) others.0))

-- ---- files

longer_fits : (b : ℕ) (texts : List (List ℕ)) → b < 256 → AllByRecursion AreBytes texts → AllByRecursion AreBytes (longer b texts)
longer_fits b [] small fits = ((small, tt), tt)
longer_fits b (text ∷ texts) small fits = ((small, fits.0), fits.1)

fits_by : (t : Bool) (b : ℕ) (texts : List (List ℕ)) → b < 256 → AllByRecursion AreBytes texts → AllByRecursion AreBytes (cond t ([] ∷ texts) (longer b texts))
fits_by true b texts small fits = (tt, fits)
fits_by false b texts small fits = longer_fits b texts small fits

texts_fit : (bytes : List ℕ) → AreBytes bytes → AllByRecursion AreBytes (texts_of bytes)
texts_fit [] fits = tt
texts_fit (b ∷ bytes) fits = fits_by (eqb b 10) b (texts_of bytes) fits.0 (texts_fit bytes fits.1)

period_is : (periods : List ℕ) → option_map_or (λ (p : ℕ). p) (head_of periods) 100 ≡ period_of periods
period_is [] = refl
period_is (p ∷ periods) = refl

finished_is : (lines : List Line) → script_so_far (heard lines) ≡ script_of lines
finished_is lines = rw (period_is (clocks lines)) refl

-- what is a file of a script is read as it
pub script_again : (file : List ℕ) (script : Script) → IsScript file script → script_in file ≡ Ok script
unfolding script_in
script_again file script is =
    let read : lines_at nothing 1 (texts_of file) ≡ Ok (heard is.0) = lines_again [] is.0 (texts_of file) 1 is.1 is.2 in
    rw (read, finished_is is.0) (ap (λ (s : Script). Ok s) (sym is.3))

-- what is read is a file of its script
pub script_found : (file : List ℕ) (script : Script) → AreBytes file → script_in file ≡ Ok script → IsScript file script
unfolding script_in
script_found file script fits e =
    let read = then_ok (lines_at nothing 1 (texts_of file)) (λ so_far. Ok (script_so_far so_far)) script e in
    let found = lines_found [] (texts_of file) 1 read.0 (texts_fit file fits) read.1 in
    let made : script_so_far read.0 ≡ script = cc in
    (found.0, found.1, found.2, sym made ∙ ap script_so_far found.3 ∙ finished_is found.0)
