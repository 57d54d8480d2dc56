-- A script that some file spells drives a board.
use Rattle.std.proofs.Common.{◌≡◌, ℕ, ◌≤◌, List, [], ◌∷◌, ◌++◌, refl, sym, ap, subst, arith, ◌∙◌}
use Rattle.std.proofs.lemmas.List.{append-nil}
use Rattle.machine_model.specs.Board.{RisesFrom, IsPlayable, AreMarked, IsMarkedBy}
use Rattle.machine_model.specs.Script.{Entry, Script, What, Serial, Tick, Latency}
use Rattle.format_model.specs.Script.{Line, Blank, Clock, Sectors, At, IsScript, IsWhat, StandAfter, clocks, entries, last_step, period_of, script_of}
use Rattle.format_model.proofs.ScriptLines.{entries_more}

last_of_more : (es : List Entry) (e : Entry) → last_step (es ++ e ∷ []) ≡ e.at
last_of_more [] e = refl
last_of_more (x ∷ []) e = refl
last_of_more (x ∷ y ∷ es) e = last_of_more (y ∷ es) e

marked : (what : What) → IsWhat what → IsMarkedBy what
marked (Serial bytes mark) is = is.2
marked (Tick count) is = tt
marked (Latency steps) is = tt

-- lines that say no entry leave the last step
same_last : (before : List Line) (line : Line) → entries (line ∷ []) ≡ [] → last_step (entries (before ++ line ∷ [])) ≡ last_step (entries before)
same_last before line none = ap last_step (entries_more before line ∙ ap (λ (x : List Entry). entries before ++ x) none ∙ append-nil (entries before))

rises : (before lines : List Line) (last : ℕ) → last ≡ last_step (entries before) → StandAfter before lines → RisesFrom last (entries lines)
rises before [] last is stand = tt
rises before (Blank ∷ lines) last is stand = rises (before ++ Blank ∷ []) lines last (is ∙ sym (same_last before Blank refl)) stand.2
rises before (Clock period ∷ lines) last is stand = rises (before ++ Clock period ∷ []) lines last (is ∙ sym (same_last before (Clock period) refl)) stand.2
rises before (Sectors span ∷ lines) last is stand = rises (before ++ Sectors span ∷ []) lines last (is ∙ sym (same_last before (Sectors span) refl)) stand.2
rises before (At entry ∷ lines) last is stand =
    let ends : entry.at ≡ last_step (entries (before ++ At entry ∷ [])) = sym (ap last_step (entries_more before (At entry)) ∙ last_of_more (entries before) entry) in
    (omega (arith, is, stand.1.0), rises (before ++ At entry ∷ []) lines entry.at ends stand.2)

are_marked : (before lines : List Line) → StandAfter before lines → AreMarked (entries lines)
are_marked before [] stand = tt
are_marked before (Blank ∷ lines) stand = are_marked (before ++ Blank ∷ []) lines stand.2
are_marked before (Clock period ∷ lines) stand = are_marked (before ++ Clock period ∷ []) lines stand.2
are_marked before (Sectors span ∷ lines) stand = are_marked (before ++ Sectors span ∷ []) lines stand.2
are_marked before (At entry ∷ lines) stand = (marked entry.what stand.0.1, are_marked (before ++ At entry ∷ []) lines stand.2)

some_period : (before lines : List Line) → StandAfter before lines → 1 ≤ period_of (clocks lines)
some_period before [] stand = omega arith
some_period before (Blank ∷ lines) stand = some_period (before ++ Blank ∷ []) lines stand.2
some_period before (Clock period ∷ lines) stand = stand.0.0
some_period before (Sectors span ∷ lines) stand = some_period (before ++ Sectors span ∷ []) lines stand.2
some_period before (At entry ∷ lines) stand = some_period (before ++ At entry ∷ []) lines stand.2

pub script_plays : (file : List ℕ) (script : Script) → IsScript file script → IsPlayable script
script_plays file script is =
    let plays : IsPlayable (script_of is.0) = record { clock = some_period [] is.0 is.2; rises = rises [] is.0 0 refl is.2 } in
    subst IsPlayable (sym is.3) plays

pub script_marked : (file : List ℕ) (script : Script) → IsScript file script → AreMarked script.entries
script_marked file script is = subst (λ (s : Script). AreMarked s.entries) (sym is.3) (are_marked [] is.0 is.2)
