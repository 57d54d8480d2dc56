-- Plain steps one after the other, while nothing falls due: what is to come after them.
use Rattle.std.proofs.Common.{◌≡◌, ℕ, zero, suc, ◌+◌, ◌/◌, ◌%◌, ◌<◌, Bool, true, false, List, [], ◌∷◌, ◌++◌, length, Option, None, Some, refl, sym, ap, subst, ◌∙◌, arith}
use Rattle.std.proofs.lemmas.Bool.Decides.{nat_tests}
use Rattle.std.specs.Prelude.{◌||◌, ◌==◌, is_some, if◌then◌else◌}
use Rattle.memory_map.specs.declared.TheConstants.{POWER, SERIAL_DATA}
use Rattle.run_events.specs.declared.event.Event.{Event}
use Rattle.run_events.specs.declared.access.Access.{Access}
use Rattle.run_events.specs.declared.access.Access.TheVariants.{Quiet, Load, Store, Swap}
use Rattle.run_events.specs.declared.item.Item.{Item}
use Rattle.run_events.specs.declared.record.Record.TheVariants.{Reach}
use Rattle.run_events.specs.declared.supply.DmaWord.{DmaWord}
use Rattle.any_machine.specs.Log.{plain_item, reach_items}
use Rattle.any_machine.specs.Machine.{serial_byte}
use Rattle.board_model.specs.TheBoard.{after_access, after_event}
use Rattle.hart_model.specs.Machine.{hart}
use Rattle.hart_model.specs.State.{State}
use Rattle.hart_model.specs.Step.{cpu}
use Rattle.machine_model.specs.Board.{BoardState, IsUnderWay, at_step, board_lines}
use Rattle.machine_model.specs.Script.{Script}
use Rattle.run_events.specs.Access.{is_of_device}
use Rattle.rv_cpu.specs.Plain.{is_plain}
use Rattle.rv_cpu.specs.PlainRun.{are_plain, plain_after, plain_next}
use Rattle.rv_cpu.proofs.PlainLaws.{plain_first, plain_needs, plain_others, plain_step, plain_stores}
use Rattle.rv_devices.specs.Stands.{Stands, words_due}
use Rattle.rv_devices.specs.Still.{AreStill, IsStill}
use Rattle.rv_devices.specs.declared.board.Board.{Board}
use Rattle.rv_machine.specs.Phase.{is_over, items_at_most, items_of, mark_items, phase_after}
use Rattle.rv_machine.specs.ToCome.{Awaits, MovesOn, coming}
use Rattle.rv_machine.specs.declared.machine.Machine.{Machine}
use Rattle.rv_machine.specs.declared.phase.Phase.TheVariants.{Between, Words, Need}
use Rattle.rv_machine.proofs.ComingLaws.{coming-begin, coming-event, coming-same, coming-step, coming-words}
use Rattle.rv_machine.proofs.FinishLaws.{Behind, counted_by}

-- a step that sends nothing is told by its number
told_by_number : (step : ℕ) (event : Event) → serial_byte event ≡ None → reach_items step event ≡ mark_items (suc step)
told_by_number step event is = ap (λ (o : Option ℕ). if is_some o || suc step % 256 == 0 then record { item = Reach (suc step); byte = o } ∷ [] else []) is

-- a plain step changes no device
access_apart : (script : Script) (step : ℕ) (ram : List ℕ) (b : BoardState) (a : Access) → is_of_device a ≡ false → after_access script step ram b a ≡ b
access_apart script step ram b Quiet other = refl
access_apart script step ram b (Load address width value device mark) other = refl
access_apart script step ram b (Store address width value true) other = absurd cc
access_apart script step ram b (Store address width value false) other = refl
access_apart script step ram b (Swap address old new) other = refl

plain_apart : (script : Script) (step : ℕ) (ram : List ℕ) (b : BoardState) (s : State) (lines : ℕ) → is_plain s lines ≡ true → after_event script step ram b (cpu s lines None).0 ≡ b
plain_apart script step ram b s lines plain =
    let done = plain_step s lines plain in
    ap (λ (x : Event × State). after_event script step ram b x.0) done.is ∙ access_apart script step ram b done.effect.access done.other

-- plain steps count one each
pub plain_counts : (lines count : ℕ) (s : State) → (plain_after lines count s).step ≡ s.step + count
unfolding plain_after
plain_counts lines zero s = omega arith
plain_counts lines (suc count) s =
    let one : (plain_next lines s).step ≡ s.step + 1 = counted_by s (plain_next lines s) lines None (cpu s lines None).0 refl in
    omega (arith, plain_counts lines count (plain_next lines s), one)

after_first : (lines count : ℕ) (s : State) → plain_after lines count (plain_next lines s) ≡ plain_after lines (suc count) s
unfolding plain_after
after_first lines count s = refl

after_one : (lines : ℕ) (s : State) → plain_next lines s ≡ plain_after lines 1 s
unfolding plain_after
after_one lines s = refl

pub after_none : (lines count : ℕ) (s after : State) → plain_after lines count s ≡ after → count ≡ 0 → s ≡ after
unfolding plain_after
after_none lines zero s after is none = is
after_none lines (suc count) s after is none = absurd (omega (arith, none))

-- no multiple of 256 is passed
no_mark : (step more : ℕ) → step / 256 ≡ (step + suc more) / 256 → mark_items (suc step) ≡ []
no_mark step more same =
    let inside : 0 < suc step % 256 = omega (arith, same) in
    let not : (suc step % 256 == 0) ≡ false = grind (arith, nat_tests, inside) in
    ap (λ m. if m then record { item = Reach (suc step); byte = None } ∷ [] else []) not

module _ (script : Script) (lines : ℕ) (b : BoardState) where
  -- one plain step
  plain_goes : (left step : ℕ) (s : State) → is_plain s lines ≡ true → coming script Need left step lines s b [] ≡ mark_items (suc step) ++ coming script Between left (suc step) lines (plain_next lines s) b []
  unfolding hart
  plain_goes left step s plain =
      let event = (cpu s lines None).0 in
      let next = plain_next lines s in
      coming-step script Need None left step lines s b (plain_needs s lines plain)
      ∙ coming-event script left step lines s next b None event refl
      ∙ ap (λ (o : Option ℕ). reach_items step event ++ coming script (phase_after o) left (suc step) lines next (after_event script step next.ram b event) []) (plain_stores s lines POWER plain (omega arith))
      ∙ ap (λ (l : List Item). l ++ coming script Between left (suc step) lines next (after_event script step next.ram b event) []) (told_by_number step event (plain_stores s lines SERIAL_DATA plain (omega arith)))
      ∙ ap (λ (c : BoardState). mark_items (suc step) ++ coming script Between left (suc step) lines next c []) (plain_apart script step next.ram b s lines plain)

  -- a step begins before which nothing falls due
  still_goes : (left step : ℕ) (s : State) → IsStill script lines step b → coming script Between (suc left) step lines s b [] ≡ coming script Need left step lines s b []
  still_goes left step s still =
      coming-begin script left step lines s b []
      ∙ ap (λ (words : List DmaWord). coming script Words left step lines s (at_step step b) words) still.none
      ∙ ap (λ (c : BoardState). coming script Words left step lines s c []) still.same
      ∙ coming-words script left step lines s b
      ∙ coming-same script left step lines lines s b (sym still.lines_stay) refl

  -- one plain step, and more after it
  plain_run : (more left rest step to : ℕ) (s : State) → left ≡ rest + more → to ≡ step + suc more → step / 256 ≡ (step + more) / 256 → are_plain lines (suc more) s ≡ true → AreStill script lines (step + 1) more b
      → coming script Need left step lines s b [] ≡ mark_items to ++ coming script Between rest to lines (plain_after lines (suc more) s) b []
  plain_run zero left rest step to s enough there same plain still =
      subst (λ n. coming script Need left step lines s b [] ≡ mark_items to ++ coming script Between n to lines (plain_after lines 1 s) b []) (omega (arith, enough))
      (subst (λ n. coming script Need left step lines s b [] ≡ mark_items n ++ coming script Between left n lines (plain_after lines 1 s) b []) (omega (arith, there))
      (subst (λ (t : State). coming script Need left step lines s b [] ≡ mark_items (suc step) ++ coming script Between left (suc step) lines t b []) (after_one lines s) (plain_goes left step s (plain_first lines 0 s plain))))
  plain_run (suc more) left rest step to s enough there same plain still =
      let next = plain_next lines s in
      let fewer : left ≡ suc (rest + more) = omega (arith, enough) in
      plain_goes left step s (plain_first lines (suc more) s plain)
      ∙ ap (λ (l : List Item). l ++ coming script Between left (suc step) lines next b []) (no_mark step more same)
      ∙ ap (λ n. coming script Between n (suc step) lines next b []) fewer
      ∙ still_goes (rest + more) (suc step) next (subst (λ n. IsStill script lines n b) (omega arith) (still 0 (omega arith)))
      ∙ plain_run more (rest + more) rest (suc step) to next refl (omega (arith, there)) (omega (arith, same)) (plain_others lines (suc more) s plain) (λ k below. subst (λ n. IsStill script lines n b) (omega arith) (still (suc k) (omega (arith, below))))
      ∙ ap (λ (t : State). mark_items to ++ coming script Between rest to lines t b []) (after_first lines (suc more) s)

  -- plain steps, and another one begins
  plain_into : (more left rest step to : ℕ) (s : State) → left ≡ rest + more → to ≡ step + more → step / 256 ≡ to / 256 → are_plain lines more s ≡ true → AreStill script lines (step + 1) more b
      → coming script Need left step lines s b [] ≡ coming script Need rest to lines (plain_after lines more s) b []
  plain_into zero left rest step to s enough there same plain still =
      subst (λ n. coming script Need left step lines s b [] ≡ coming script Need n to lines (plain_after lines 0 s) b []) (omega (arith, enough))
      (subst (λ n. coming script Need left step lines s b [] ≡ coming script Need left n lines (plain_after lines 0 s) b []) (omega (arith, there))
      (ap (λ (t : State). coming script Need left step lines t b []) (after_none lines 0 s (plain_after lines 0 s) refl refl)))
  plain_into (suc more) left rest step to s enough there same plain still =
      let after = plain_after lines (suc more) s in
      let unmarked : mark_items to ≡ [] = subst (λ n. mark_items n ≡ []) (omega (arith, there)) (no_mark (step + more) 0 (omega (arith, there, same))) in
      plain_run more left (suc rest) step to s (omega (arith, enough)) there (omega (arith, there, same)) plain (λ k below. still k (omega (arith, below)))
      ∙ ap (λ (l : List Item). l ++ coming script Between (suc rest) to lines after b []) unmarked
      ∙ still_goes rest to after (subst (λ n. IsStill script lines n b) (omega (arith, there)) (still more (omega arith)))

-- plain steps were done, of which the first one had begun
pub ran : (left rest lines more : ℕ) (s after : State) (b next : Board) (items : List Item) → left ≡ rest + more → s.step / 256 ≡ (s.step + more) / 256 → are_plain lines (suc more) s ≡ true → plain_after lines (suc more) s ≡ after
    → length after.ram ≡ length s.ram
    → ((script : Script) (step : ℕ) (words : List DmaWord) (state : BoardState) → Stands script (step + 1) words state b → AreStill script (board_lines script step state) (step + 1) more state)
    → ((script : Script) (begun : ℕ) (words : List DmaWord) (state : BoardState) → Stands script begun words state b → Stands script (begun + more) words state next)
    → Awaits Need left lines s b items → Behind items (mark_items (s.step + suc more)) (λ rest'. Awaits Between rest lines after next rest')
ran left rest lines more s after b next items enough same plain does sized still goes is =
    let counted : after.step ≡ s.step + suc more = ap (λ (t : State). t.step) (sym does) ∙ plain_counts lines (suc more) s in
    let to = s.step + suc more in
    record {
      rest = coming is.script Between rest to lines after is.state [];
      are =
          is.are ∙ ap (coming is.script Need left s.step lines s is.state) is.due
          ∙ plain_run is.script lines is.state more left rest s.step to s enough refl same plain (subst (λ n. AreStill is.script n (s.step + 1) more is.state) is.told (still is.script s.step is.words is.state is.stands))
          ∙ ap (λ (t : State). mark_items to ++ coming is.script Between rest to lines t is.state []) does;
      after = record {
        script = is.script;
        state = is.state;
        words = [];
        stands = subst (λ words. Stands is.script (after.step + 0) words is.state next) is.due (subst (λ n. Stands is.script n is.words is.state next) (omega (arith, counted)) (goes is.script (s.step + 1) is.words is.state is.stands));
        way = subst (λ n. IsUnderWay n is.state.activity) (sym sized) is.way;
        held = tt;
        due = refl;
        told = tt;
        are = ap (λ n. coming is.script Between rest n lines after is.state []) (sym counted);
      };
    }

-- plain steps were done, of which the first one had begun, and another one has begun
pub ran_into : (left rest lines more : ℕ) (s after : State) (b next : Board) (items : List Item) → left ≡ rest + more → s.step / 256 ≡ (s.step + more) / 256 → are_plain lines more s ≡ true → plain_after lines more s ≡ after
    → length after.ram ≡ length s.ram
    → ((script : Script) (step : ℕ) (words : List DmaWord) (state : BoardState) → Stands script (step + 1) words state b → AreStill script (board_lines script step state) (step + 1) more state)
    → ((script : Script) (begun : ℕ) (words : List DmaWord) (state : BoardState) → Stands script begun words state b → Stands script (begun + more) words state next)
    → Awaits Need left lines s b items → Awaits Need rest lines after next items
ran_into left rest lines more s after b next items enough same plain does sized still goes is =
    let counted : after.step ≡ s.step + more = ap (λ (t : State). t.step) (sym does) ∙ plain_counts lines more s in
    let quiet : AreStill is.script lines (s.step + 1) more is.state = subst (λ n. AreStill is.script n (s.step + 1) more is.state) is.told (still is.script s.step is.words is.state is.stands) in
    record {
      script = is.script;
      state = is.state;
      words = [];
      stands = subst (λ words. Stands is.script (after.step + 1) words is.state next) is.due (subst (λ n. Stands is.script n is.words is.state next) (omega (arith, counted)) (goes is.script (s.step + 1) is.words is.state is.stands));
      way = subst (λ n. IsUnderWay n is.state.activity) (sym sized) is.way;
      held = tt;
      due = refl;
      told = shown more is.told quiet counted;
      are =
          is.are ∙ ap (coming is.script Need left s.step lines s is.state) is.due
          ∙ plain_into is.script lines is.state more left rest s.step (s.step + more) s enough refl same plain quiet
          ∙ ap (λ (t : State). coming is.script Need rest (s.step + more) lines t is.state []) does
          ∙ ap (λ n. coming is.script Need rest n lines after is.state []) (sym counted);
    }
  where
    shown : (more : ℕ) → board_lines is.script s.step is.state ≡ lines → AreStill is.script lines (s.step + 1) more is.state → after.step ≡ s.step + more → board_lines is.script after.step is.state ≡ lines
    shown zero told quiet counted = subst (λ n. board_lines is.script n is.state ≡ lines) (omega (arith, counted)) told
    shown (suc more) told quiet counted = subst (λ n. board_lines is.script n is.state ≡ lines) (omega (arith, counted)) (quiet more (omega arith)).lines_stay

-- and what they moved
unmarked : (done : ℕ) → [] ≡ mark_items done → 0 < done % 256
unmarked done is = by (done % 256 == 0) refl
  where
    by : (m : Bool) → (done % 256 == 0) ≡ m → 0 < done % 256
    by true same = let one : [] ≡ plain_item (Reach done) ∷ [] = is ∙ ap (λ m. if m then plain_item (Reach done) ∷ [] else []) same in absurd (cc)
    by false same = grind (arith, nat_tests, same)

pub moves_ran : (given : Option Item) (more : ℕ) (before after : Machine) → items_of given ≡ mark_items (before.cpu.step + suc more) → after.cpu.step ≡ before.cpu.step + suc more → before.cpu.step / 256 ≡ (before.cpu.step + more) / 256
    → before.phase ≡ Need → after.phase ≡ Between → before.left ≡ after.left + more → MovesOn given before after
moves_ran None more before after is counted same was next left =
    let off = unmarked (before.cpu.step + suc more) is in
    let weight = ap (λ p. items_at_most p before.left (words_due before.board)) was in
    let lighter = ap (λ p. items_at_most p after.left (words_due after.board)) next in
    record { going = ap is_over next; onward = omega (arith, counted); block = omega (arith, counted, same, off); less = omega (arith, weight, lighter, left) }
moves_ran (Some item) more before after is counted same was next left =
    let weight = ap (λ p. items_at_most p before.left (words_due before.board)) was in
    let lighter = ap (λ p. items_at_most p after.left (words_due after.board)) next in
    record { few = omega (arith, counted, same); less = omega (arith, weight, lighter, left) }
