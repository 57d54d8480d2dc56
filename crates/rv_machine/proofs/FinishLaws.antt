-- A step that is done: what its event makes, and what is to come after it.
use Rattle.std.proofs.Common.{◌≡◌, ℕ, suc, ◌+◌, ◌*◌, ◌/◌, ◌%◌, ◌<◌, ◌≤◌, Bool, true, false, List, [], ◌∷◌, ◌++◌, length, Option, None, Some, refl, sym, ap, subst, ◌∙◌, arith}
use Rattle.std.proofs.lemmas.Bool.Decides.{nat_tests}
use Rattle.std.specs.Prelude.{◌||◌, ◌==◌, is_some, if◌then◌else◌}
use Rattle.run_events.specs.declared.event.Event.{Event}
use Rattle.run_events.specs.declared.item.Item.{Item}
use Rattle.run_events.specs.declared.record.Record.TheVariants.{Reach}
use Rattle.run_events.specs.declared.supply.DmaWord.{DmaWord}
use Rattle.run_events.specs.declared.supply.Supplied.{Supplied}
use Rattle.any_machine.specs.Log.{reach_items}
use Rattle.any_machine.specs.Machine.{power_status, serial_byte}
use Rattle.board_model.specs.TheBoard.{after_event}
use Rattle.board_model.proofs.SoundBoard.{way_event}
use Rattle.hart_model.proofs.CountLaws.{cpu_counts}
use Rattle.hart_model.specs.State.{State}
use Rattle.hart_model.specs.Step.{cpu, needs}
use Rattle.machine_model.specs.Board.{BoardState, IsUnderWay, board_lines}
use Rattle.machine_model.specs.Script.{Script}
use Rattle.rv_devices.specs.Stands.{Stands, words_due}
use Rattle.rv_devices.specs.declared.board.Board.{Board}
use Rattle.rv_machine.specs.Phase.{Supplies, awaits, inside, is_over, items_at_most, items_of, phase_after, sends}
use Rattle.rv_machine.specs.ToCome.{Awaits, GivesNext, HasTold, MayBeDue, MovesOn, ToCome, coming, to_do}
use Rattle.rv_machine.specs.declared.machine.Machine.{Machine}
use Rattle.rv_machine.specs.declared.phase.Phase.{Phase}
use Rattle.rv_machine.specs.declared.phase.Phase.TheVariants.{Between, Words, Lines, Need, Given, Ending, Over}
use Rattle.rv_machine.proofs.ComingLaws.{coming-step, coming-event}

-- the phase after a step is outside each step
pub record IsOutside (phase : Phase) : Type 0 where
  pub outside : inside phase ≡ 0
  pub quiet : sends phase ≡ 0
  pub ready : (loads : Bool) → awaits phase loads ≡ true
  pub going : is_over phase ≡ false
  pub few : (left due : ℕ) → items_at_most phase left due ≤ 133 * left + 1

pub after_outside : (o : Option ℕ) → IsOutside (phase_after o)
after_outside None = record { outside = refl; quiet = refl; ready = λ loads. refl; going = refl; few = λ left due. omega arith }
after_outside (Some status) = record { outside = refl; quiet = refl; ready = λ loads. refl; going = refl; few = λ left due. omega arith }

-- and its items were counted
items_inside : (phase : Phase) (left due : ℕ) → inside phase ≡ 1 → sends phase ≡ 0 → 133 * left + 2 ≤ items_at_most phase left due
items_inside Between left due within quiet = absurd (omega (arith, within))
items_inside Words left due within quiet = absurd (omega (arith, quiet))
items_inside Lines left due within quiet = omega arith
items_inside Need left due within quiet = omega arith
items_inside (Given supplied) left due within quiet = omega arith
items_inside (Ending cause) left due within quiet = absurd (omega (arith, within))
items_inside Over left due within quiet = absurd (omega (arith, within))

-- a step that makes no item has a number that is not before a multiple of 256
not_marked : (sent marked : Bool) (item : Item) → (if sent || marked then item ∷ [] else []) ≡ [] → marked ≡ false
not_marked true marked item is = absurd (cc)
not_marked false true item is = absurd (cc)
not_marked false false item is = refl

unmarked_step : (n : ℕ) (event : Event) → [] ≡ reach_items n event → (n + 1) / 256 ≡ n / 256
unmarked_step n event is =
    let not : (suc n % 256 == 0) ≡ false = not_marked (is_some (serial_byte event)) (suc n % 256 == 0) (record { item = Reach (suc n); byte = serial_byte event }) (sym is) in
    let above : 0 < (n + 1) % 256 = grind (arith, nat_tests, not) in
    omega (arith, above)

module _ (before after : Machine) (event : Event) where
  moves_given : (given : Option Item) → items_of given ≡ reach_items before.cpu.step event → after.cpu.step ≡ before.cpu.step + 1 → is_over after.phase ≡ false → to_do after < to_do before → MovesOn given before after
  moves_given None is counted going less = record {
    going = going;
    onward = omega (arith, counted);
    block = ap (λ n. n / 256) counted ∙ unmarked_step before.cpu.step event is;
    less = omega (arith, less);
  }
  moves_given (Some item) is counted going less = record { few = omega (arith, counted); less = less }

  -- what the end of a step moves
  pub moves_finished : (given : Option Item) → inside before.phase ≡ 1 → sends before.phase ≡ 0 → items_of given ≡ reach_items before.cpu.step event → after.cpu.step ≡ before.cpu.step + 1
      → after.phase ≡ phase_after (power_status event) → after.left ≡ before.left → MovesOn given before after
  moves_finished given within quiet is counted next left =
      let out : IsOutside after.phase = subst IsOutside (sym next) (after_outside (power_status event)) in
      let few = out.few after.left (words_due after.board) in
      let most = items_inside before.phase before.left (words_due before.board) within quiet in
      moves_given given is counted out.going (omega (arith, few, most, left))

-- what its items are, and what is to come after them
pub record Behind (items made : List Item) (After : List Item → Type 0) : Type 0 where
  pub rest : List Item
  pub are : items ≡ made ++ rest
  pub after : After rest

pub gives_behind : (given : Option Item) (items made : List Item) (m : Machine) → items_of given ≡ made → Behind items made (ToCome m) → GivesNext given items m
gives_behind None items made m same is = subst (ToCome m) (sym (is.are ∙ ap (λ l. l ++ is.rest) (sym same))) is.after
gives_behind (Some item) items made m same is = record { rest = is.rest; first = is.are ∙ ap (λ l. l ++ is.rest) (sym same); to_come = is.after }

-- no word is due in a step that is done, and none after it
no_words : (phase : Phase) (supplied : Option Supplied) (s : State) (lines : ℕ) (words : List DmaWord) → Supplies phase supplied (needs s lines) → MayBeDue phase words → words ≡ []
no_words Need None s lines words is due = due
no_words (Given value) (Some supplied) s lines words is due = due
no_words Between supplied s lines words is due = elim is [ ]
no_words Words supplied s lines words is due = elim is [ ]
no_words Lines supplied s lines words is due = elim is [ ]
no_words Need (Some supplied) s lines words is due = elim is [ ]
no_words (Given value) None s lines words is due = elim is [ ]
no_words (Ending cause) supplied s lines words is due = elim is [ ]
no_words Over supplied s lines words is due = elim is [ ]

none_due : (o : Option ℕ) → MayBeDue (phase_after o) []
none_due None = refl
none_due (Some status) = refl

pub none_told : (o : Option ℕ) (lines shown : ℕ) → HasTold (phase_after o) lines shown
none_told None lines shown = tt
none_told (Some status) lines shown = tt

-- it counts one
pub counted_by : (s after : State) (lines : ℕ) (supplied : Option Supplied) (event : Event) → cpu s lines supplied ≡ (event, after) → after.step ≡ s.step + 1
counted_by s after lines supplied event does =
    let one : after.step ≡ suc s.step = subst (λ (r : Event × State). r.1.step ≡ suc s.step) does (cpu_counts s lines supplied).counted in
    omega (arith, one)

-- the step is done
pub finished : (phase : Phase) (supplied : Option Supplied) (left lines : ℕ) (s after : State) (b next : Board) (items : List Item) (event : Event)
    → inside phase ≡ 1 → Supplies phase supplied (needs s lines) → cpu s lines supplied ≡ (event, after) → length after.ram ≡ length s.ram
    → ((script : Script) (step : ℕ) (words : List DmaWord) (state : BoardState) → Stands script (step + 1) words state b → Stands script (step + 1) words (after_event script step after.ram state event) next)
    → Awaits phase left lines s b items → Behind items (reach_items s.step event) (λ rest. Awaits (phase_after (power_status event)) left lines after next rest)
finished phase supplied left lines s after b next items event within given does sized goes is =
    let none : is.words ≡ [] = no_words phase supplied s lines is.words given is.due in
    let counted : after.step ≡ suc s.step = omega (arith, counted_by s after lines supplied event does) in
    let o = power_status event in
    let out : IsOutside (phase_after o) = after_outside o in
    let state = after_event is.script s.step after.ram is.state event in
    let begun : Stands is.script (s.step + 1) [] is.state b = subst (λ words. Stands is.script (s.step + 1) words is.state b) none (subst (λ n. Stands is.script (s.step + n) is.words is.state b) within is.stands) in
    record {
      rest = coming is.script (phase_after o) left (suc s.step) lines after state [];
      are =
          is.are ∙ ap (coming is.script phase left s.step lines s is.state) none ∙ coming-step is.script phase supplied left s.step lines s is.state given
          ∙ coming-event is.script left s.step lines s after is.state supplied event does;
      after = record {
        script = is.script;
        state = state;
        words = [];
        stands = subst (λ n. Stands is.script n [] state next) (omega (arith, counted, out.outside)) (goes is.script s.step [] is.state begun);
        way = way_event is.script s.step after.ram is.state event (subst (λ n. IsUnderWay n is.state.activity) (sym sized) is.way);
        held = tt;
        due = none_due o;
        told = none_told o lines (board_lines is.script after.step state);
        are = ap (λ n. coming is.script (phase_after o) left n lines after state []) (sym counted);
      };
    }
