-- How what is still to come goes from phase to phase.
use Rattle.std.proofs.Common.{◌≡◌, ℕ, suc, List, [], ◌∷◌, ◌++◌, map, Option, None, Some, true, refl, sym, ap, subst, ◌∙◌, arith, cond, eq-eqb}
use Rattle.std.proofs.lemmas.Bool.Decides.{nat_tests}
use Rattle.std.specs.Prelude.{IsSome}
use Rattle.memory_map.specs.Device.{is_device}
use Rattle.run_events.specs.declared.event.Event.{Event}
use Rattle.run_events.specs.declared.item.Item.{Item}
use Rattle.run_events.specs.declared.record.Record.TheVariants.{Lines as LinesRecord, Load as LoadRecord}
use Rattle.run_events.specs.declared.record.EndCause.{EndCause}
use Rattle.run_events.specs.declared.record.EndCause.TheVariants.{Limit}
use Rattle.run_events.specs.declared.supply.DmaWord.{DmaWord}
use Rattle.run_events.specs.declared.supply.Need.TheVariants.{Load}
use Rattle.run_events.specs.declared.supply.Supplied.{Supplied}
use Rattle.any_machine.specs.Log.{plain_item, word_record, lines_records, reach_items, items as all_items}
use Rattle.any_machine.specs.Machine.{power_status}
use Rattle.any_machine.specs.Recorder.{end_item, at_load, at_step, with_load, at_event, after_step}
use Rattle.any_machine.proofs.RunSteps.{to_come-limit, to_come-step}
use Rattle.board_model.specs.Guest.{run, started}
use Rattle.board_model.specs.TheBoard.{board, after_event}
use Rattle.hart_model.specs.Machine.{hart}
use Rattle.hart_model.specs.State.{State}
use Rattle.hart_model.specs.Step.{cpu, needs, touch}
use Rattle.machine_model.specs.Board as model
use Rattle.machine_model.specs.Board.{BoardState}
use Rattle.machine_model.specs.Image.{Image}
use Rattle.machine_model.specs.Script.{Script}
use Rattle.rv_machine.specs.Phase.{Supplies, phase_after}
use Rattle.rv_machine.specs.ToCome.{coming}
use Rattle.rv_machine.specs.declared.phase.Phase.{Phase}
use Rattle.rv_machine.specs.declared.phase.Phase.TheVariants.{Between, Words, Lines, Need, Given, Ending, Over}

-- lines that are held are not told, and others are
lines_same : (step lines : ℕ) → lines_records step lines lines ≡ []
lines_same step lines = ap (λ same. cond same [] (LinesRecord step lines ∷ [])) (eq-eqb lines lines refl)

lines_other : (step lines bits : ℕ) → (bits ≡ lines → ⊥) → lines_records step lines bits ≡ LinesRecord step bits ∷ []
lines_other step lines bits other = grind (arith, nat_tests, other)

module _ (script : Script) where
  -- no step is left
  pub coming-limit : (step lines : ℕ) (s : State) (b : BoardState) (words : List DmaWord) → coming script Between 0 step lines s b words ≡ end_item step Limit ∷ []
  unfolding coming
  coming-limit step lines s b words = to_come-limit hart (board script) step lines s b

  -- the guest ended the run, or the end was given
  pub coming-end : (left step lines : ℕ) (s : State) (b : BoardState) (words : List DmaWord) (cause : EndCause) → coming script (Ending cause) left step lines s b words ≡ end_item step cause ∷ []
  unfolding coming
  coming-end left step lines s b words cause = refl

  pub coming-over : (left step lines : ℕ) (s : State) (b : BoardState) (words : List DmaWord) → coming script Over left step lines s b words ≡ []
  unfolding coming
  coming-over left step lines s b words = refl

  -- a step begins
  pub coming-begin : (left step lines : ℕ) (s : State) (b : BoardState) (words : List DmaWord)
      → coming script Between (suc left) step lines s b words ≡ coming script Words left step lines s (model.at_step step b) (model.words_before step b)
  unfolding coming board
  coming-begin left step lines s b words = to_come-step hart (board script) left step lines s b

  -- a word is written
  pub coming-word : (left step lines : ℕ) (s : State) (b : BoardState) (word : DmaWord) (words : List DmaWord)
      → coming script Words left step lines s b (word ∷ words) ≡ plain_item (word_record step word) ∷ coming script Words left step lines (touch s word).1 b words
  unfolding coming hart
  coming-word left step lines s b word words = refl

  -- all words are written
  pub coming-words : (left step lines : ℕ) (s : State) (b : BoardState) → coming script Words left step lines s b [] ≡ coming script Lines left step lines s b []
  unfolding coming
  coming-words left step lines s b = refl

  -- the lines are as before, or are told
  pub coming-same : (left step lines bits : ℕ) (s : State) (b : BoardState) → bits ≡ model.board_lines script step b → bits ≡ lines
      → coming script Lines left step lines s b [] ≡ coming script Need left step lines s b []
  unfolding coming board
  coming-same left step lines bits s b are same =
      let goes : ℕ → List Item = λ n. at_load hart (board script) left step n s b in
      subst (λ n. map plain_item (lines_records step lines n) ++ goes n ≡ goes lines) (sym same ∙ are) (ap (λ l. map plain_item l ++ goes lines) (lines_same step lines))

  pub coming-told : (left step lines bits : ℕ) (s : State) (b : BoardState) → bits ≡ model.board_lines script step b → (bits ≡ lines → ⊥)
      → coming script Lines left step lines s b [] ≡ plain_item (LinesRecord step bits) ∷ coming script Need left step bits s b []
  unfolding coming board
  coming-told left step lines bits s b are other =
      let goes : ℕ → List Item = λ n. at_load hart (board script) left step n s b in
      subst (λ n. map plain_item (lines_records step lines n) ++ goes n ≡ plain_item (LinesRecord step bits) ∷ goes bits) are (ap (λ l. map plain_item l ++ goes bits) (lines_other step lines bits other))

  -- what the step has to be given is asked of the board
  pub coming-load : (left step lines address width : ℕ) (s : State) (b : BoardState) → needs s lines ≡ Load address width
      → let given = model.given_at script step b address in
      coming script Need left step lines s b [] ≡ plain_item (LoadRecord step given.value given.mark) ∷ coming script (Given given) left step lines s (model.after_load script step b address) []
  unfolding coming board hart
  coming-load left step lines address width s b is = ap (with_load hart (board script) left step lines s b) is

  -- the step is done with what it needs
  pub coming-step : (phase : Phase) (supplied : Option Supplied) (left step lines : ℕ) (s : State) (b : BoardState) → Supplies phase supplied (needs s lines)
      → coming script phase left step lines s b [] ≡ at_step hart (board script) left step lines s b supplied
  unfolding coming hart
  coming-step Need None left step lines s b is = ap (with_load hart (board script) left step lines s b) is
  coming-step (Given given) (Some supplied) left step lines s b is = ap (λ g. at_step hart (board script) left step lines s b (Some g)) is
  coming-step Between supplied left step lines s b is = elim is [ ]
  coming-step Words supplied left step lines s b is = elim is [ ]
  coming-step Lines supplied left step lines s b is = elim is [ ]
  coming-step Need (Some supplied) left step lines s b is = elim is [ ]
  coming-step (Given given) None left step lines s b is = elim is [ ]
  coming-step (Ending cause) supplied left step lines s b is = elim is [ ]
  coming-step Over supplied left step lines s b is = elim is [ ]

  after_is : (left step lines : ℕ) (s : State) (b : BoardState) (o : Option ℕ) → after_step hart (board script) left step lines s b o ≡ coming script (phase_after o) left (suc step) lines s b []
  unfolding coming
  after_is left step lines s b (Some status) = refl
  after_is left step lines s b None = refl

  pub coming-event : (left step lines : ℕ) (s after : State) (b : BoardState) (supplied : Option Supplied) (event : Event) → cpu s lines supplied ≡ (event, after)
      → at_step hart (board script) left step lines s b supplied
      ≡ reach_items step event ++ coming script (phase_after (power_status event)) left (suc step) lines after (after_event script step after.ram b event) []
  unfolding hart board
  coming-event left step lines s after b supplied event is =
      ap (at_event hart (board script) left step lines b) is ∙ ap (λ l. reach_items step event ++ l) (after_is left step lines after (after_event script step after.ram b event) (power_status event))

-- a device's address is a register's
pub register_there : (address : ℕ) → is_device address ≡ true → IsSome (model.register_at address)
unfolding is_device
register_there address is = grind (arith, nat_tests, is)

-- all items of a run, at its start
pub coming-all : (image : Image) (script : Script) (disk : List ℕ) (ram_kib limit : ℕ) → all_items (run image script disk ram_kib limit) ≡ coming script Between limit 0 0 (started image ram_kib) (model.reset_board (model.padded disk)) []
unfolding coming run
coming-all image script disk ram_kib limit = refl
