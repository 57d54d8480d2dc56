-- A hart and a board that go from phase to phase: what was to come is to come, or the next item is given.
use Rattle.std.proofs.Common.{◌≡◌, ℕ, suc, ◌+◌, List, [], ◌∷◌, length, drop, slice_get, None, Some, true, refl, sym, ap, subst, ◌∙◌, arith}
use Rattle.std.specs.List.{AllByRecursion}
use Rattle.run_events.specs.declared.item.Item.{Item}
use Rattle.memory_map.proofs.RamLaws.{InRam-in_ram}
use Rattle.memory_map.specs.Ram.{in_ram}
use Rattle.run_events.specs.declared.record.EndCause.{EndCause}
use Rattle.run_events.specs.declared.record.EndCause.TheVariants.{Limit}
use Rattle.run_events.specs.declared.record.Record.TheVariants.{Lines as LinesRecord, Load as LoadRecord}
use Rattle.run_events.specs.declared.supply.DmaWord.{DmaWord}
use Rattle.run_events.specs.declared.supply.Need.TheVariants.{Load}
use Rattle.run_events.specs.declared.supply.Supplied.{Supplied}
use Rattle.any_machine.specs.Log.{plain_item, word_record, items as all_items}
use Rattle.any_machine.specs.Recorder.{end_item}
use Rattle.board_model.specs.Guest.{run, started}
use Rattle.hart_model.specs.Machine.{holds_word}
use Rattle.hart_model.specs.State.{State}
use Rattle.hart_model.specs.Step.{needs, touch}
use Rattle.machine_model.specs.Board as model
use Rattle.machine_model.specs.Board.{BoardState, IsDiskWord, IsUnderWay, padded, reset_board}
use Rattle.machine_model.specs.Image.{Image}
use Rattle.machine_model.specs.Script.{Script}
use Rattle.machine_model.proofs.BoardLaws.{words_are_held, way_at_step, way_after_load}
use Rattle.rv_devices.specs.Stands.{Stands}
use Rattle.rv_devices.specs.declared.board.Board.{Board}
use Rattle.rv_machine.specs.Phase.{inside, sends}
use Rattle.rv_machine.specs.ToCome.{Awaits, MayBeDue, coming}
use Rattle.rv_machine.specs.declared.phase.Phase.{Phase}
use Rattle.rv_machine.specs.declared.phase.Phase.TheVariants.{Between, Words, Lines, Need, Given, Ending, Over}
use Rattle.rv_machine.proofs.ComingLaws.{coming-all, coming-limit, coming-end, coming-over, coming-begin, coming-word, coming-words, coming-same, coming-told, coming-load}

-- the next item of these is this one, and then a hart and a board await the rest
pub record Follows (item : Item) (items : List Item) (After : List Item → Type 0) : Type 0 where
  pub rest : List Item
  pub are : items ≡ item ∷ rest
  pub after : After rest

-- no word is due outside a step
none_outside : (phase : Phase) (words : List DmaWord) → inside phase ≡ 0 → sends phase ≡ 0 → MayBeDue phase words → words ≡ []
none_outside Between words outside quiet due = due
none_outside Words words outside quiet due = absurd (omega (arith, outside))
none_outside Lines words outside quiet due = due
none_outside Need words outside quiet due = due
none_outside (Given supplied) words outside quiet due = due
none_outside (Ending cause) words outside quiet due = due
none_outside Over words outside quiet due = due

-- a word of the disk is one of RAM
word_held : (s : State) (word : DmaWord) → IsDiskWord (length s.ram) word → holds_word s word.address ≡ true
word_held s word is = let inside : in_ram (length s.ram) word.address 4 ≡ true = InRam-in_ram (length s.ram) word.address 4 is.within in grind (arith, is.aligned, inside)

-- all items of a run are still to come at its start
pub before_all : (image : Image) (script : Script) (disk : List ℕ) (ram_kib limit : ℕ) (s : State) (b : Board) → s ≡ started image ram_kib → Stands script 0 [] (reset_board (padded disk)) b
    → Awaits Between limit 0 s b (all_items (run image script disk ram_kib limit))
before_all image script disk ram_kib limit s b start stands =
    let first : 0 ≡ s.step = ap (λ (t : State). t.step) (sym start) in
    record {
      script = script;
      state = reset_board (padded disk);
      words = [];
      stands = subst (λ n. Stands script n [] (reset_board (padded disk)) b) (omega (arith, first)) stands;
      way = tt;
      held = tt;
      due = refl;
      told = tt;
      are = coming-all image script disk ram_kib limit ∙ ap (λ (t : State). coming script Between limit t.step 0 t (reset_board (padded disk)) []) (sym start);
    }

-- nothing is left to come after the end
after_end : (phase : Phase) (left left' lines lines' : ℕ) (s : State) (b : Board) (items : List Item) → inside phase ≡ 0 → sends phase ≡ 0 → Awaits phase left lines s b items → Awaits Over left' lines' s b []
after_end phase left left' lines lines' s b items outside quiet is =
    let none : is.words ≡ [] = none_outside phase is.words outside quiet is.due in
    record {
      script = is.script;
      state = is.state;
      words = [];
      stands = subst (λ words. Stands is.script (s.step + 0) words is.state b) none (subst (λ n. Stands is.script (s.step + n) is.words is.state b) outside is.stands);
      way = is.way;
      held = tt;
      due = refl;
      told = tt;
      are = sym (coming-over is.script left' s.step lines' s is.state []);
    }

module _ (left lines : ℕ) (s : State) (b after : Board) (items : List Item) where
  -- a step begins
  pub begun : ((script : Script) (state : BoardState) → Stands script s.step [] state b → Stands script (s.step + 1) (model.words_before s.step state) (model.at_step s.step state) after)
      → Awaits Between (suc left) lines s b items → Awaits Words left lines s after items
  begun goes is = record {
    script = is.script;
    state = model.at_step s.step is.state;
    words = model.words_before s.step is.state;
    stands = goes is.script is.state (subst (λ words. Stands is.script s.step words is.state b) is.due (subst (λ n. Stands is.script n is.words is.state b) (omega arith) is.stands));
    way = way_at_step (length s.ram) s.step is.state is.way;
    held = words_are_held (length s.ram) s.step is.state is.way;
    due = tt;
    told = tt;
    are = is.are ∙ coming-begin is.script left s.step lines s is.state is.words;
  }

  -- no word is left
  pub written : ((script : Script) (n : ℕ) (words : List DmaWord) (state : BoardState) → Stands script n words state b → None ≡ slice_get words 0)
      → ((script : Script) (n : ℕ) (words : List DmaWord) (state : BoardState) → Stands script n words state b → Stands script n (drop 1 words) state after)
      → Awaits Words left lines s b items → Awaits Lines left lines s after items
  written none goes is = by is.words refl
    where
      by : (words : List DmaWord) → is.words ≡ words → Awaits Lines left lines s after items
      by [] same = record {
        script = is.script;
        state = is.state;
        words = [];
        stands = subst (λ words. Stands is.script (s.step + 1) words is.state after) (ap (λ words. drop 1 words) same) (goes is.script (s.step + 1) is.words is.state is.stands);
        way = is.way;
        held = tt;
        due = refl;
        told = tt;
        are = is.are ∙ ap (coming is.script Words left s.step lines s is.state) same ∙ coming-words is.script left s.step lines s is.state;
      }
      by (word ∷ words) same = let no : None ≡ Some word = none is.script (s.step + 1) is.words is.state is.stands ∙ ap (λ l. slice_get l 0) same in absurd (cc)

  -- the lines are those that are held
  pub unchanged : (bits : ℕ) → ((script : Script) (n : ℕ) (words : List DmaWord) (state : BoardState) → Stands script (n + 1) words state b → bits ≡ model.board_lines script n state) → bits ≡ lines
      → Awaits Lines left lines s b items → Awaits Need left lines s b items
  unchanged bits are same is = record {
    script = is.script;
    state = is.state;
    words = is.words;
    stands = is.stands;
    way = is.way;
    held = is.held;
    due = is.due;
    told = sym (are is.script s.step is.words is.state is.stands) ∙ same;
    are = is.are ∙ ap (coming is.script Lines left s.step lines s is.state) is.due ∙ coming-same is.script left s.step lines bits s is.state (are is.script s.step is.words is.state is.stands) same ∙ ap (coming is.script Need left s.step lines s is.state) (sym is.due);
  }

  -- or they are told
  pub told : (bits : ℕ) → ((script : Script) (n : ℕ) (words : List DmaWord) (state : BoardState) → Stands script (n + 1) words state b → bits ≡ model.board_lines script n state) → (bits ≡ lines → ⊥)
      → Awaits Lines left lines s b items → Follows (plain_item (LinesRecord s.step bits)) items (λ rest. Awaits Need left bits s b rest)
  told bits are other is = record {
    rest = coming is.script Need left s.step bits s is.state [];
    are = is.are ∙ ap (coming is.script Lines left s.step lines s is.state) is.due ∙ coming-told is.script left s.step lines bits s is.state (are is.script s.step is.words is.state is.stands) other;
    after = record {
      script = is.script;
      state = is.state;
      words = [];
      stands = subst (λ words. Stands is.script (s.step + 1) words is.state b) is.due is.stands;
      way = is.way;
      held = tt;
      due = refl;
      told = sym (are is.script s.step is.words is.state is.stands);
      are = refl;
    };
  }

  -- a device register gives the step what it needs
  pub loaded : (given : Supplied) (address width : ℕ) → needs s lines ≡ Load address width
      → ((script : Script) (n : ℕ) (words : List DmaWord) (state : BoardState) → Stands script (n + 1) words state b → given ≡ model.given_at script n state address)
      → ((script : Script) (n : ℕ) (words : List DmaWord) (state : BoardState) → Stands script (n + 1) words state b → Stands script (n + 1) words (model.after_load script n state address) after)
      → Awaits Need left lines s b items → Follows (plain_item (LoadRecord s.step given.value given.mark)) items (λ rest. Awaits (Given given) left lines s after rest)
  loaded given address width needed value goes is =
      let same = value is.script s.step is.words is.state is.stands in
      let state = model.after_load is.script s.step is.state address in
      record {
        rest = coming is.script (Given given) left s.step lines s state [];
        are =
            is.are ∙ ap (coming is.script Need left s.step lines s is.state) is.due
            ∙ subst (λ (g : Supplied). coming is.script Need left s.step lines s is.state [] ≡ plain_item (LoadRecord s.step g.value g.mark) ∷ coming is.script (Given g) left s.step lines s state []) (sym same)
            (coming-load is.script left s.step lines address width s is.state needed);
        after = record {
          script = is.script;
          state = state;
          words = [];
          stands = subst (λ words. Stands is.script (s.step + 1) words state after) is.due (goes is.script s.step is.words is.state is.stands);
          way = way_after_load (length s.ram) is.script s.step is.state address is.way;
          held = tt;
          due = refl;
          told = tt;
          are = refl;
        };
      }

  -- no step is left, or the guest ended the run, or the end was given
  pub limited : left ≡ 0 → (left' lines' : ℕ) → Awaits Between left lines s b items → Follows (end_item s.step Limit) items (λ rest. Awaits Over left' lines' s b rest)
  limited spent left' lines' is = record {
    rest = [];
    are = is.are ∙ ap (λ n. coming is.script Between n s.step lines s is.state is.words) spent ∙ coming-limit is.script s.step lines s is.state is.words;
    after = after_end Between left left' lines lines' s b items refl refl is;
  }

  pub ended : (cause : EndCause) (left' lines' : ℕ) → Awaits (Ending cause) left lines s b items → Follows (end_item s.step cause) items (λ rest. Awaits Over left' lines' s b rest)
  ended cause left' lines' is = record {
    rest = [];
    are = is.are ∙ coming-end is.script left s.step lines s is.state is.words cause;
    after = after_end (Ending cause) left left' lines lines' s b items refl refl is;
  }

  pub over : Awaits Over left lines s b items → (items ≡ []) × Awaits Over left lines s b []
  over is = (is.are ∙ coming-over is.script left s.step lines s is.state is.words, after_end Over left left lines lines s b items refl refl is)

  -- the next word is written
  pub word_out : (word : DmaWord) → ((script : Script) (n : ℕ) (words : List DmaWord) (state : BoardState) → Stands script n words state b → Some word ≡ slice_get words 0)
      → ((script : Script) (n : ℕ) (words : List DmaWord) (state : BoardState) → Stands script n words state b → Stands script n (drop 1 words) state after)
      → (next : State) → (holds_word s word.address ≡ true → (touch s word).1 ≡ next) → next.step ≡ s.step → length next.ram ≡ length s.ram
      → Awaits Words left lines s b items → Follows (plain_item (word_record s.step word)) items (λ rest. Awaits Words left lines next after rest)
  word_out word first goes next writes same sized is = by is.words refl
    where
      by : (words : List DmaWord) → is.words ≡ words → Follows (plain_item (word_record s.step word)) items (λ rest. Awaits Words left lines next after rest)
      by [] equal = let no : Some word ≡ None = first is.script (s.step + 1) is.words is.state is.stands ∙ ap (λ l. slice_get l 0) equal in absurd (cc)
      by (head ∷ words) equal =
          let now : Some word ≡ Some head = first is.script (s.step + 1) is.words is.state is.stands ∙ ap (λ l. slice_get l 0) equal in
          let it : word ≡ head = cc in
          let all : is.words ≡ word ∷ words = equal ∙ ap (λ w. w ∷ words) (sym it) in
          let held : AllByRecursion (IsDiskWord (length s.ram)) (word ∷ words) = subst (AllByRecursion (IsDiskWord (length s.ram))) all is.held in
          let to : (touch s word).1 ≡ next = writes (word_held s word held.0) in
          record {
            rest = coming is.script Words left next.step lines next is.state words;
            are =
                is.are ∙ ap (coming is.script Words left s.step lines s is.state) all ∙ coming-word is.script left s.step lines s is.state word words
                ∙ ap (λ (t : State). plain_item (word_record s.step word) ∷ coming is.script Words left s.step lines t is.state words) to
                ∙ ap (λ (n : ℕ). plain_item (word_record s.step word) ∷ coming is.script Words left n lines next is.state words) (sym same);
            after = record {
              script = is.script;
              state = is.state;
              words = words;
              stands = subst (λ n. Stands is.script (n + 1) words is.state after) (sym same) (subst (λ words. Stands is.script (s.step + 1) words is.state after) (ap (λ words. drop 1 words) all) (goes is.script (s.step + 1) is.words is.state is.stands));
              way = subst (λ n. IsUnderWay n is.state.activity) (sym sized) is.way;
              held = subst (λ n. AllByRecursion (IsDiskWord n) words) (sym sized) held.1;
              due = tt;
              told = tt;
              are = refl;
            };
          }
