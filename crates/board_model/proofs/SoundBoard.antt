-- In a run of the hart beside its board each step gets an input that it may take.
use Rattle.std.proofs.Common.{◌≡◌, ℕ, suc, ◌≤◌, true, false, List, [], ◌∷◌, length, Option, sym, ◌∙◌, subst, refl, arith, inr}
use Rattle.std.specs.List.{AllByRecursion}
use Rattle.memory_map.proofs.RamLaws.{InRam-in_ram}
use Rattle.memory_map.specs.Ram.{InRam, in_ram}
use Rattle.rv_memory.proofs.RamLaws.{length-stored}
use Rattle.run_events.specs.Record.{IsMark}
use Rattle.run_events.specs.declared.access.Access.{Access}
use Rattle.run_events.specs.declared.access.Access.TheVariants.{Quiet, Load, Store, Swap}
use Rattle.run_events.specs.declared.event.Event.{Event}
use Rattle.run_events.specs.declared.event.Event.TheVariants.{Dma, Irq, Trap, Exec}
use Rattle.run_events.specs.declared.supply.DmaWord.{DmaWord}
use Rattle.run_events.specs.declared.supply.Supplied.{Supplied}
use Rattle.run_events.specs.declared.supply.Need.{Need}
use Rattle.run_events.specs.declared.supply.Need.TheVariants as need
use Rattle.any_machine.specs.Machine.{IsInput, touched, after, turn_of}
use Rattle.any_machine.specs.Run.{IsSound, served_by}
use Rattle.hart_model.specs.State.{State}
use Rattle.hart_model.specs.Machine.{hart}
use Rattle.hart_model.proofs.SoundLaws.{cpu_keeps}
use Rattle.machine_model.specs.Script.{Script}
use Rattle.machine_model.specs.Board.{BoardState, reset_board, after_load, IsDiskWord, IsUnderWay, AreMarked, board_lines, words_before, at_step}
use Rattle.machine_model.proofs.BoardLaws.{words_are_few, words_are_held, lines_fit, mark_fits, way_at_step, way_after_load, way_after_store}
use Rattle.board_model.specs.TheBoard.{board, after_access, after_event}

-- RAM keeps the size of the start, and a command that is under way has words in it
pub record Sound (start : State) (step : ℕ) (s : State) (b : BoardState) : Type 0 where
  pub sized : length s.ram ≡ length start.ram
  pub way : IsUnderWay (length start.ram) b.activity

-- words from the disk keep the size of RAM
words_sized : (size : ℕ) (words : List DmaWord) (s : State) → length s.ram ≡ size → AllByRecursion (IsDiskWord size) words → length (touched hart s words).ram ≡ size
unfolding hart
words_sized size [] s is all = is
words_sized size (word ∷ words) s is all =
    words_sized size words _ (length-stored s.ram word.address 4 word.word (inr (inr refl)) (subst (λ n. InRam n word.address 4) (sym is) all.0.within) ∙ is) all.1

-- and stand in it
words_held : (start : State) (words : List DmaWord) → AllByRecursion (IsDiskWord (length start.ram)) words → AllByRecursion (λ (word : DmaWord). hart.holds start word.address ≡ true) words
unfolding hart
words_held start [] all = tt
words_held start (word ∷ words) all =
    (let inside : in_ram (length start.ram) word.address 4 ≡ true = InRam-in_ram (length start.ram) word.address 4 all.0.within in grind (arith, all.0.aligned, inside), words_held start words all.1)

words_marked : (size : ℕ) (words : List DmaWord) → AllByRecursion (IsDiskWord size) words → AllByRecursion (λ (word : DmaWord). IsMark word.mark) words
words_marked size [] all = tt
words_marked size (word ∷ words) all = (all.0.marked, words_marked size words all.1)

-- what a step is given
input_by : (script : Script) (start : State) (step : ℕ) (b : BoardState) (words : List DmaWord) (lines : ℕ) (n : Need) → AreMarked script.entries → length words ≤ 128 → AllByRecursion (IsDiskWord (length start.ram)) words → lines ≤ 3 → IsInput hart start (served_by ((board script).load step b) words lines b n).input
unfolding board
input_by script start step b words lines (need.Load address width) marked few held fit = record {
  few = few;
  held = words_held start words held;
  words_marked = words_marked (length start.ram) words held;
  lines_fit = fit;
  supplied_marked = mark_fits script step b address marked;
}
input_by script start step b words lines need.Nothing marked few held fit = record {
  few = few;
  held = words_held start words held;
  words_marked = words_marked (length start.ram) words held;
  lines_fit = fit;
  supplied_marked = tt;
}

-- a step keeps a command under way
way_access : (script : Script) (step : ℕ) (ram : List ℕ) (b : BoardState) (access : Access) → IsUnderWay (length ram) b.activity → IsUnderWay (length ram) (after_access script step ram b access).activity
way_access script step ram b Quiet way = way
way_access script step ram b (Load address width value device mark) way = way
way_access script step ram b (Store address width value true) way = way_after_store script step ram b address value way
way_access script step ram b (Store address width value false) way = way
way_access script step ram b (Swap address old new) way = way

pub way_event : (script : Script) (step : ℕ) (ram : List ℕ) (b : BoardState) (event : Event) → IsUnderWay (length ram) b.activity → IsUnderWay (length ram) (after_event script step ram b event).activity
way_event script step ram b (Dma n address word mark) way = way
way_event script step ram b (Irq n pc cause next) way = way
way_event script step ram b (Trap n pc word cause value next) way = way
way_event script step ram b (Exec n pc word next result access told) way = way_access script step ram b access way

-- the state after a step that was given something, and the board after its event
stays : (script : Script) (start : State) (step : ℕ) (s next : State) (b : BoardState) (event : Event) → length next.ram ≡ length start.ram → IsUnderWay (length start.ram) b.activity → Sound start (suc step) next ((board script).stored step b event next)
unfolding board
stays script start step s next b event sized way = record {
  sized = sized;
  way = subst (λ n. IsUnderWay n (after_event script step next.ram b event).activity) sized (way_event script step next.ram b event (subst (λ n. IsUnderWay n b.activity) (sym sized) way));
}

stepped : (start s : State) (words : List DmaWord) (lines : ℕ) (supplied : Option Supplied) → length s.ram ≡ length start.ram → AllByRecursion (IsDiskWord (length start.ram)) words → length (hart.step (touched hart s words) lines supplied).1.ram ≡ length start.ram
unfolding hart
stepped start s words lines supplied sized held = (cpu_keeps (touched hart s words) lines supplied).sized ∙ words_sized (length start.ram) words s sized held

kept_by : (script : Script) (start : State) (step : ℕ) (s : State) (b : BoardState) (words : List DmaWord) (lines : ℕ) (n : Need) → length s.ram ≡ length start.ram → AllByRecursion (IsDiskWord (length start.ram)) words → IsUnderWay (length start.ram) b.activity → (let given = served_by ((board script).load step b) words lines b n in Sound start (suc step) (after hart s given.input) ((board script).stored step given.board (turn_of hart s given.input).event (after hart s given.input)))
unfolding board
kept_by script start step s b words lines (need.Load address width) sized held way =
    stays script start step s _ (after_load script step b address) ((turn_of hart s (served_by ((board script).load step b) words lines b (need.Load address width)).input).event) (stepped start s words lines _ sized held) (way_after_load (length start.ram) script step b address way)
kept_by script start step s b words lines need.Nothing sized held way = stays script start step s _ b ((turn_of hart s (served_by ((board script).load step b) words lines b need.Nothing).input).event) (stepped start s words lines _ sized held) way

pub board_is_sound : (script : Script) (start : State) → AreMarked script.entries → IsSound hart (board script) start (Sound start)
unfolding board
board_is_sound script start marked = record {
  input_fits = λ step s b sound.
      input_by script start step (at_step step b) (words_before step b) (board_lines script step (at_step step b)) _ marked
      (words_are_few (length start.ram) step b sound.way) (words_are_held (length start.ram) step b sound.way) (lines_fit script step (at_step step b));
  kept = λ step s b sound.
      kept_by script start step s (at_step step b) (words_before step b) (board_lines script step (at_step step b)) _ sound.sized
      (words_are_held (length start.ram) step b sound.way) (way_at_step (length start.ram) step b sound.way);
}

-- at the start no command is under way
pub sound_at_start : (start : State) (bytes : List ℕ) → Sound start 0 start (reset_board bytes)
sound_at_start start bytes = record { sized = refl; way = tt }
