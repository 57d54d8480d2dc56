-- The toy machine counts its steps, its board gives each step what it may take, and so its run is one that the laws are
-- about.
use Rattle.std.proofs.Common.{◌≡◌, ℕ, ◌≤◌, Bool, true, false, cond, List, [], ◌∷◌, length, refl, arith}
use Rattle.std.specs.Prelude.{◌==◌}
use Rattle.std.specs.List.{AllByRecursion}
use Rattle.memory_map.specs.declared.TheConstants.{RAM_START}
use Rattle.run_events.specs.declared.supply.DmaWord.{DmaWord}
use Rattle.run_events.specs.declared.supply.Need.{Need}
use Rattle.run_events.specs.declared.supply.Need.TheVariants.{Load, Nothing}
use Rattle.run_events.specs.Record.{IsMark}
use Rattle.any_machine.specs.Machine.{CountsSteps, IsInput, touched}
use Rattle.any_machine.specs.Run.{served_by, IsSound, Runs}
use Rattle.any_machine.proofs.BoardRun.{run_from-Runs}
use Rattle.any_machine.proofs.Toy.{toy, toy_board, guest}
use Rattle.any_machine.proofs.ToyRun.{run_of}

counts : CountsSteps toy (λ s. s.step)
unfolding toy
counts = record { stepped = λ s lines supplied. refl; touched_not = λ s word. refl; step_told = λ s lines supplied. refl; word_told = λ s word. refl }

module _ (n b : ℕ) where
  due : Bool → List DmaWord
  due now = cond now (record { address = RAM_START; word = 72; mark = 0 } ∷ []) []

  few : (now : Bool) → length (due now) ≤ 128
  unfolding due
  few true = omega arith
  few false = omega arith

  held : (now : Bool) → AllByRecursion (λ word. toy.holds guest word.address ≡ true) (due now)
  unfolding due toy
  held true = (refl, tt)
  held false = tt

  marked : (now : Bool) → AllByRecursion (λ word. IsMark word.mark) (due now)
  unfolding due
  marked true = (omega arith, tt)
  marked false = tt

  lines_fit : (third fourth : Bool) → cond third 2 (cond fourth 2 0) ≤ 3
  lines_fit true fourth = omega arith
  lines_fit false true = omega arith
  lines_fit false false = omega arith

  input_fits : (third fourth now : Bool) (need : Need) → IsInput toy guest (served_by (toy_board.load n b) (due now) (cond third 2 (cond fourth 2 0)) b need).input
  unfolding toy_board
  input_fits third fourth now (Load address width) = record { few = few now; held = held now; words_marked = marked now; lines_fit = lines_fit third fourth; supplied_marked = omega arith }
  input_fits third fourth now Nothing = record { few = few now; held = held now; words_marked = marked now; lines_fit = lines_fit third fourth; supplied_marked = tt }

sound : IsSound toy toy_board guest (λ n s b. Unit {0})
unfolding toy_board due
sound = record {
  input_fits = λ n s b is. input_fits n b (n == 3) (n == 4) (n == 1) (toy.needs (touched toy s (due n b (n == 1))) (cond (n == 3) 2 (cond (n == 4) 2 0)));
  kept = λ n s b is. tt;
}

run_is : (limit : ℕ) → Runs toy guest (run_of limit)
run_is limit = run_from-Runs toy toy_board guest (λ n s b. Unit {0}) sound limit 0 tt
