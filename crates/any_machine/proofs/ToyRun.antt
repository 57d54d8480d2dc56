-- The log, the items and the output of a toy run, computed; and that a replay which uses the lines one step late shows
-- other events.
use Rattle.std.proofs.Common.{◌≡◌, ℕ, zero, suc, List, [], ◌∷◌, reverse, Option, Some, None, refl, ap, arith}
use Rattle.std.specs.Prelude.{slice_get}
use Rattle.memory_map.specs.declared.TheConstants.{RAM_START}
use Rattle.run_events.specs.declared.event.Event.{Event}
use Rattle.run_events.specs.declared.event.Event.TheVariants.{Dma as WordEvent, Irq, Trap, Exec}
use Rattle.run_events.specs.declared.record.EndCause.TheVariants.{Power, Limit}
use Rattle.run_events.specs.declared.record.Record.{Record}
use Rattle.run_events.specs.declared.record.Record.TheVariants.{Load, Lines, Dma, Reach, End}
use Rattle.any_machine.specs.Machine.{Input}
use Rattle.any_machine.specs.Run.{Finished, run_from, events_of}
use Rattle.any_machine.specs.Log.{log, items, bytes_of, output, sent_at}
use Rattle.any_machine.specs.Tape.{tape_of}
use Rattle.any_machine.specs.Replay.{state_at, turns_below, first_stop, outcome, shown, shown_on}
use Rattle.any_machine.proofs.Toy.{toy, toy_board, guest}

abbrev pub run_of : ℕ → Finished
run_of limit = run_from toy toy_board limit 0 guest 0

abbrev pub guest_log : List Record
guest_log = Load 0 65 1 ∷ Dma 1 RAM_START 72 0 ∷ Reach 3 ∷ Lines 3 2 ∷ Reach 5 ∷ Lines 5 0 ∷ End 6 (Power 2) ∷ []

log_is : log (run_of 100) ≡ guest_log
unfolding toy toy_board run_from
log_is = refl

log_to_the_limit : log (run_of 4) ≡ Load 0 65 1 ∷ Dma 1 RAM_START 72 0 ∷ Reach 3 ∷ Lines 3 2 ∷ End 4 Limit ∷ []
unfolding toy toy_board run_from
log_to_the_limit = refl

power_in_the_last_step : log (run_of 6) ≡ guest_log
unfolding toy toy_board run_from
power_in_the_last_step = refl

bytes_are : bytes_of (items (run_of 100)) ≡ sent_at 2 72 ∷ sent_at 4 2 ∷ []
unfolding toy toy_board run_from
bytes_are = refl

output_is : output (events_of (run_of 100).turns) ≡ sent_at 2 72 ∷ sent_at 4 2 ∷ []
unfolding toy toy_board run_from
output_is = refl

own_log_shows_all : shown toy guest guest_log ≡ events_of (run_of 100).turns
unfolding toy toy_board run_from state_at turns_below first_stop outcome
own_log_shows_all = refl

-- a tape whose lines come one step late
late : (ℕ → Input) → ℕ → Input
late tape zero = record (tape zero) { lines = 0 }
late tape (suc k) = record (tape (suc k)) { lines = (tape k).lines }

result_in : Option Event → ℕ
result_in (Some (Exec step pc word next result access told)) = result
result_in (Some (WordEvent step address word mark)) = 0
result_in (Some (Irq step pc cause next)) = 0
result_in (Some (Trap step pc word cause value next)) = 0
result_in None = 0

-- the look at the lines is event 4
late_lines_show_other_events : shown_on toy guest (late (tape_of (reverse guest_log))) 6 ≡ shown toy guest guest_log → ⊥
unfolding toy late result_in state_at turns_below first_stop outcome
late_lines_show_other_events same =
    let results : 0 ≡ 2 = ap (λ events. result_in (slice_get events 4)) same in
    absurd (omega (arith, results))
