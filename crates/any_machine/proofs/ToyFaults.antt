-- The first fault of lists of records for a toy machine, each rule once, with the number of steps that are executed.
use Rattle.std.proofs.Common.{◌≡◌, ℕ, List, [], ◌∷◌, length, Option, Some, None, refl}
use Rattle.memory_map.specs.declared.TheConstants.{RAM_START}
use Rattle.run_events.specs.declared.fault.Diverged.{Diverged}
use Rattle.run_events.specs.declared.fault.Why.TheVariants.{MissingLoad, UnusedLoad, BadDma, StepFalls, EndsElsewhere}
use Rattle.run_events.specs.declared.record.EndCause.TheVariants.{Power, Limit}
use Rattle.run_events.specs.declared.record.Record.{Record}
use Rattle.run_events.specs.declared.record.Record.TheVariants.{Load, Lines, Dma, Reach, End}
use Rattle.any_machine.specs.Replay.{fault_at, state_at, turns_below, first_stop, outcome, first_fault, executed, shown}
use Rattle.any_machine.proofs.Toy.{toy, guest}
use Rattle.any_machine.proofs.ToyRun.{guest_log}

-- the first fault of a list, the number of steps that it executes, and how many events it shows
found : List Record → Option Diverged × (ℕ × ℕ)
found items = (first_fault toy guest items, (executed toy guest items, length (shown toy guest items)))

own_log_fits : found guest_log ≡ (None, (6, 7))
unfolding found toy state_at turns_below first_stop outcome
own_log_fits = refl

nothing_fits : found [] ≡ (None, (0, 0))
unfolding found toy state_at turns_below first_stop outcome
nothing_fits = refl

words_of_the_step_to_come_are_shown : found (Load 0 65 1 ∷ Dma 1 RAM_START 72 0 ∷ []) ≡ (None, (1, 2))
unfolding found toy state_at turns_below first_stop outcome
words_of_the_step_to_come_are_shown = refl

number_falls : found (Load 0 65 1 ∷ Reach 2 ∷ Lines 1 0 ∷ []) ≡ (Some (fault_at 1 StepFalls), (2, 2))
unfolding found toy state_at turns_below first_stop outcome
number_falls = refl

mark_twice : found (Load 0 65 1 ∷ Reach 1 ∷ Reach 1 ∷ []) ≡ (Some (fault_at 1 StepFalls), (1, 1))
unfolding found toy state_at turns_below first_stop outcome
mark_twice = refl

after_the_end : found (Load 0 65 1 ∷ End 1 Limit ∷ Reach 2 ∷ []) ≡ (Some (fault_at 2 StepFalls), (1, 1))
unfolding found toy state_at turns_below first_stop outcome
after_the_end = refl

value_is_missing : found (Reach 1 ∷ []) ≡ (Some (fault_at 0 MissingLoad), (0, 0))
unfolding found toy state_at turns_below first_stop outcome
value_is_missing = refl

value_is_missing_later : found (Dma 0 RAM_START 1 0 ∷ Reach 2 ∷ []) ≡ (Some (fault_at 0 MissingLoad), (0, 1))
unfolding found toy state_at turns_below first_stop outcome
value_is_missing_later = refl

value_is_unused : found (Load 0 65 1 ∷ Load 1 66 0 ∷ Reach 2 ∷ []) ≡ (Some (fault_at 1 UnusedLoad), (1, 1))
unfolding found toy state_at turns_below first_stop outcome
value_is_unused = refl

mark_past_the_store : found (Load 0 65 1 ∷ Lines 3 2 ∷ Reach 7 ∷ []) ≡ (Some (fault_at 5 EndsElsewhere), (6, 6))
unfolding found toy state_at turns_below first_stop outcome
mark_past_the_store = refl

mark_after_the_store : found (Load 0 65 1 ∷ Lines 3 2 ∷ Reach 6 ∷ End 6 (Power 2) ∷ []) ≡ (None, (6, 6))
unfolding found toy state_at turns_below first_stop outcome
mark_after_the_store = refl

word_after_that_mark : found (Load 0 65 1 ∷ Lines 3 2 ∷ Reach 6 ∷ Dma 6 RAM_START 1 0 ∷ []) ≡ (Some (fault_at 5 EndsElsewhere), (6, 6))
unfolding found toy state_at turns_below first_stop outcome
word_after_that_mark = refl

other_status : found (Load 0 65 1 ∷ Lines 3 2 ∷ End 6 (Power 1) ∷ []) ≡ (Some (fault_at 5 EndsElsewhere), (6, 6))
unfolding found toy state_at turns_below first_stop outcome
other_status = refl

limit_after_the_store : found (Load 0 65 1 ∷ Lines 3 2 ∷ End 6 Limit ∷ []) ≡ (Some (fault_at 5 EndsElsewhere), (6, 6))
unfolding found toy state_at turns_below first_stop outcome
limit_after_the_store = refl

value_is_kept_at_the_end : found (Load 0 65 1 ∷ Load 1 66 0 ∷ End 1 Limit ∷ []) ≡ (Some (fault_at 1 UnusedLoad), (1, 1))
unfolding found toy state_at turns_below first_stop outcome
value_is_kept_at_the_end = refl

power_before_the_store : found (Load 0 65 1 ∷ End 4 (Power 2) ∷ []) ≡ (Some (fault_at 4 EndsElsewhere), (4, 4))
unfolding found toy state_at turns_below first_stop outcome
power_before_the_store = refl

limit_before_the_store : found (Load 0 65 1 ∷ End 4 Limit ∷ []) ≡ (None, (4, 4))
unfolding found toy state_at turns_below first_stop outcome
limit_before_the_store = refl

word_is_not_in_RAM : found (Load 0 65 1 ∷ Dma 2 RAM_START 1 0 ∷ Dma 2 0 1 0 ∷ []) ≡ (Some (fault_at 2 BadDma), (2, 3))
unfolding found toy state_at turns_below first_stop outcome
word_is_not_in_RAM = refl

first_fault_stands : found (Reach 1 ∷ Load 0 65 1 ∷ Reach 2 ∷ []) ≡ (Some (fault_at 0 MissingLoad), (0, 0))
unfolding found toy state_at turns_below first_stop outcome
first_fault_stands = refl
