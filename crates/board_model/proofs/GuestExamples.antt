-- Small guests, whose logs and output the definitions give.
use Rattle.std.proofs.Common.{◌≡◌, ℕ, List, [], ◌∷◌, ◌++◌, Some, refl}
use Rattle.std.specs.Prelude.{slice_get}
use Rattle.std.specs.Int.{w32, to_le_bytes}
use Rattle.memory_map.specs.Device.{is_device}
use Rattle.run_events.specs.declared.event.Event.TheVariants.{Irq}
use Rattle.run_events.specs.declared.record.EndCause.TheVariants.{Power, Limit}
use Rattle.run_events.specs.declared.record.Record.{Record}
use Rattle.run_events.specs.declared.record.Record.TheVariants.{Load, Lines, Reach, End}
use Rattle.rv_csr.specs.Table
use Rattle.rv_decode.specs.Listing
use Rattle.any_machine.specs.Run.{Finished, run_from, events_of}
use Rattle.any_machine.specs.Log.{log, output, SentByte, sent_at}
use Rattle.hart_model.specs.Machine.{hart}
use Rattle.hart_model.specs.Step.{cpu, outcome, step_by}
use Rattle.machine_model.specs.Script.{Script, What, Serial, Tick, no_script}
use Rattle.machine_model.specs.Image.{flat_image, ram_at_start}
use Rattle.board_model.specs.Guest.{run}
use Rattle.board_model.specs.TheBoard.{board}

-- the bytes of words
abbrev bytes : List ℕ → List ℕ
bytes [] = []
bytes (word ∷ words) = to_le_bytes w32 word ++ bytes words

-- the run of a guest of these words in a RAM of 1 KiB, in at most so many steps
abbrev run_of : List ℕ → Script → List ℕ → (limit : ℕ) → Finished
run_of words script disk limit = run (flat_image (bytes words)) script disk 1 limit

-- a run has this log and this output
record Gives (finished : Finished) (records : List Record) (sent : List SentByte) : Type 0 where
  log_is : log finished ≡ records
  output_is : output (events_of finished.turns) ≡ sent

-- a script in which one thing arrives
abbrev one_entry : ℕ → What → Script
one_entry at what = record no_script { entries = record { at = at; what = what } ∷ [] }

-- A GUEST THAT SENDS ONE LETTER

-- lui a0, 0x10000; li a1, 'H'; sb a1, 0(a0); lui a2, 0x10100; sb zero, 0(a2)
abbrev letter : List ℕ
letter = 0x10000537 ∷ 0x04800593 ∷ 0x00b50023 ∷ 0x10100637 ∷ 0x00062023 ∷ []

letter_is : Gives (run_of letter no_script [] 100) (Reach 3 ∷ End 5 (Power 0) ∷ []) (sent_at 2 0x48 ∷ [])
unfolding run board run_from hart cpu outcome step_by ram_at_start Listing.instruction Listing.rows Table.read Table.written Table.rows is_device
letter_is = record { log_is = refl; output_is = refl }

-- the end by power comes before the limit, and the limit before the end by power
letter_in_five_steps : Gives (run_of letter no_script [] 5) (Reach 3 ∷ End 5 (Power 0) ∷ []) (sent_at 2 0x48 ∷ [])
unfolding run board run_from hart cpu outcome step_by ram_at_start Listing.instruction Listing.rows Table.read Table.written Table.rows is_device
letter_in_five_steps = record { log_is = refl; output_is = refl }

letter_in_four_steps : Gives (run_of letter no_script [] 4) (Reach 3 ∷ End 4 Limit ∷ []) (sent_at 2 0x48 ∷ [])
unfolding run board run_from hart cpu outcome step_by ram_at_start Listing.instruction Listing.rows Table.read Table.written Table.rows is_device
letter_in_four_steps = record { log_is = refl; output_is = refl }

-- A GUEST WITH NO WORDS: each step traps, up to the limit

empty_is : Gives (run_of [] no_script [] 3) (End 3 Limit ∷ []) []
unfolding run board run_from hart cpu outcome step_by ram_at_start Listing.instruction Listing.rows Table.read Table.written Table.rows is_device
empty_is = record { log_is = refl; output_is = refl }

-- A GUEST WITH THE TIMER'S INTERRUPT

-- mtvec is 0x80000040, where the end by power stands; mie takes the timer's interrupt; mtimecmp becomes 5; mstatus lets
-- interrupts in; a jump to itself waits
abbrev timed : List ℕ
timed =
    0x800002b7 ∷ 0x04028293 ∷ 0x30529073 ∷ 0x08000313 ∷ 0x30431073 ∷ 0x020043b7 ∷ 0x00500313 ∷ 0x0003a223 ∷ 0x0063a023 ∷ 0x30046073 ∷ 0x0000006f
    ∷ 0 ∷ 0 ∷ 0 ∷ 0 ∷ 0 ∷ 0x10100637 ∷ 0x00062023 ∷ []

abbrev timed_run : Finished
timed_run = run_of timed (record { clock = 1000000000; sectors = []; entries = record { at = 10; what = Tick 5 } ∷ [] }) [] 100

timed_is : Gives timed_run (Lines 10 1 ∷ End 13 (Power 0) ∷ []) []
unfolding run board run_from hart cpu outcome step_by ram_at_start Listing.instruction Listing.rows Table.read Table.written Table.rows is_device
timed_is = record { log_is = refl; output_is = refl }

interrupt_is : slice_get (events_of timed_run.turns) 10 ≡ Some (Irq 10 0x80000028 0x80000007 0x80000040)
unfolding run board run_from hart cpu outcome step_by ram_at_start Listing.instruction Listing.rows Table.read Table.written Table.rows is_device
interrupt_is = refl

-- A GUEST THAT MASKS ITS INTERRUPTS

-- serial control is 1; csrr t2, mip at step 3; the byte of t2's bits from 5 on goes out at step 5
abbrev masking : List ℕ
masking = 0x100002b7 ∷ 0x00100313 ∷ 0x0062a423 ∷ 0x344023f3 ∷ 0x0053d393 ∷ 0x00728023 ∷ 0x10100637 ∷ 0x00062023 ∷ []

-- the byte comes at the step that looks at the lines, and one step after it
seen_in_time : Gives (run_of masking (one_entry 3 (Serial (0x61 ∷ []) 0)) [] 100) (Lines 3 2 ∷ Reach 6 ∷ End 8 (Power 0) ∷ []) (sent_at 5 0x40 ∷ [])
unfolding run board run_from hart cpu outcome step_by ram_at_start Listing.instruction Listing.rows Table.read Table.written Table.rows is_device
seen_in_time = record { log_is = refl; output_is = refl }

seen_late : Gives (run_of masking (one_entry 4 (Serial (0x61 ∷ []) 0)) [] 100) (Lines 4 2 ∷ Reach 6 ∷ End 8 (Power 0) ∷ []) (sent_at 5 0 ∷ [])
unfolding run board run_from hart cpu outcome step_by ram_at_start Listing.instruction Listing.rows Table.read Table.written Table.rows is_device
seen_late = record { log_is = refl; output_is = refl }

-- A GUEST THAT JUMPS WHERE A MARKED BYTE SAYS

-- the byte 'a' goes through mscratch; it is made 0, and with auipc's pc the target of a jump
abbrev jumping : List ℕ
jumping = 0x100002b7 ∷ 0x0002c303 ∷ 0x34031073 ∷ 0x340023f3 ∷ 0xf9f38393 ∷ 0x00000e17 ∷ 0x01c383b3 ∷ 0x01038067 ∷ 0 ∷ 0x10100637 ∷ 0x00062023 ∷ []

jumping_is : Gives (run_of jumping (one_entry 0 (Serial (0x61 ∷ []) 1)) [] 100) (Load 1 0x61 1 ∷ End 10 (Power 0) ∷ []) []
unfolding run board run_from hart cpu outcome step_by ram_at_start Listing.instruction Listing.rows Table.read Table.written Table.rows is_device
jumping_is = record { log_is = refl; output_is = refl }
