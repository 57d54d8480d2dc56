-- Programs of a few words, worked by the definition.
use Rattle.std.specs.Prelude.{◌≡◌, ℕ, List, [], ◌∷◌, ◌++◌, replicate, slice_index, None}
use Rattle.std.proofs.Common.{true, zero, suc, refl}
use Rattle.std.specs.Int.{w32, to_le_bytes}
use Rattle.memory_map.specs.Device.{is_device}
use Rattle.memory_map.specs.declared.TheConstants.{RAM_START, POWER}
use Rattle.run_events.specs.declared.access.Access.TheVariants.{Quiet, Store}
use Rattle.run_events.specs.declared.event.Event.{Event}
use Rattle.run_events.specs.declared.event.Event.TheVariants.{Exec, Irq, Trap}
use Rattle.rv_csr.specs.Table
use Rattle.rv_decode.specs.Listing
use Rattle.rv_memory.specs.Ram.{filled, loaded}
use Rattle.hart_model.specs.State.{State, reset_state}
use Rattle.hart_model.specs.Step.{cpu, outcome, step_by, touch}

-- the bytes of words
abbrev bytes : List ℕ → List ℕ
bytes [] = []
bytes (word ∷ words) = to_le_bytes w32 word ++ bytes words

-- the hart at step 0 over a RAM of 1 KiB with these words at its start
abbrev started : List ℕ → State
started words = reset_state (filled (replicate 1024 0) RAM_START (bytes words)) RAM_START

-- so many steps on, with no interrupt line up
abbrev after : ℕ → State → State
after zero s = s
after (suc left) s = after left (cpu s 0 None).1

-- what a register holds
abbrev x : ℕ → State → ℕ
x index s = slice_index s.registers index

-- x5 is 7 and x6 is 0: div x7, x5, x6 gives all ones; with rem in its place, 7
seven_by_zero : x 7 (after 3 (started (0x00700293 ∷ 0x00000313 ∷ 0x0262c3b3 ∷ []))) ≡ 0xffffffff
unfolding cpu outcome step_by Listing.instruction Listing.rows
seven_by_zero = refl

seven_from_zero : x 7 (after 3 (started (0x00700293 ∷ 0x00000313 ∷ 0x0262e3b3 ∷ []))) ≡ 7
unfolding cpu outcome step_by Listing.instruction Listing.rows
seven_from_zero = refl

-- x5 is 0x80000000 and x6 is -1: the quotient is 0x80000000, the remainder 0
least_by_minus_one : x 7 (after 3 (started (0x800002b7 ∷ 0xfff00313 ∷ 0x0262c3b3 ∷ []))) ≡ 0x80000000
unfolding cpu outcome step_by Listing.instruction Listing.rows
least_by_minus_one = refl

least_from_minus_one : x 7 (after 3 (started (0x800002b7 ∷ 0xfff00313 ∷ 0x0262e3b3 ∷ []))) ≡ 0
unfolding cpu outcome step_by Listing.instruction Listing.rows
least_from_minus_one = refl

-- csrrs x7, mcycle, x0; csrrwi x0, mcycle, 20; csrrs x7, mcycle, x0: the first read gives 0, the second what was written
abbrev counting : State
counting = started (0xb00023f3 ∷ 0xb00a5073 ∷ 0xb00023f3 ∷ [])

first_count : x 7 (after 1 counting) ≡ 0
unfolding cpu outcome step_by Listing.instruction Listing.rows Table.read Table.written Table.rows
first_count = refl

written_count : x 7 (after 3 counting) ≡ 20
unfolding cpu outcome step_by Listing.instruction Listing.rows Table.read Table.written Table.rows
written_count = refl

-- x5 is 0x80000100, whose word is 0; lr.w x6, (x5); then sc.w x7, x6, (x5)
abbrev reserving : State
reserving = after 3 (started (0x800002b7 ∷ 0x10028293 ∷ 0x1002a32f ∷ 0x1862a3af ∷ []))

-- the disk wrote a 1 at an address in between
abbrev disturbed : ℕ → State
disturbed address = (touch reserving (record { address = address; word = 1; mark = 0 })).1

-- the store succeeds, which is 0
reserved : x 7 (after 1 reserving) ≡ 0
unfolding cpu outcome step_by Listing.instruction Listing.rows
reserved = refl

-- but fails, which is 1, where the disk wrote that word, which stays as the disk left it
taken_away : x 7 (after 1 (disturbed 0x80000100)) ≡ 1
unfolding cpu outcome step_by Listing.instruction Listing.rows
taken_away = refl

stays : loaded (after 1 (disturbed 0x80000100)).ram 0x80000100 4 ≡ 1
unfolding cpu outcome step_by Listing.instruction Listing.rows
stays = refl

-- and succeeds where the disk wrote the word after it
still_reserved : x 7 (after 1 (disturbed 0x80000104)) ≡ 0
unfolding cpu outcome step_by Listing.instruction Listing.rows
still_reserved = refl

-- The first word is 0, which is no instruction: exception 2, whose handler is at 0, where nothing is. So the fetch is
-- exception 1 from then on.
events : ℕ → State → List Event
events zero s = []
events (suc left) s = (cpu s 0 None).0 ∷ events left (cpu s 0 None).1

no_program : events 3 (started []) ≡ Trap 0 0x80000000 0 2 0 0 ∷ Trap 1 0 0 1 0 0 ∷ Trap 2 0 0 1 0 0 ∷ []
unfolding cpu outcome step_by Listing.instruction Listing.rows events
no_program = refl

-- a jump by 2 bytes goes to where no instruction begins
half_way : events 1 (started (0x0020006f ∷ [])) ≡ Trap 0 0x80000000 0x0020006f 0 0x80000002 0 ∷ []
unfolding cpu outcome step_by Listing.instruction Listing.rows events
half_way = refl

-- The handler's address 0x80000040 goes to mtvec, the timer's interrupt is enabled in mie, mtimecmp gets a value, and
-- mstatus.MIE is set; then the program waits in a jump to itself. At the handler it stores 0 to the power register.
abbrev waiting : State
waiting =
    after 10 (started (0x800002b7 ∷ 0x04028293 ∷ 0x30529073 ∷ 0x08000313 ∷ 0x30431073 ∷ 0x020043b7 ∷ 0x00500313 ∷ 0x0003a223 ∷ 0x0063a023 ∷ 0x30046073 ∷ 0x0000006f ∷ 0 ∷ 0 ∷ 0 ∷ 0 ∷ 0 ∷ 0x10100637 ∷ 0x00062023 ∷ []))

-- with the timer's line up the interrupt is taken, and mepc is where the program waits
interrupt : (cpu waiting 1 None).0 ≡ Irq 10 0x80000028 0x80000007 0x80000040
unfolding cpu outcome step_by Listing.instruction Listing.rows Table.read Table.written Table.rows is_device
interrupt = refl

returns_to : (cpu waiting 1 None).1.csrs.mepc ≡ 0x80000028
unfolding cpu outcome step_by Listing.instruction Listing.rows Table.read Table.written Table.rows is_device
returns_to = refl

-- in the handler interrupts are off, though the line is still up, and its second step is the store
power_off :
    (cpu (cpu (cpu waiting 1 None).1 1 None).1 1 None).0
    ≡ Exec 12 0x80000044 0x00062023 0x80000048 0 (Store POWER 4 0 true) (record { a0 = 0; a1 = 0; a2 = 0x10100000 })
unfolding cpu outcome step_by Listing.instruction Listing.rows Table.read Table.written Table.rows is_device
power_off = refl

-- without a line it waits on
no_interrupt : (cpu waiting 0 None).0 ≡ Exec 10 0x80000028 0x0000006f 0x80000028 0 Quiet (record { a0 = 0; a1 = 0; a2 = 0 })
unfolding cpu outcome step_by Listing.instruction Listing.rows Table.read Table.written Table.rows is_device
no_interrupt = refl
