-- The board's definitions, computed on small scripts.
use Rattle.std.proofs.Common.{◌≡◌, ℕ, ◌+◌, ◌-◌, ◌^◌, List, [], ◌∷◌, length, replicate, slice_get, Some, refl}
use Rattle.memory_map.specs.declared.TheConstants.{RAM_START, MTIMECMP_LOW, MTIMECMP_HIGH, MTIME_LOW, MTIME_HIGH, SERIAL_DATA, SERIAL_STATUS, SERIAL_CTRL, DISK_SECTOR, DISK_ADDR, DISK_CMD, DISK_STATUS, DISK_CTRL, DISK_COUNT}
use Rattle.run_events.specs.declared.supply.DmaWord.{DmaWord}
use Rattle.machine_model.specs.Script.{Script, Serial, Tick, Latency}
use Rattle.machine_model.specs.Board.{CompareLow, CompareHigh, TimeLow, TimeHigh, SerialData, SerialStatus, SerialControl, DiskSector, DiskAddress, DiskCommand, DiskStatus, DiskControl, DiskCount, Power, registers, BoardState, reset_board, given_at, after_load, after_store, board_lines, words_before, at_step, words_of, mtime, latency}

-- what a step does to the board
data Deed : Type 0 where
  Load : (address : ℕ) → Deed
  Store : (address value : ℕ) → Deed

after : Script → ℕ → List ℕ → BoardState → Deed → BoardState
after script step ram b (Load address) = after_load script step b address
after script step ram b (Store address value) = after_store script step ram b address value

-- one after another, all in one step
done : Script → ℕ → List ℕ → BoardState → List Deed → BoardState
done script step ram b [] = b
done script step ram b (deed ∷ deeds) = done script step ram (after script step ram b deed) deeds

-- the value of a load
value : Script → ℕ → BoardState → ℕ → ℕ
value script step b address = (given_at script step b address).value

-- ONE BYTE THAT ARRIVES AT STEP 7

one_byte : Script
one_byte = record { clock = 100; sectors = []; entries = record { at = 7; what = Serial (0x61 ∷ []) 0 } ∷ [] }

serial_status : ℕ → BoardState → ℕ
serial_status step b = value one_byte step b SERIAL_STATUS

not_there_yet : serial_status 6 (reset_board []) ≡ 2
unfolding serial_status value one_byte
not_there_yet = refl

there : serial_status 7 (reset_board []) ≡ 3
unfolding serial_status value one_byte
there = refl

its_value : given_at one_byte 7 (reset_board []) SERIAL_DATA ≡ record { value = 0x61; mark = 0 }
unfolding one_byte
its_value = refl

once_taken : BoardState
once_taken = after_load one_byte 7 (reset_board []) SERIAL_DATA

none_waits : serial_status 7 once_taken ≡ 2
unfolding serial_status value one_byte once_taken
none_waits = refl

nothing_given : value one_byte 7 once_taken SERIAL_DATA ≡ 0
unfolding value one_byte once_taken
nothing_given = refl

-- the line rises with the byte where the serial line is enabled, and not otherwise
enabled : BoardState
enabled = done one_byte 2 [] (reset_board []) (Store SERIAL_CTRL 3 ∷ [])

line_before : board_lines one_byte 6 enabled ≡ 0
unfolding one_byte enabled done after
line_before = refl

line_with_the_byte : board_lines one_byte 7 enabled ≡ 2
unfolding one_byte enabled done after
line_with_the_byte = refl

line_of_a_byte_alone : board_lines one_byte 7 (reset_board []) ≡ 0
unfolding one_byte
line_of_a_byte_alone = refl

-- A marked byte after two plain ones that arrive before it

marked : Script
marked = record { clock = 100; sectors = []; entries = record { at = 0; what = Serial (1 ∷ 2 ∷ []) 0 } ∷ record { at = 3; what = Tick 9 } ∷ record { at = 3; what = Serial (5 ∷ []) 1 } ∷ [] }

third_byte : given_at marked 3 (done marked 0 [] (reset_board []) (Load SERIAL_DATA ∷ Load SERIAL_DATA ∷ Load SERIAL_DATA ∷ [])) SERIAL_DATA ≡ record { value = 5; mark = 1 }
unfolding marked done after
third_byte = refl

-- THE TIMER: A SLOW CLOCK, AND FIVE TICKS AT STEP 10

five_ticks : Script
five_ticks = record { clock = 1000000000; sectors = []; entries = record { at = 10; what = Tick 5 } ∷ [] }

armed : BoardState
armed = done five_ticks 7 [] (reset_board []) (Store MTIMECMP_LOW 5 ∷ Store MTIMECMP_HIGH 0 ∷ [])

time_before : mtime five_ticks 9 armed ≡ 0
unfolding five_ticks armed done after
time_before = refl

line_of_the_timer_before : board_lines five_ticks 9 armed ≡ 0
unfolding five_ticks armed done after
line_of_the_timer_before = refl

time_then : mtime five_ticks 10 armed ≡ 5
unfolding five_ticks armed done after
time_then = refl

line_of_the_timer : board_lines five_ticks 10 armed ≡ 1
unfolding five_ticks armed done after
line_of_the_timer = refl

compare_at_reset : value five_ticks 0 (reset_board []) MTIMECMP_HIGH ≡ 2 ^ 32 - 1
unfolding five_ticks value
compare_at_reset = refl

-- at a clock of 3, the high half set at step 7, when mtime is 2: the low half is kept, and goes on
fast : Script
fast = record { clock = 3; sectors = []; entries = [] }

high_set : BoardState
high_set = done fast 7 [] (reset_board []) (Store MTIME_HIGH 1 ∷ [])

both_halves : mtime fast 7 high_set ≡ 2 ^ 32 + 2
unfolding fast high_set done after
both_halves = refl

goes_on : mtime fast 12 high_set ≡ 2 ^ 32 + 4
unfolding fast high_set done after
goes_on = refl

-- the low half set to its largest value: the next rise carries
carries : mtime fast 9 (done fast 8 [] (reset_board []) (Store MTIME_LOW (2 ^ 32 - 1) ∷ [])) ≡ 2 ^ 32
unfolding fast done after
carries = refl

-- and set to 0: mtime falls
falls : mtime fast 300 (done fast 299 [] (reset_board []) (Store MTIME_LOW 0 ∷ [])) ≡ 1
unfolding fast done after
falls = refl

-- THE DISK: ONE SECTOR THAT BEGINS WITH 51, A LATENCY OF 4

quick : Script
quick = record { clock = 100; sectors = record { first = 1; last = 3 } ∷ []; entries = record { at = 0; what = Latency 4 } ∷ [] }

ram : List ℕ
ram = replicate 1024 7

one_sector : List ℕ
one_sector = 0x51 ∷ replicate 511 0

reading : BoardState
reading = done quick 5 ram (reset_board one_sector) (Store DISK_ADDR (RAM_START + 0x200) ∷ Store DISK_CMD 1 ∷ [])

status : ℕ → BoardState → ℕ
status step b = value quick step b DISK_STATUS

busy : status 8 (at_step 8 reading) ≡ 1
unfolding quick ram one_sector reading status value done after words_of
busy = refl

nothing_before : words_before 8 reading ≡ []
unfolding quick ram one_sector reading done after words_of
nothing_before = refl

complete : status 9 (at_step 9 reading) ≡ 2
unfolding quick ram one_sector reading status value done after words_of
complete = refl

number_of_words : length (words_before 9 reading) ≡ 128
unfolding quick ram one_sector reading done after words_of
number_of_words = refl

first_word : slice_get (words_before 9 reading) 0 ≡ Some (record { address = RAM_START + 0x200; word = 0x51; mark = 0 })
unfolding quick ram one_sector reading done after words_of
first_word = refl

last_word : slice_get (words_before 9 reading) 127 ≡ Some (record { address = RAM_START + 0x3FC; word = 0; mark = 0 })
unfolding quick ram one_sector reading done after words_of
last_word = refl

-- a store to the command of a busy disk is ignored, also one that would be refused
ignored : status 6 (done quick 6 ram reading (Store DISK_CMD 9 ∷ [])) ≡ 1
unfolding quick ram one_sector reading status value done after words_of
ignored = refl

-- an acknowledged disk is idle, a busy one is not acknowledged
acknowledged : status 9 (done quick 9 ram (at_step 9 reading) (Store DISK_STATUS 0 ∷ [])) ≡ 0
unfolding quick ram one_sector reading status value done after words_of
acknowledged = refl

not_acknowledged : status 8 (done quick 8 ram (at_step 8 reading) (Store DISK_STATUS 0 ∷ [])) ≡ 1
unfolding quick ram one_sector reading status value done after words_of
not_acknowledged = refl

-- what is refused: another command, a sector that is not there, an address that is unaligned or not in RAM
tried : List Deed → ℕ
tried deeds = status 5 (done quick 5 ram (reset_board one_sector) deeds)

other_command : tried (Store DISK_ADDR RAM_START ∷ Store DISK_CMD 3 ∷ []) ≡ 3
unfolding quick ram one_sector tried status value done after words_of
other_command = refl

no_sector : tried (Store DISK_ADDR RAM_START ∷ Store DISK_SECTOR 1 ∷ Store DISK_CMD 1 ∷ []) ≡ 3
unfolding quick ram one_sector tried status value done after words_of
no_sector = refl

unaligned : tried (Store DISK_ADDR (RAM_START + 2) ∷ Store DISK_CMD 1 ∷ []) ≡ 3
unfolding quick ram one_sector tried status value done after words_of
unaligned = refl

past_the_end : tried (Store DISK_ADDR (RAM_START + 0x204) ∷ Store DISK_CMD 1 ∷ []) ≡ 3
unfolding quick ram one_sector tried status value done after words_of
past_the_end = refl

up_to_the_end : tried (Store DISK_ADDR (RAM_START + 0x200) ∷ Store DISK_CMD 1 ∷ []) ≡ 1
unfolding quick ram one_sector tried status value done after words_of
up_to_the_end = refl

-- a refused disk takes a new command
taken_again : tried (Store DISK_ADDR RAM_START ∷ Store DISK_CMD 3 ∷ Store DISK_CMD 1 ∷ []) ≡ 1
unfolding quick ram one_sector tried status value done after words_of
taken_again = refl

-- the line of a disk that is done or has refused
line_of_the_disk : board_lines quick 5 (done quick 5 ram (reset_board one_sector) (Store DISK_CTRL 1 ∷ Store DISK_CMD 3 ∷ [])) ≡ 2
unfolding quick ram one_sector done after words_of
line_of_the_disk = refl

line_falls_with_a_command : board_lines quick 5 (done quick 5 ram (reset_board one_sector) (Store DISK_CTRL 1 ∷ Store DISK_CMD 3 ∷ Store DISK_ADDR RAM_START ∷ Store DISK_CMD 1 ∷ [])) ≡ 0
unfolding quick ram one_sector done after words_of
line_falls_with_a_command = refl

-- the latency is that of the last entry that is due
later : Script
later = record { clock = 100; sectors = []; entries = record { at = 3; what = Latency 7 } ∷ record { at = 5; what = Latency 2 } ∷ [] }

latency_at_first : latency later 2 ≡ 1000
unfolding later
latency_at_first = refl

latency_between : latency later 4 ≡ 7
unfolding later
latency_between = refl

latency_at_last : latency later 5 ≡ 2
unfolding later
latency_at_last = refl

-- TWO SECTORS, OF WHICH THE SECOND IS NAMED: WRITTEN WITH RAM'S BYTES, AND READ BACK WITH ITS MARK

two_sectors : List ℕ
two_sectors = replicate 1024 0

written : BoardState
written = at_step 9 (done quick 5 ram (reset_board two_sectors) (Store DISK_SECTOR 1 ∷ Store DISK_ADDR RAM_START ∷ Store DISK_CMD 2 ∷ []))

read_back : List DmaWord
read_back = words_before 13 (done quick 9 (replicate 1024 0) written (Store DISK_CMD 1 ∷ []))

writes_no_word : words_before 9 (done quick 5 ram (reset_board two_sectors) (Store DISK_SECTOR 1 ∷ Store DISK_ADDR RAM_START ∷ Store DISK_CMD 2 ∷ [])) ≡ []
unfolding quick ram two_sectors done after words_of
writes_no_word = refl

word_read_back : slice_get read_back 1 ≡ Some (record { address = RAM_START + 4; word = 0x07070707; mark = 1 })
unfolding quick ram two_sectors written read_back done after words_of
word_read_back = refl

number_of_sectors : value quick 0 (reset_board two_sectors) DISK_COUNT ≡ 2
unfolding quick two_sectors value
number_of_sectors = refl

-- THE REGISTERS BY THEIR NUMBERS

addresses : registers
    ≡ (0x02004000, CompareLow)
    ∷ (0x02004004, CompareHigh)
    ∷ (0x0200BFF8, TimeLow)
    ∷ (0x0200BFFC, TimeHigh)
    ∷ (0x10000000, SerialData)
    ∷ (0x10000004, SerialStatus)
    ∷ (0x10000008, SerialControl)
    ∷ (0x10001000, DiskSector)
    ∷ (0x10001004, DiskAddress)
    ∷ (0x10001008, DiskCommand)
    ∷ (0x1000100C, DiskStatus)
    ∷ (0x10001010, DiskControl)
    ∷ (0x10001014, DiskCount)
    ∷ (0x10100000, Power)
    ∷ []
addresses = refl
