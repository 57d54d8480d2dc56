-- The board: serial line, timer, disk and power register. Each question is asked of the whole script.
use Rattle.std.proofs.Common.{zero, suc}
use Rattle.std.specs.Prelude.{◌≡◌, ℕ, ◌≤◌, ◌+◌, ◌-◌, ◌*◌, ◌/◌, ◌%◌, ◌^◌, Bool, true, false, ◌&&◌, ◌||◌, ◌==◌, nat_lt, nat_le, List, [], ◌∷◌, ◌++◌, length, map, take, drop, replicate, sum_by, slice_get, Option, None, Some, is_some, if◌then◌else◌}
use Rattle.std.specs.Option.{option_and_then, option_map_or}
use Rattle.std.specs.List.{AllByRecursion, filter_map, flat_map, list_any}
use Rattle.std.specs.Int.{w32, from_le_bytes}
use Rattle.memory_map.specs.declared.TheConstants.{RAM_START, MTIMECMP_LOW, MTIMECMP_HIGH, MTIME_LOW, MTIME_HIGH, SERIAL_DATA, SERIAL_STATUS, SERIAL_CTRL, DISK_SECTOR, DISK_ADDR, DISK_CMD, DISK_STATUS, DISK_CTRL, DISK_COUNT, POWER}
use Rattle.memory_map.specs.Halves.{high_half, low_half, with_high, with_low}
use Rattle.memory_map.specs.Ram.{InRam, in_ram}
use Rattle.rv_memory.specs.Ram.{placed}
use Rattle.run_events.specs.Record.{IsMark}
use Rattle.run_events.specs.declared.supply.Supplied.{Supplied}
use Rattle.run_events.specs.declared.supply.DmaWord.{DmaWord}
use Rattle.machine_model.specs.Script.{Script, Span, Entry, What, Serial, Tick, Latency}

-- The device registers.
pub data Register : Type 0 where
  CompareLow : Register
  CompareHigh : Register
  TimeLow : Register
  TimeHigh : Register
  SerialData : Register
  SerialStatus : Register
  SerialControl : Register
  DiskSector : Register
  DiskAddress : Register
  DiskCommand : Register
  DiskStatus : Register
  DiskControl : Register
  DiskCount : Register
  Power : Register

-- where each of them is
abbrev pub registers : List (ℕ × Register)
registers =
    (MTIMECMP_LOW, CompareLow)
    ∷ (MTIMECMP_HIGH, CompareHigh)
    ∷ (MTIME_LOW, TimeLow)
    ∷ (MTIME_HIGH, TimeHigh)
    ∷ (SERIAL_DATA, SerialData)
    ∷ (SERIAL_STATUS, SerialStatus)
    ∷ (SERIAL_CTRL, SerialControl)
    ∷ (DISK_SECTOR, DiskSector)
    ∷ (DISK_ADDR, DiskAddress)
    ∷ (DISK_CMD, DiskCommand)
    ∷ (DISK_STATUS, DiskStatus)
    ∷ (DISK_CTRL, DiskControl)
    ∷ (DISK_COUNT, DiskCount)
    ∷ (POWER, Power)
    ∷ []

-- the register at an address, if one is there
abbrev pub found_at : ℕ → List (ℕ × Register) → Option Register
found_at address [] = None
found_at address ((place, register) ∷ others) =
    if address == place then Some register else found_at address others

abbrev pub register_at : ℕ → Option Register
register_at address = found_at address registers

-- A command of the disk. It completes before a step, and then writes these words to RAM.
pub record Command : Type 0 where
  pub before : ℕ
  pub words : List DmaWord

-- what the disk is at: nothing; a command; the last command was done, or refused
pub data Activity : Type 0 where
  Idle : Activity
  Busy : (command : Command) → Activity
  Done : Activity
  Refused : Activity

pub record BoardState : Type 0 where
  -- how many serial bytes were taken
  pub taken : ℕ
  -- by how much mtime is ahead of the script
  pub offset : ℕ
  pub compare : ℕ
  pub serial_control : ℕ
  -- the bytes of the disk, and its registers
  pub bytes : List ℕ
  pub sector : ℕ
  pub address : ℕ
  pub disk_control : ℕ
  pub activity : Activity

-- a disk file, with zeros up to whole sectors
abbrev pub padded : List ℕ → List ℕ
padded bytes = bytes ++ replicate ((512 - length bytes % 512) % 512) 0

-- reset: mtimecmp is 2 ^ 64 - 1, all else is 0
abbrev pub reset_board : List ℕ → BoardState
reset_board bytes = record {
  taken = 0;
  offset = 0;
  compare = 2 ^ 64 - 1;
  serial_control = 0;
  bytes = bytes;
  sector = 0;
  address = 0;
  disk_control = 0;
  activity = Idle;
}

-- THE SERIAL LINE

-- a byte of the serial line: from which step on it is there, and its mark
pub record Arrival : Type 0 where
  pub at : ℕ
  pub value : ℕ
  pub mark : ℕ

-- the bytes of a script, in order
abbrev pub arrivals_by : ℕ → What → List Arrival
arrivals_by at (Serial bytes mark) =
    map (λ byte. record { at = at; value = byte; mark = mark }) bytes
arrivals_by at (Tick count) = []
arrivals_by at (Latency steps) = []

abbrev pub arrivals_of : Entry → List Arrival
arrivals_of entry = arrivals_by entry.at entry.what

abbrev pub arrivals : Script → List Arrival
arrivals script = flat_map arrivals_of script.entries

-- the byte that waits at a step, where so many were taken: the next one, if it is there
abbrev pub present_at : ℕ → Arrival → Option Arrival
present_at step byte = if nat_le byte.at step then Some byte else None

abbrev pub waiting : Script → ℕ → ℕ → Option Arrival
waiting script step taken = option_and_then (present_at step) (slice_get (arrivals script) taken)

abbrev pub waits : Script → ℕ → BoardState → Bool
waits script step b = is_some (waiting script step b.taken)

-- THE TIMER. (Privileged manual, 3.2.1.)

-- the ticks of an entry that is due at a step
abbrev pub ticks_by : What → ℕ
ticks_by (Serial bytes mark) = 0
ticks_by (Tick count) = count
ticks_by (Latency steps) = 0

abbrev pub ticks_at : ℕ → Entry → ℕ
ticks_at step entry = if nat_le entry.at step then ticks_by entry.what else 0

-- how far the script has brought the timer at a step: by the clock, and by the ticks due
abbrev pub elapsed : Script → ℕ → ℕ
elapsed script step = step / script.clock + sum_by (ticks_at step) script.entries

abbrev pub mtime : Script → ℕ → BoardState → ℕ
mtime script step b = (elapsed script step + b.offset) % 2 ^ 64

-- the offset with which mtime has this value at a step
abbrev pub offset_for : Script → ℕ → ℕ → ℕ
offset_for script step value = (value + (2 ^ 64 - elapsed script step % 2 ^ 64)) % 2 ^ 64

-- THE DISK

-- the latency before an entry sets one
abbrev pub first_latency : ℕ
first_latency = 1000

-- the latency in force at a step: that of the last entry due that sets it, or the first one
abbrev pub latency_by : What → Option ℕ
latency_by (Serial bytes mark) = None
latency_by (Tick count) = None
latency_by (Latency steps) = Some steps

abbrev pub latency_at : ℕ → Entry → Option ℕ
latency_at step entry = if nat_le entry.at step then latency_by entry.what else None

abbrev pub last_or : ℕ → List ℕ → ℕ
last_or before [] = before
last_or before (latency ∷ later) = last_or latency later

abbrev pub latency : Script → ℕ → ℕ
latency script step = last_or first_latency (filter_map (latency_at step) script.entries)

-- a sector has 512 bytes, which are 128 words
abbrev pub sector_count : List ℕ → ℕ
sector_count bytes = length bytes / 512

-- the mark of a sector's words
abbrev pub holds_sector : ℕ → Span → Bool
holds_sector sector span = nat_le span.first sector && nat_le sector span.last

abbrev pub mark_of : Script → ℕ → ℕ
mark_of script sector = if list_any (holds_sector sector) script.sectors then 1 else 0

-- so many words of these bytes, for the places from an address on
unfoldable pub words_of : ℕ → List ℕ → ℕ → ℕ → List DmaWord
words_of zero bytes address mark = []
words_of (suc left) bytes address mark =
    record { address = address; word = from_le_bytes w32 (take 4 bytes); mark = mark } ∷ words_of left (drop 4 bytes) (address + 4) mark

-- the words that a read command writes to RAM
abbrev pub sector_bytes : BoardState → List ℕ
sector_bytes b = take 512 (drop (512 * b.sector) b.bytes)

abbrev pub sector_words : Script → BoardState → List DmaWord
sector_words script b = words_of 128 (sector_bytes b) b.address (mark_of script b.sector)

-- the disk's bytes after a write command, which takes its bytes of RAM at once
abbrev pub with_sector : List ℕ → BoardState → List ℕ
with_sector ram b = placed b.bytes (512 * b.sector) (take 512 (drop (b.address - RAM_START) ram))

-- the disk refuses every other command, and where the sector is not there, the address is unaligned, or the bytes there
-- are not in RAM
abbrev pub is_accepted : (ram_size count command sector address : ℕ) → Bool
is_accepted ram_size count command sector address =
    (command == 1 || command == 2)
    && (nat_lt sector count && (address % 4 == 0 && in_ram ram_size address 512))

-- a command is refused, or begun: it completes when as many steps have passed as the latency in force says
abbrev pub busy_until : ℕ → List DmaWord → Activity
busy_until before words = Busy (record { before = before; words = words })

abbrev pub begun : Script → ℕ → List ℕ → ℕ → BoardState → BoardState
begun script step ram command b =
    if command == 1
    then record b { activity = busy_until (step + latency script step) (sector_words script b) }
    else record b { activity = busy_until (step + latency script step) []; bytes = with_sector ram b }

abbrev pub answered : Script → ℕ → List ℕ → ℕ → BoardState → BoardState
answered script step ram command b =
    if is_accepted (length ram) (sector_count b.bytes) command b.sector b.address
    then begun script step ram command b
    else record b { activity = Refused }

-- only a busy disk ignores a command
abbrev pub is_busy : Activity → Bool
is_busy Idle = false
is_busy (Busy command) = true
is_busy Done = false
is_busy Refused = false

abbrev pub commanded : Script → ℕ → List ℕ → ℕ → BoardState → BoardState
commanded script step ram command b =
    if is_busy b.activity then b else answered script step ram command b

abbrev pub status_of : Activity → ℕ
status_of Idle = 0
status_of (Busy command) = 1
status_of Done = 2
status_of Refused = 3

-- a store to the status
abbrev pub acknowledged : Activity → Activity
acknowledged Idle = Idle
acknowledged (Busy command) = Busy command
acknowledged Done = Idle
acknowledged Refused = Idle

-- THE BOARD

-- what happens before a step: a command completes, and its words are written to RAM
abbrev pub completed : ℕ → Activity → List DmaWord × Activity
completed step Idle = ([], Idle)
completed step (Busy command) =
    if nat_le command.before step then (command.words, Done) else ([], Busy command)
completed step Done = ([], Done)
completed step Refused = ([], Refused)

abbrev pub words_before : ℕ → BoardState → List DmaWord
words_before step b = (completed step b.activity).0

abbrev pub at_step : ℕ → BoardState → BoardState
at_step step b = record b { activity = (completed step b.activity).1 }

-- the interrupt lines: bit 0 of the timer, bit 1 of the serial line and the disk
abbrev pub timer_line : Script → ℕ → BoardState → Bool
timer_line script step b = nat_le b.compare (mtime script step b)

abbrev pub external_line : Script → ℕ → BoardState → Bool
external_line script step b =
    (waits script step b && b.serial_control == 1)
    || (nat_le 2 (status_of b.activity) && b.disk_control == 1)

abbrev pub board_lines : Script → ℕ → BoardState → ℕ
board_lines script step b =
    (if timer_line script step b then 1 else 0) + (if external_line script step b then 2 else 0)

-- what a load gives: the mark of a serial byte, and 0 for all else
abbrev pub unmarked : ℕ → Supplied
unmarked value = record { value = value; mark = 0 }

abbrev pub given : Arrival → Supplied
given byte = record { value = byte.value; mark = byte.mark }

abbrev pub byte_given : Option Arrival → Supplied
byte_given None = unmarked 0
byte_given (Some byte) = given byte

abbrev pub given_by : Script → ℕ → BoardState → Register → Supplied
given_by script step b CompareLow = unmarked (low_half b.compare)
given_by script step b CompareHigh = unmarked (high_half b.compare)
given_by script step b TimeLow = unmarked (low_half (mtime script step b))
given_by script step b TimeHigh = unmarked (high_half (mtime script step b))
given_by script step b SerialData = byte_given (waiting script step b.taken)
given_by script step b SerialStatus = unmarked (if waits script step b then 3 else 2)
given_by script step b SerialControl = unmarked b.serial_control
given_by script step b DiskSector = unmarked b.sector
given_by script step b DiskAddress = unmarked b.address
given_by script step b DiskCommand = unmarked 0
given_by script step b DiskStatus = unmarked (status_of b.activity)
given_by script step b DiskControl = unmarked b.disk_control
given_by script step b DiskCount = unmarked (sector_count b.bytes)
given_by script step b Power = unmarked 0

abbrev pub given_at : Script → ℕ → BoardState → ℕ → Supplied
given_at script step b address =
    option_map_or (given_by script step b) (register_at address) (unmarked 0)

-- a load of the serial data takes the byte that waits, and no other load changes anything
abbrev pub after_load : Script → ℕ → BoardState → ℕ → BoardState
after_load script step b address =
    if address == SERIAL_DATA && waits script step b then record b { taken = b.taken + 1 } else b

-- what a store changes
abbrev pub stored_by : Script → ℕ → List ℕ → ℕ → BoardState → Register → BoardState
stored_by script step ram value b CompareLow = record b { compare = with_low b.compare value }
stored_by script step ram value b CompareHigh = record b { compare = with_high b.compare value }
stored_by script step ram value b TimeLow =
    record b { offset = offset_for script step (with_low (mtime script step b) value) }
stored_by script step ram value b TimeHigh =
    record b { offset = offset_for script step (with_high (mtime script step b) value) }
stored_by script step ram value b SerialData = b
stored_by script step ram value b SerialStatus = b
stored_by script step ram value b SerialControl = record b { serial_control = value % 2 }
stored_by script step ram value b DiskSector = record b { sector = value }
stored_by script step ram value b DiskAddress = record b { address = value }
stored_by script step ram value b DiskCommand = commanded script step ram value b
stored_by script step ram value b DiskStatus = record b { activity = acknowledged b.activity }
stored_by script step ram value b DiskControl = record b { disk_control = value % 2 }
stored_by script step ram value b DiskCount = b
stored_by script step ram value b Power = b

abbrev pub after_store : Script → ℕ → List ℕ → BoardState → ℕ → ℕ → BoardState
after_store script step ram b address value =
    option_map_or (stored_by script step ram value b) (register_at address) b

-- WHICH SCRIPTS DRIVE A BOARD

-- the steps of the entries do not fall
abbrev pub RisesFrom : ℕ → List Entry → Type 0
RisesFrom step [] = Unit {0}
RisesFrom step (entry ∷ entries) = (step ≤ entry.at) × RisesFrom entry.at entries

-- the clock counts steps, and the entries stand in the order of their steps
pub record IsPlayable (script : Script) : Type 0 where
  pub clock : 1 ≤ script.clock
  pub rises : RisesFrom 0 script.entries

-- the marks of a script's serial bytes are in range
abbrev pub IsMarkedBy : What → Type 0
IsMarkedBy (Serial bytes mark) = IsMark mark
IsMarkedBy (Tick count) = Unit {0}
IsMarkedBy (Latency steps) = Unit {0}

abbrev pub AreMarked : List Entry → Type 0
AreMarked [] = Unit {0}
AreMarked (entry ∷ entries) = IsMarkedBy entry.what × AreMarked entries

-- WHAT A BOARD GIVES A MACHINE

-- a word that the disk may write to a RAM of this many bytes
pub record IsDiskWord (size : ℕ) (word : DmaWord) : Type 0 where
  pub aligned : word.address % 4 ≡ 0
  pub within : InRam size word.address 4
  pub marked : IsMark word.mark

-- the words of a command that is being done
abbrev pub IsUnderWay : ℕ → Activity → Type 0
IsUnderWay size Idle = Unit {0}
IsUnderWay size (Busy command) =
    (length command.words ≤ 128) × AllByRecursion (IsDiskWord size) command.words
IsUnderWay size Done = Unit {0}
IsUnderWay size Refused = Unit {0}
