-- A guest that reads a sector of the disk, whose log and output the definitions give.
use Rattle.std.proofs.Common.{◌≡◌, ℕ, zero, suc, ◌+◌, List, [], ◌∷◌, ◌++◌, refl}
use Rattle.std.specs.Int.{w32, to_le_bytes}
use Rattle.memory_map.specs.Device.{is_device}
use Rattle.run_events.specs.declared.record.EndCause.TheVariants.{Power}
use Rattle.run_events.specs.declared.record.Record.{Record}
use Rattle.run_events.specs.declared.record.Record.TheVariants.{Load, Dma, Reach, End}
use Rattle.rv_csr.specs.Table
use Rattle.rv_decode.specs.Listing
use Rattle.any_machine.specs.Run.{Finished, run_from, events_of}
use Rattle.any_machine.specs.Log.{log, output, sent_at}
use Rattle.hart_model.specs.Machine.{hart}
use Rattle.hart_model.specs.Step.{cpu, outcome, step_by}
use Rattle.machine_model.specs.Script.{Latency}
use Rattle.machine_model.specs.Board.{words_of}
use Rattle.machine_model.specs.Image.{flat_image, ram_at_start}
use Rattle.board_model.specs.Guest.{run}
use Rattle.board_model.specs.TheBoard.{board}

abbrev bytes : List ℕ → List ℕ
bytes [] = []
bytes (word ∷ words) = to_le_bytes w32 word ++ bytes words

-- sector 0 goes to 0x80000200, by the command at step 5; then the guest asks for the disk's state until it is no longer
-- busy, and sends the sector's first byte
abbrev reading : List ℕ
reading =
    0x100012b7 ∷ 0x80000337 ∷ 0x20030313 ∷ 0x0062a223 ∷ 0x00100393 ∷ 0x0072a423 ∷ 0x00c2ae03 ∷ 0xfe7e0ee3 ∷ 0x00032e83 ∷ 0x100002b7 ∷ 0x01d28023
    ∷ 0x10100637 ∷ 0x00062023 ∷ []

-- a disk file of one byte, and a latency of four steps
abbrev reading_run : Finished
reading_run = run (flat_image (bytes reading)) (record { clock = 100; sectors = []; entries = record { at = 0; what = Latency 4 } ∷ [] }) (0x51 ∷ []) 1 100

-- so many words of zero from an address on
zeros : ℕ → ℕ → List Record
zeros zero address = []
zeros (suc left) address = Dma 9 address 0 0 ∷ zeros left (address + 4)

reading_log : log reading_run ≡ Load 6 1 0 ∷ Load 8 1 0 ∷ Dma 9 0x80000200 0x51 0 ∷ zeros 127 0x80000204 ++ (Load 10 2 0 ∷ Reach 15 ∷ End 17 (Power 0) ∷ [])
unfolding zeros run board run_from hart cpu outcome step_by ram_at_start words_of Listing.instruction Listing.rows Table.read Table.written Table.rows is_device
reading_log = refl

reading_output : output (events_of reading_run.turns) ≡ sent_at 14 0x51 ∷ []
unfolding run board run_from hart cpu outcome step_by ram_at_start words_of Listing.instruction Listing.rows Table.read Table.written Table.rows is_device
reading_output = refl
