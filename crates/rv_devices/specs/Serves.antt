-- What a disk stands for.
use Rattle.std.specs.Prelude.{◌≡◌, ℕ, ◌+◌, ◌-◌, ◌^◌, ◌≤◌, ◌<◌, List, length}
use Rattle.run_events.specs.declared.supply.DmaWord.{DmaWord}
use Rattle.machine_model.specs.Script.{Script}
use Rattle.machine_model.specs.Board as model
use Rattle.rv_devices.specs.declared.disk.Activity.{Activity}
use Rattle.rv_devices.specs.declared.disk.Activity.TheVariants as code
use Rattle.rv_devices.specs.declared.disk.Disk.{Disk}
use Rattle.rv_devices.specs.declared.transfer.Transfer.{Transfer}
use Rattle.rv_devices.specs.Sends.{Sends, words_left}

-- what it is at, with the words of the command that is being done
abbrev pub activity_of : Activity → Transfer → model.Activity
activity_of code.Idle pending = model.Idle
activity_of (code.Busy before) pending =
    model.Busy (record { before = before; words = words_left pending })
activity_of code.Done pending = model.Done
activity_of code.Refused pending = model.Refused

-- no command completes before a step that is earlier than this one
abbrev pub NotBefore : ℕ → Activity → Type 0
NotBefore step code.Idle = Unit {0}
NotBefore step (code.Busy before) = step ≤ before
NotBefore step code.Done = Unit {0}
NotBefore step code.Refused = Unit {0}

-- the step before which the command that is being done completes; where there is none, one that no run reaches
abbrev pub completes_before : Activity → ℕ
completes_before code.Idle = 2 ^ 64 - 1
completes_before (code.Busy before) = before
completes_before code.Done = 2 ^ 64 - 1
completes_before code.Refused = 2 ^ 64 - 1

-- a disk of a board in this state, with these words still to be handed out
pub record Serves (script : Script) (words : List DmaWord) (state : model.BoardState) (disk : Disk)
    : Type 0 where
  pub bytes_are : disk.bytes.items ≡ state.bytes
  pub small : length state.bytes < 2 ^ 32
  pub sectors_are : disk.sectors.items ≡ script.sectors
  pub sector_is : disk.sector ≡ state.sector
  pub address_is : disk.address ≡ state.address
  pub control_is : disk.control ≡ state.disk_control
  pub activity_is : activity_of disk.activity disk.pending ≡ state.activity
  pub below : disk.pending.address + (512 - disk.pending.sent) ≤ 2 ^ 32
  pub sending : Sends words disk.sending

-- A command has begun that completes before this step, at the address that the disk was told. All else but its bytes and
-- the command's is as it was.
pub record Begins (before : ℕ) (old new : Disk) : Type 0 where
  pub busy : new.activity ≡ code.Busy before
  pub to : new.pending.address ≡ old.address
  pub sectors : new.sectors.items ≡ old.sectors.items
  pub sector : new.sector ≡ old.sector
  pub address : new.address ≡ old.address
  pub control : new.control ≡ old.control
  pub sending : new.sending ≡ old.sending
