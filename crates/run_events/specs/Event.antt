-- What is said of single events.
use Rattle.std.specs.Prelude.{◌≡◌, ℕ, ◌*◌, ◌%◌, ◌≤◌, ◌==◌, true, false, Option, None, Some, if◌then◌else◌}
use Rattle.memory_map.specs.Ram.{InRam, IsWidth}
use Rattle.run_events.specs.declared.access.Access.{Access}
use Rattle.run_events.specs.declared.access.Access.TheVariants.{Quiet, Load, Store, Swap}
use Rattle.run_events.specs.declared.event.Event.{Event}
use Rattle.run_events.specs.declared.event.Event.TheVariants.{Dma, Irq, Trap, Exec}
use Rattle.run_events.specs.Announcement.{announcing}

-- the step at which an event stands; a word from the disk stands before its step
abbrev pub step_of : Event → ℕ
step_of (Dma step address word mark) = step
step_of (Irq step pc cause next) = step
step_of (Trap step pc word cause value next) = step
step_of (Exec step pc word next result access told) = step

-- the low byte of a store that begins at this address
abbrev pub byte_stored_at : ℕ → Access → Option ℕ
byte_stored_at place (Store address width value device) =
    if address == place then Some (value % 256) else None
byte_stored_at place _ = None

-- and of an event's store that begins there
abbrev pub byte_stored : ℕ → Event → Option ℕ
byte_stored place (Exec step pc word next result access told) = byte_stored_at place access
byte_stored place _ = None

-- the word at this address stands in a RAM of this many KiB
pub record IsWordInRam (ram_kib address : ℕ) : Type 0 where
  pub aligned : address % 4 ≡ 0
  pub within : InRam (1024 * ram_kib) address 4

-- these bytes stand in RAM, where they are no device's
pub record IsDataInRam (ram_kib address width : ℕ) : Type 0 where
  pub whole : IsWidth width
  pub within : InRam (1024 * ram_kib) address width

abbrev pub AccessFits : ℕ → Access → Type 0
AccessFits ram_kib Quiet = Unit {0}
AccessFits ram_kib (Load address width value true mark) = Unit {0}
AccessFits ram_kib (Load address width value false mark) = IsDataInRam ram_kib address width
AccessFits ram_kib (Store address width value true) = Unit {0}
AccessFits ram_kib (Store address width value false) = IsDataInRam ram_kib address width
AccessFits ram_kib (Swap address old new) = IsDataInRam ram_kib address 4

-- the instruction slti x0, x0, k, with k from 1 to 7, by which a guest announces something
pub record Announces (word k : ℕ) : Type 0 where
  pub from : 1 ≤ k
  pub to : k ≤ 7
  pub spelled : word ≡ announcing k

-- what holds of each executed instruction of a machine with this RAM size
pub record ExecFits (ram_kib pc word : ℕ) (access : Access) : Type 0 where
  pub fetched : IsWordInRam ram_kib pc
  pub data_fits : AccessFits ram_kib access
  pub announced : (k : ℕ) → Announces word k → access ≡ Quiet

-- an event of a machine with a RAM of this many KiB
abbrev pub Fits : ℕ → Event → Type 0
Fits ram_kib (Dma step address word mark) = IsWordInRam ram_kib address
Fits ram_kib (Irq step pc cause next) = Unit {0}
Fits ram_kib (Trap step pc word cause value next) = Unit {0}
Fits ram_kib (Exec step pc word next result access told) = ExecFits ram_kib pc word access
