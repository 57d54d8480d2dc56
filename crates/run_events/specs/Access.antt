-- Which bytes an access touches.
use Rattle.std.specs.Prelude.{ℕ, Bool, false}
use Rattle.run_events.specs.declared.access.Access.{Access}
use Rattle.run_events.specs.declared.access.Access.TheVariants.{Quiet, Load, Store, Swap}

-- the address of the first byte
abbrev pub touched_from : Access → ℕ
touched_from Quiet = 0
touched_from (Load address width value device mark) = address
touched_from (Store address width value device) = address
touched_from (Swap address old new) = address

-- how many bytes; a quiet access touches none
abbrev pub touched_len : Access → ℕ
touched_len Quiet = 0
touched_len (Load address width value device mark) = width
touched_len (Store address width value device) = width
touched_len (Swap address old new) = 4

-- they are a device's
abbrev pub is_of_device : Access → Bool
is_of_device Quiet = false
is_of_device (Load address width value device mark) = device
is_of_device (Store address width value device) = device
is_of_device (Swap address old new) = false
