-- What a transfer stands for.
use Rattle.std.specs.Prelude.{◌≡◌, ℕ, ◌+◌, ◌-◌, ◌/◌, ◌^◌, ◌≤◌, List, drop}
use Rattle.run_events.specs.declared.supply.DmaWord.{DmaWord}
use Rattle.machine_model.specs.Board.{words_of}
use Rattle.rv_devices.specs.declared.transfer.Transfer.{Transfer}

-- how many words it has still to hand out
abbrev pub unsent : Transfer → ℕ
unsent transfer = (512 - transfer.sent) / 4

-- and which they are
abbrev pub words_left : Transfer → List DmaWord
words_left transfer =
    words_of (unsent transfer) (drop transfer.sent transfer.bytes) transfer.address transfer.mark

-- a transfer has these words left, which stand below 2 ^ 32
pub record Sends (words : List DmaWord) (transfer : Transfer) : Type 0 where
  pub words_are : words ≡ words_left transfer
  pub below : transfer.address + (512 - transfer.sent) ≤ 2 ^ 32
