-- What a store to a device register is to the board.
use Rattle.std.proofs.Common.{◌≡◌, ℕ, Bool, true, List, ap, subst, ◌∙◌}
use Rattle.std.specs.Prelude.{IsSome}
use Rattle.run_events.specs.declared.access.Access.{Access}
use Rattle.run_events.specs.declared.access.Access.TheVariants.{Store}
use Rattle.board_model.specs.TheBoard.{after_access}
use Rattle.hart_model.proofs.DeviceLaws.{AtRegister}
use Rattle.machine_model.specs.Board as model
use Rattle.machine_model.specs.Board.{BoardState}
use Rattle.machine_model.specs.Script.{Script}
use Rattle.rv_machine.proofs.ComingLaws.{register_there}

module _ (a : Access) (address width value : ℕ) (device : Bool) (is : a ≡ Store address width value device) where
  -- its address is a register's
  pub store_at : device ≡ true → AtRegister a → IsSome (model.register_at address)
  store_at outside at = register_there address (subst AtRegister (is ∙ ap (Store address width value) outside) at)

  -- it does what the board says, and a store to RAM does nothing
  pub store_after : (script : Script) (step : ℕ) (ram : List ℕ) (b : BoardState) → device ≡ true → after_access script step ram b a ≡ model.after_store script step ram b address value
  store_after script step ram b outside = ap (after_access script step ram b) (is ∙ ap (Store address width value) outside)
