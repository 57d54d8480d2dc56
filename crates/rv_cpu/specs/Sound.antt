-- What holds of the hart between two steps.
use Rattle.hart_model.specs.Aligned.{IsAligned}
use Rattle.hart_model.specs.State.{State}

-- instructions can begin where they are to begin
pub record IsSound (s : State) : Type 0 where
  pub aligned : IsAligned s
