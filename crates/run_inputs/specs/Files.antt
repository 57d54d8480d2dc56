-- The files that a run names, as far as the outside tells what they are.
use Rattle.std.specs.Prelude.{◌≡◌, ℕ, List, [], Option, Some, None, Result}
use Rattle.after_edge.specs.Files.{Contents, IfTold}
use Rattle.run_inputs.specs.Given.{Found, Refusal}

-- the names of a run's files; a run may have no disk
pub record Names : Type 0 where
  pub image : List ℕ
  pub script : List ℕ
  pub disk : Option (List ℕ)

-- as far as the files tell, this stands under a name
abbrev pub IsFound : Option Contents → List ℕ → Option (List ℕ) → Type 0
IsFound content name found = IfTold content (λ files. files name ≡ found)

-- a disk that is not named is empty
abbrev pub IsDiskFound : Option Contents → Option (List ℕ) → Option (List ℕ) → Type 0
IsDiskFound content None found = found ≡ Some []
IsDiskFound content (Some name) found = IsFound content name found

-- as far as the files tell, these stand under the names of a run
pub record AreFound (content : Option Contents) (names : Names) (found : Found) : Type 0 where
  pub image : IsFound content names.image found.image
  pub script : IsFound content names.script found.script
  pub disk : IsDiskFound content names.disk found.disk

-- what a reader gives for the files of a run, as far as they tell what they are
pub record Comes {Y : Type 0} (read : Found → Result Y Refusal) (content : Option Contents)
    (names : Names) (answer : Result Y Refusal) : Type 0 where
  pub found : Found
  pub are : AreFound content names found
  pub gives : read found ≡ answer
