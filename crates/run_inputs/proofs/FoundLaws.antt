-- What stands under a name, as far as the files tell.
use Rattle.std.proofs.Common.{◌≡◌, ℕ, ◌+◌, List, [], Option, Some, None, refl, sym, ap, arith, ◌∙◌}
use Rattle.std.specs.Prelude.{replicate}
use Rattle.std.proofs.lemmas.List.{length-replicate}
use Rattle.std.proofs.lemmas.Option.{none-some, same_Some}
use Rattle.after_edge.specs.Files.{Contents, IfTold}
use Rattle.after_edge.specs.Reading.{IsLonger}
use Rattle.run_inputs.specs.Files.{IsFound, IsDiskFound}
use Rattle.run_inputs.specs.Read.{IsLong}

-- files that tell what they are tell it of each name
told_at : (told : Contents) (name : List ℕ) (found : Option (List ℕ)) → told name ≡ found → IsFound (Some told) name found
told_at told name found is = λ files same. ap (λ (f : Contents). f name) (sym (same_Some told files same)) ∙ is

-- something stands under a name
pub some_found : (content : Option Contents) (name : List ℕ) → (found : Option (List ℕ)) × IsFound content name found
some_found None name = (None, λ files is. absurd (none-some files is))
some_found (Some told) name = (told name, told_at told name (told name) refl)

pub some_disk : (content : Option Contents) (name : Option (List ℕ)) → (found : Option (List ℕ)) × IsDiskFound content name found
some_disk content None = (Some [], refl)
some_disk content (Some name) = some_found content name

-- a file with too many bytes
pub long_found : (content : Option Contents) (name : List ℕ) (max : ℕ) → IfTold content (λ files. IsLonger files name max) → IsLong content name max
long_found None name max longer = record { bytes = replicate (max + 1) 0; found = λ files is. absurd (none-some files is); longer = omega (arith, length-replicate {A = ℕ} (max + 1) 0) }
long_found (Some told) name max longer =
    let long = longer told refl in
    record { bytes = long.bytes; found = told_at told name (Some long.bytes) long.file; longer = long.longer }
