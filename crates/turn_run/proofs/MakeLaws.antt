-- The followers of a run stay those that they were.
use Rattle.std.proofs.Common.{◌≡◌, ℕ, zero, suc, List, [], ◌∷◌, map, Some, ap, ◌∙◌, refl}
use Rattle.std.specs.Prelude.{slice_get, slice_set}

-- one of them took a record
pub same_after : {F K : Type 0} (make : F → K) (followers : List F) (reader : ℕ) (old new' : F) → slice_get followers reader ≡ Some old → make new' ≡ make old → map make (slice_set followers reader new') ≡ map make followers
same_after make [] reader old new' there same = refl
same_after make (follower ∷ followers) zero old new' there same = ap (λ k. k ∷ map make followers) (same ∙ ap make (cc))
same_after make (follower ∷ followers) (suc reader) old new' there same = ap (λ l. make follower ∷ l) (same_after make followers reader old new' there same)
