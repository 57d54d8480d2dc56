-- Sets of numbers as lists in ascending order, each member once.
use Rattle.std.specs.Prelude.{ℕ, ◌==◌, nat_lt, List, [], ◌∷◌, if◌then◌else◌}

-- the set with one member more
abbrev pub with_member : ℕ → List ℕ → List ℕ
with_member new [] = new ∷ []
with_member new (x ∷ xs) =
    if new == x then x ∷ xs else if nat_lt new x then new ∷ x ∷ xs else x ∷ with_member new xs

-- the members of a list
abbrev pub ascending : List ℕ → List ℕ
ascending [] = []
ascending (x ∷ xs) = with_member x (ascending xs)
