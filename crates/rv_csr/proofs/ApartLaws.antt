-- No address lies in two rows of the table.
use Rattle.std.proofs.Common.{◌≡◌, ℕ, Bool, true, ◌&&◌, ◌||◌, nat_lt, List, [], ◌∷◌, refl}
use Rattle.std.specs.List.{list_all}
use Rattle.rv_csr.specs.Table.{Place, At, Range, Row, rows}

-- the first and the last address of a place
abbrev first_of : Place → ℕ
first_of (At address) = address
first_of (Range first last) = first

abbrev last_of : Place → ℕ
last_of (At address) = address
last_of (Range first last) = last

abbrev is_apart : Place → Place → Bool
is_apart a b = nat_lt (last_of a) (first_of b) || nat_lt (last_of b) (first_of a)

-- each row is apart from those after it
abbrev are_apart : List Row → Bool
are_apart [] = true
are_apart (row ∷ others) = list_all (λ other. is_apart row.place other.place) others && are_apart others

rows_apart : are_apart rows ≡ true
unfolding rows
rows_apart = refl
