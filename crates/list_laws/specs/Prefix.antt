-- Prefixes of lists.
use Rattle.std.specs.Prelude.{◌≡◌, List, ◌++◌}

-- the whole begins with this prefix, which may be empty or the whole
pub record IsPrefix {X : Type 0} (front whole : List X) : Type 0 where
  pub rest : List X
  pub joined : front ++ rest ≡ whole
