-- An option that holds nothing.
use Rattle.std.proofs.Common.{◌≡◌, false, Option, None, Some, is_some, refl}

pub none_from_is_some : {X : Type 0} (o : Option X) → is_some o ≡ false → o ≡ None
none_from_is_some None is = refl
none_from_is_some (Some x) is = cc
