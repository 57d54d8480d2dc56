-- The guarded bytes of RAM, as a shadow.
use Rattle.std.specs.Prelude.{◌≡◌, ℕ, true, List}
use Rattle.std.specs.List.{AllByRecursion}
use Rattle.list_laws.specs.Least.{is_between}
use Rattle.shadow_state.specs.Shade.{Shade, shade, has_byte}
use Rattle.lock_rules.specs.declared.guard.Guard.{Guard}
use Rattle.lock_rules.specs.declared.locks.TheConstants.{GUARDED}

-- each byte of RAM that the range has is marked as guarded
abbrev pub IsShaded : Shade → Guard → Type 0
IsShaded s guard = (address : ℕ) → has_byte s address ≡ true → is_between guard.from guard.to address ≡ true → shade s address ≡ GUARDED

abbrev pub AreShaded : Shade → List Guard → Type 0
AreShaded s guards = AllByRecursion (IsShaded s) guards
