-- The shadow of guarded bytes, with one range more, and what it rules out.
use Rattle.std.proofs.Common.{◌≡◌, ℕ, ◌+◌, ◌≤◌, Bool, true, false, not, ◌&&◌, ◌||◌, cond, List, [], ◌∷◌, ◌++◌, length, None, refl, sym, ap, ◌∙◌, arith}
use Rattle.std.specs.Int.Bits.{bit_and}
use Rattle.memory_map.specs.Ram.{InRam}
use Rattle.list_laws.specs.Least.{is_between, least_from}
use Rattle.list_laws.proofs.LeastLaws.{least_none}
use Rattle.analysis_model.specs.Locks.{is_held_by}
use Rattle.shadow_state.specs.Shade.{Shade, shade, has_byte, covers, painted, NoneBetween}
use Rattle.shadow_state.proofs.PaintLaws.{painted-at, has_byte-painted}
use Rattle.shadow_state.proofs.SizeLaws.{has_byte_of}
use Rattle.lock_rules.specs.declared.guard.Guard.{Guard}
use Rattle.lock_rules.specs.declared.lock.Lock.{Lock}
use Rattle.lock_rules.specs.declared.locks.TheConstants.{GUARDED}
use Rattle.lock_rules.specs.Entries.{holder_at, is_open_in, is_open}
use Rattle.lock_rules.specs.Shaded.{IsShaded, AreShaded}

-- a paint marks the bytes of its range, and no paint unmarks any
marks : (b : Bool) (value : ℕ) → value ≡ GUARDED → cond b GUARDED value ≡ GUARDED
marks true value is = refl
marks false value is = is

covered : (b : Bool) (value : ℕ) → b ≡ true → cond b GUARDED value ≡ GUARDED
covered true value is = refl
covered false value is = cc

module _ (s : Shade) (from to : ℕ) where
  still_there : (address : ℕ) → has_byte (painted s from to GUARDED) address ≡ true → has_byte s address ≡ true
  still_there address there = sym (has_byte-painted s from to GUARDED address) ∙ there

  IsShaded-kept : (guard : Guard) → IsShaded s guard → IsShaded (painted s from to GUARDED) guard
  IsShaded-kept guard shaded address there has =
      let before = still_there address there in
      painted-at s from to GUARDED address before ∙ marks (covers from to address) (shade s address) (shaded address before has)

  IsShaded-new : (guard : Guard) → guard.from ≡ from → guard.to ≡ to → IsShaded (painted s from to GUARDED) guard
  IsShaded-new guard starts ends address there has =
      let inside : covers from to address ≡ true = rw (← starts, ← ends) has in
      painted-at s from to GUARDED address (still_there address there) ∙ covered (covers from to address) (shade s address) inside

  pub AreShaded-more : (guards : List Guard) (guard : Guard) → guard.from ≡ from → guard.to ≡ to → AreShaded s guards → AreShaded (painted s from to GUARDED) (guards ++ guard ∷ [])
  AreShaded-more [] guard starts ends shaded = (IsShaded-new guard starts ends, tt)
  AreShaded-more (first ∷ guards) guard starts ends shaded = (IsShaded-kept first shaded.0, AreShaded-more guards guard starts ends shaded.1)

-- a byte without the mark is in no range
module _ (s : Shade) (locks : List Lock) (context address : ℕ) (there : has_byte s address ≡ true) (clear : bit_and (shade s address) GUARDED ≡ 0) where
  apart : (guard : Guard) → IsShaded s guard → is_open_in locks context guard address ≡ false
  apart guard shaded = by_case (is_between guard.from guard.to address) refl (is_held_by (holder_at locks guard.place) context)
    where
      by_case : (b : Bool) → is_between guard.from guard.to address ≡ b → (held : Bool) → (not held && b) ≡ false
      by_case true has held = absurd (marked_one (shade s address) (shaded address there has) clear)
        where
          marked_one : (v : ℕ) → v ≡ GUARDED → bit_and v GUARDED ≡ 0 → ⊥
          marked_one v is none = let one : bit_and GUARDED GUARDED ≡ 0 = ap (λ n. bit_and n GUARDED) (sym is) ∙ none in cc
      by_case false has true = refl
      by_case false has false = refl

  none_open : (guards : List Guard) → AreShaded s guards → is_open locks context guards address ≡ false
  none_open [] shaded = refl
  none_open (guard ∷ guards) shaded = ap (λ b. b || is_open locks context guards address) (apart guard shaded.0) ∙ none_open guards shaded.1

-- an access to bytes without the mark is open nowhere
pub none_unguarded : (s : Shade) (size : ℕ) (locks : List Lock) (context : ℕ) (guards : List Guard) (address width : ℕ) → length s.bytes ≡ size → AreShaded s guards
    → InRam size address width → width ≤ 4 → NoneBetween s GUARDED address (address + 4) → least_from (is_open locks context guards) address width ≡ None
none_unguarded s size locks context guards address width whole shaded within few none =
    least_none (is_open locks context guards) address width (λ n low high.
    let inside : InRam size n 1 = record { from = omega (arith, within.from, low); to = omega (arith, within.to, high) } in
    none_open s locks context n (has_byte_of s size n whole inside) (none n low (omega (arith, high, few))) guards shaded)
