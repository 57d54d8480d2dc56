-- Values of the shadow and the uses that they stand for, tested and painted.
use Rattle.std.proofs.Common.{◌≡◌, ◌≢◌, ℕ, ◌+◌, ◌-◌, ◌*◌, ◌%◌, ◌^◌, ◌==◌, ◌<◌, ◌≤◌, min, max, not, Bool, true, false, cond, Option, None, Some, length, unwrap_or, refl, sym, ap, ◌∙◌, arith}
use Rattle.std.specs.Prelude.{IfSome, IfNone}
use Rattle.std.specs.Int.Bits.{bit_and}
use Rattle.std.proofs.lemmas.Bool.Decides.{nat_tests}
use Rattle.std.proofs.lemmas.Nat.{and_mask}
use Rattle.memory_map.specs.declared.TheConstants.{RAM_START}
use Rattle.list_laws.specs.Least.{least_from}
use Rattle.list_laws.proofs.LeastLaws.{least_none}
use Rattle.run_events.specs.declared.announcement.Announcement.{Announcement}
use Rattle.run_events.specs.declared.announcement.Announcement.TheVariants.{Allocate, Free, Acquire, Release, Enter, Check, Guard}
use Rattle.analysis_model.specs.Heap.{Plain, Live, Red, Freed, is_forbidden, is_live, use_made}
use Rattle.analysis_model.specs.InRam.{least_in_ram}
use Rattle.shadow_state.specs.Shade.{Shade, shade, has_byte, covers, painted, IsLeast, NoneBetween}
use Rattle.shadow_state.proofs.LeastLaws.{Tests, searched, searched_in_ram}
use Rattle.shadow_state.proofs.PaintLaws.{length-painted_from, painted-at, has_byte-painted}
use Rattle.redzones.specs.declared.zones.TheConstants.{LIVE, RED, FREED, FORBIDDEN, NOT_LIVE}
use Rattle.redzones.specs.Zones.{use_coded, use_in, painted_by}

forbidden_clear : (b8 b4 b2 : Bool) → b4 ≡ true → is_forbidden (cond b8 Live (cond b4 Plain (cond b2 Freed Red))) ≡ false
forbidden_clear true b4 b2 is = refl
forbidden_clear false true b2 is = refl
forbidden_clear false false b2 is = cc

forbidden_has : (b8 b4 b2 : Bool) → b8 ≡ false → b4 ≡ false → is_forbidden (cond b8 Live (cond b4 Plain (cond b2 Freed Red))) ≡ true
forbidden_has false false true low is = refl
forbidden_has false false false low is = refl
forbidden_has false true b2 low is = cc
forbidden_has true b4 b2 low is = cc

dead_clear : (b8 b4 b2 : Bool) → b8 ≡ true → not (is_live (cond b8 Live (cond b4 Plain (cond b2 Freed Red)))) ≡ false
dead_clear true b4 b2 is = refl
dead_clear false b4 b2 is = cc

dead_has : (b8 b4 b2 : Bool) → b8 ≡ false → not (is_live (cond b8 Live (cond b4 Plain (cond b2 Freed Red)))) ≡ true
dead_has false true b2 is = refl
dead_has false false true is = refl
dead_has false false false is = refl
dead_has true b4 b2 is = cc

zero_test : (n : ℕ) → n ≡ 0 → (n == 0) ≡ true
zero_test n is = grind (arith, nat_tests)

other_test : (n : ℕ) → n ≢ 0 → (n == 0) ≡ false
other_test n is = grind (arith, nat_tests)

quarter : (v : ℕ) → v % 4 ≢ 0 → v % 8 ≢ 0
quarter v is low = is (omega arith)

clear_use : (v : ℕ) → bit_and v FORBIDDEN ≡ 0 → is_forbidden (use_coded v) ≡ false
clear_use v is = forbidden_clear (v % 8 == 0) (v % 4 == 0) (v % 2 == 0) (zero_test (v % 4) (sym (and_mask v 2) ∙ is))

pub forbidden_tests : Tests FORBIDDEN (λ v. is_forbidden (use_coded v))
forbidden_tests = record {
  clear = λ v byte is. clear_use v is;
  has = λ v is.
      let low : v % 4 ≢ 0 = λ e. is (and_mask v 2 ∙ e) in
      forbidden_has (v % 8 == 0) (v % 4 == 0) (v % 2 == 0) (other_test (v % 8) (quarter v low)) (other_test (v % 4) low);
}

pub dead_tests : Tests NOT_LIVE (λ v. not (is_live (use_coded v)))
dead_tests = record {
  clear = λ v byte is. dead_clear (v % 8 == 0) (v % 4 == 0) (v % 2 == 0) (zero_test (v % 8) (sym (and_mask v 3) ∙ is));
  has = λ v is. dead_has (v % 8 == 0) (v % 4 == 0) (v % 2 == 0) (other_test (v % 8) (λ e. is (and_mask v 3 ∙ e)));
}

-- what the searches of the shadow give
pub forbidden_found : (s : Shade) (from len to : ℕ) (o : Option ℕ) → to ≡ from + len → ((a : ℕ) → shade s a < 2 ^ 8) → IfSome o (IsLeast s from to FORBIDDEN) → IfNone o (NoneBetween s FORBIDDEN from to) → o ≡ least_from (λ a. is_forbidden (use_in s a)) from len
forbidden_found s from len to o end bytes some none =
    let length_is : to - from ≡ len = omega arith in
    searched s bytes FORBIDDEN (λ v. is_forbidden (use_coded v)) forbidden_tests from to o some none ∙ ap (least_from (λ a. is_forbidden (use_in s a)) from) length_is

pub forbidden_none : (s : Shade) (from len : ℕ) → len ≤ 4 → NoneBetween s FORBIDDEN from (from + 4) → least_from (λ a. is_forbidden (use_in s a)) from len ≡ None
forbidden_none s from len few none = least_none (λ a. is_forbidden (use_in s a)) from len (λ n low high. clear_use (shade s n) (none n low (omega (arith, few, high))))

pub dead_found : (s : Shade) (kib from to : ℕ) (o : Option ℕ) → length s.bytes ≡ 1024 * kib → ((a : ℕ) → shade s a < 2 ^ 8) → IfSome o (IsLeast s from to NOT_LIVE) → IfNone o (NoneBetween s NOT_LIVE from to) → o ≡ least_in_ram kib (λ a. not (is_live (use_in s a))) from to
dead_found s kib from to o whole bytes some none =
    searched_in_ram s bytes NOT_LIVE (λ v. not (is_live (use_coded v))) dead_tests from to o some none
    ∙ ap (λ n. least_from (λ a. not (is_live (use_in s a))) (max from RAM_START) (min to (RAM_START + n) - max from RAM_START)) whole

-- a paint leaves the size
pub length-painted_by : (s : Shade) (told : Option Announcement) → length (painted_by s told).bytes ≡ length s.bytes
length-painted_by s None = refl
length-painted_by s (Some (Allocate start size)) = length-painted_from RAM_START start (start + size) LIVE (painted s (start - 16) (start + size + 16) RED).bytes ∙ length-painted_from RAM_START (start - 16) (start + size + 16) RED s.bytes
length-painted_by s (Some (Free start size)) = length-painted_from RAM_START start (start + size) FREED s.bytes
length-painted_by s (Some (Acquire lock)) = refl
length-painted_by s (Some (Release lock)) = refl
length-painted_by s (Some (Enter context)) = refl
length-painted_by s (Some (Check start size)) = refl
length-painted_by s (Some (Guard start size lock)) = refl

-- and gives each byte of RAM the use that is announced
twice : (inside around : Bool) (value : ℕ) → use_coded (cond inside LIVE (cond around RED value)) ≡ unwrap_or (cond inside (Some Live) (cond around (Some Red) None)) (use_coded value)
twice true around value = refl
twice false true value = refl
twice false false value = refl

once : (inside : Bool) (value : ℕ) → use_coded (cond inside FREED value) ≡ unwrap_or (cond inside (Some Freed) None) (use_coded value)
once true value = refl
once false value = refl

pub painted_by-use : (s : Shade) (told : Option Announcement) (address : ℕ) → has_byte s address ≡ true → use_in (painted_by s told) address ≡ unwrap_or (use_made told address) (use_in s address)
painted_by-use s None address there = refl
painted_by-use s (Some (Allocate start size)) address there =
    let wide = painted s (start - 16) (start + size + 16) RED in
    let still : has_byte wide address ≡ true = has_byte-painted s (start - 16) (start + size + 16) RED address ∙ there in
    ap use_coded (painted-at wide start (start + size) LIVE address still ∙ ap (λ v. cond (covers start (start + size) address) LIVE v) (painted-at s (start - 16) (start + size + 16) RED address there))
    ∙ twice (covers start (start + size) address) (covers (start - 16) (start + size + 16) address) (shade s address)
painted_by-use s (Some (Free start size)) address there = ap use_coded (painted-at s start (start + size) FREED address there) ∙ once (covers start (start + size) address) (shade s address)
painted_by-use s (Some (Acquire lock)) address there = refl
painted_by-use s (Some (Release lock)) address there = refl
painted_by-use s (Some (Enter context)) address there = refl
painted_by-use s (Some (Check start size)) address there = refl
painted_by-use s (Some (Guard start size lock)) address there = refl
