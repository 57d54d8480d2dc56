-- Marks, as they are given and kept.
use Rattle.std.proofs.Common.{◌≡◌, ◌≢◌, ℕ, zero, suc, ◌+◌, ◌-◌, ◌*◌, ◌^◌, ◌==◌, ◌<◌, ◌&&◌, not, min, max, Bool, true, false, cond, List, length, get_or, set, replicate, unwrap_or, Option, None, Some, refl, sym, ap, ◌∙◌, arith}
use Rattle.std.specs.Prelude.{IfSome, IfNone}
use Rattle.std.specs.Int.Bits.{bit_and, bit_or}
use Rattle.std.specs.Option.{option_map}
use Rattle.std.proofs.lemmas.Bool.Decides.{nat_tests}
use Rattle.std.proofs.lemmas.List.{get_or-set_same, get_or-set_other, length-set}
use Rattle.std.proofs.lemmas.Nat.{and_le_r, and_mask, or_disjoint}
use Rattle.memory_map.specs.declared.TheConstants.{RAM_START}
use Rattle.list_laws.specs.Least.{is_between, least_from}
use Rattle.run_events.specs.declared.access.Access.{Access}
use Rattle.run_events.specs.declared.access.Access.TheVariants as access
use Rattle.analysis_model.specs.InRam.{least_in_ram}
use Rattle.analysis_model.specs.Taint.{Place, Register, Scratch, Byte, IsPlace, Sources, is_general, is_marked, bytes_from, union_of, mark_of, mark_or, sources_in, writes_bytes}
use Rattle.analysis_model.specs.Taint as model
use Rattle.finding_tally.specs.Tallied.{Tallied}
use Rattle.shadow_state.specs.Shade.{Shade, shade, has_byte, IsLeast, NoneBetween}
use Rattle.shadow_state.proofs.LeastLaws.{Tests, searched_in_ram}
use Rattle.shadow_state.proofs.PaintLaws.{painted-at, length-painted_from}
use Rattle.shadow_state.proofs.SizeLaws.{has_byte_of}
use Rattle.taint_marks.specs.Marked.{given_stored, marked_by}
use Rattle.taint_marks.specs.Marks.{Marks, mark_now, registers_with, shade_with, with_given}

pub or_nothing : (mark : ℕ) → bit_or mark 0 ≡ mark
or_nothing mark =
    let apart : bit_and mark 0 ≡ 0 = omega (arith, and_le_r mark 0) in
    or_disjoint mark 0 apart ∙ plus_zero mark
  where
    plus_zero : (n : ℕ) → n + 0 ≡ n
    plus_zero n = omega arith

-- what an access stores has the mark of its sources
pub marked_by_stored : (marks : Place → ℕ) (access : Access) (sources : Sources) → marked_by marks (writes_bytes access sources) ≡ given_stored access (mark_of marks sources)
marked_by_stored marks access.Quiet sources = refl
marked_by_stored marks (access.Load address width value device mark) sources = refl
marked_by_stored marks (access.Store address width value true) sources = refl
marked_by_stored marks (access.Store address width value false) sources = refl
marked_by_stored marks (access.Swap address old new) sources = refl

-- a search for any bit finds the least marked byte
marked_test : (v : ℕ) → v < 2 ^ 8 → bit_and v 255 ≡ 0 → not (v == 0) ≡ false
marked_test v byte is = let low = and_mask v 8 in zero_test v (omega (arith, low, is, byte))
  where
    zero_test : (n : ℕ) → n ≡ 0 → not (n == 0) ≡ false
    zero_test n e = grind (arith, nat_tests)

unmarked_test : (v : ℕ) → bit_and v 255 ≢ 0 → not (v == 0) ≡ true
unmarked_test v is = other_test v (λ e. is (ap (λ n. bit_and n 255) e))
  where
    other_test : (n : ℕ) → n ≢ 0 → not (n == 0) ≡ true
    other_test n e = grind (arith, nat_tests)

marked_tests : Tests 255 is_marked
marked_tests = record { clear = marked_test; has = unmarked_test }

pub marked_found : (s : Shade) (kib from to : ℕ) (o : Option ℕ) → length s.bytes ≡ 1024 * kib → ((a : ℕ) → shade s a < 2 ^ 8) → IfSome o (IsLeast s from to 255) → IfNone o (NoneBetween s 255 from to) → o ≡ least_in_ram kib (λ a. is_marked (shade s a)) from to
marked_found s kib from to o whole bytes some none =
    searched_in_ram s bytes 255 is_marked marked_tests from to o some none
    ∙ ap (λ n. least_from (λ a. is_marked (shade s a)) (max from RAM_START) (min to (RAM_START + n) - max from RAM_START)) whole

-- a place that is written has the new mark, and each other keeps its own

register_at : (registers : List ℕ) (n rd mark : ℕ) → length registers ≡ 32 → get_or (cond (is_general rd) (set registers rd mark) registers) n 0 ≡ cond (n == rd && is_general n) mark (get_or registers n 0)
register_at registers n rd mark whole = by_case (n == rd) refl (is_general rd) refl
  where
    by_case : (b : Bool) → (n == rd) ≡ b → (g : Bool) → is_general rd ≡ g → get_or (cond g (set registers rd mark) registers) n 0 ≡ cond (b && is_general n) mark (get_or registers n 0)
    by_case true same true general =
        let at : n ≡ rd = grind (arith, same) in
        let small : rd < length registers = grind (arith, general, whole) in
        let here : is_general n ≡ true = ap is_general at ∙ general in
        ap (λ k. get_or (set registers rd mark) k 0) at ∙ get_or-set_same registers rd mark 0 small ∙ ap (λ t. cond t mark (get_or registers n 0)) (sym here)
    by_case true same false general =
        let at : n ≡ rd = grind (arith, same) in
        let here : is_general n ≡ false = ap is_general at ∙ general in
        ap (λ t. cond t mark (get_or registers n 0)) (sym here)
    by_case false same true general =
        let apart : n ≢ rd = grind (arith, same) in
        get_or-set_other registers rd n mark 0 apart
    by_case false same false general = refl

module _ (marks : Place → ℕ) (place : Place) where
  mark_or-none : (b : Bool) → mark_or marks (cond b None None) place ≡ marks place
  mark_or-none true = refl
  mark_or-none false = refl

  mark_or-some : (b : Bool) (sources : Sources) → mark_or marks (cond b (Some sources) None) place ≡ cond b (mark_of marks sources) (marks place)
  mark_or-some true sources = refl
  mark_or-some false sources = refl

module _ (m : Marks) (found : Tallied) (writes : model.Writes) where
  register_mark : (n : ℕ) → length m.registers ≡ 32 → (o : Option Sources) → get_or (registers_with m.registers writes.rd (option_map (mark_of (mark_now m)) o)) n 0 ≡ mark_or (mark_now m) (cond (n == writes.rd && is_general n) o None) (Register n)
  register_mark n whole None = sym (mark_or-none (mark_now m) (Register n) (n == writes.rd && is_general n))
  register_mark n whole (Some sources) =
      register_at m.registers n writes.rd (mark_of (mark_now m) sources) whole
      ∙ sym (mark_or-some (mark_now m) (Register n) (n == writes.rd && is_general n) sources)

  scratch_mark : (o : Option Sources) → unwrap_or (option_map (mark_of (mark_now m)) o) m.scratch ≡ mark_or (mark_now m) o Scratch
  scratch_mark None = refl
  scratch_mark (Some sources) = refl

  byte_mark : (a : ℕ) → has_byte m.shade a ≡ true → (o : Option Sources) → shade (shade_with m.shade writes.address writes.width (option_map (mark_of (mark_now m)) o)) a ≡ mark_or (mark_now m) (cond (is_between writes.address (writes.address + writes.width) a) o None) (Byte a)
  byte_mark a there None = sym (mark_or-none (mark_now m) (Byte a) (is_between writes.address (writes.address + writes.width) a))
  byte_mark a there (Some sources) =
      painted-at m.shade writes.address (writes.address + writes.width) (mark_of (mark_now m) sources) a there
      ∙ sym (mark_or-some (mark_now m) (Byte a) (is_between writes.address (writes.address + writes.width) a) sources)

  pub marks-given : length m.registers ≡ 32 → length m.shade.bytes ≡ 1024 * m.ram_kib → (place : Place) → IsPlace m.ram_kib place → mark_now (record (with_given m (marked_by (mark_now m) writes)) { found = found }) place ≡ mark_or (mark_now m) (sources_in writes place) place
  marks-given whole size (Register n) is = register_mark n whole writes.result
  marks-given whole size Scratch is = scratch_mark writes.scratch
  marks-given whole size (Byte a) is = byte_mark a (has_byte_of m.shade (1024 * m.ram_kib) a size is) writes.stored

-- sizes stay
pub length-registers_with : (registers : List ℕ) (rd : ℕ) (mark : Option ℕ) → length (registers_with registers rd mark) ≡ length registers
length-registers_with registers rd None = refl
length-registers_with registers rd (Some mark) = by_test (is_general rd)
  where
    by_test : (b : Bool) → length (cond b (set registers rd mark) registers) ≡ length registers
    by_test true = length-set registers rd mark
    by_test false = refl

pub length-shade_with : (s : Shade) (address width : ℕ) (mark : Option ℕ) → length (shade_with s address width mark).bytes ≡ length s.bytes
length-shade_with s address width None = refl
length-shade_with s address width (Some mark) = length-painted_from RAM_START address (address + width) mark s.bytes

-- the marks of a range, from one byte further in front
pub bytes_more : (marks : Place → ℕ) (address width i mark : ℕ) → i < width → mark ≡ union_of marks (bytes_from (address + (i + 1)) (width - (i + 1))) → bit_or (marks (Byte (address + i))) mark ≡ union_of marks (bytes_from (address + i) (width - i))
bytes_more marks address width i mark less is =
    let one : width - i ≡ suc (width - (i + 1)) = omega arith in
    let next : address + (i + 1) ≡ address + i + 1 = omega arith in
    ap (bit_or (marks (Byte (address + i)))) (is ∙ ap (λ a. union_of marks (bytes_from a (width - (i + 1)))) next)
    ∙ ap (λ n. union_of marks (bytes_from (address + i) n)) (sym one)

-- at first nothing is marked
pub zeros : (count n : ℕ) → ◌≡◌ {A = ℕ} (get_or (replicate count 0) n 0) 0
zeros zero n = refl
zeros (suc count) zero = refl
zeros (suc count) (suc n) = zeros count n
