-- An image that a file gives fits the RAM that it was read for.
use Rattle.std.proofs.Common.{◌≡◌, ℕ, zero, suc, ◌+◌, ◌*◌, ◌%◌, ◌<◌, ◌≤◌, ◌⊎◌, Bool, true, false, not, ◌&&◌, ◌||◌, cond, eqb, ltb, leb, List, [], ◌∷◌, ◌++◌, length, map, take, drop, Option, Some, None, Result, Ok, Err, refl, subst, arith, inl, inr}
use Rattle.std.specs.List.{AllByRecursion}
use Rattle.std.proofs.lemmas.Bool.{ltb-false, leb-true, eqb-true, and_parts, not-false}
use Rattle.std.proofs.lemmas.List.{length-take, map-append}
use Rattle.memory_map.specs.declared.TheConstants.{RAM_START}
use Rattle.memory_map.specs.Ram.{InRam, in_ram}
use Rattle.machine_model.specs.Image.{Segment, Image, IsLoadable, flat_image}
use Rattle.format_model.specs.Then.{◌>>=◌}
use Rattle.format_model.specs.ImageFile.{Fault, Short, SegmentShape, SegmentOutside, NoSegment, EntryOutside, field_at, is_elf, kind_in, table_in, Load, segment_at, load_at, with_front, loads_at, share, first_shared, clash, overlap_after, image_at, elf_in, image_in, SegmentFits, ApartAfter, ImageFits}

bind_ok : {A B : Type 0} (r : Result A Fault) (f : A → Result B Fault) (y : B) → (r >>= f) ≡ Ok y → (x : A) × (r ≡ Ok x) × (f x ≡ Ok y)
bind_ok (Ok x) f y e = (x, refl, e)
bind_ok (Err d) f y e = absurd cc

abbrev done : {A : Type 0} → A → Result A Fault
done x = Ok x

ok_is : {A : Type 0} (x y : A) → done x ≡ done y → x ≡ y
ok_is x y e = cc

passed_ok : {A : Type 0} (t : Bool) (d : Fault) (r : Result A Fault) (y : A) → cond t (Err d) r ≡ Ok y → (t ≡ false) × (r ≡ Ok y)
passed_ok true d r y e = absurd cc
passed_ok false d r y e = (refl, e)

either_of : {A : Type 0} (t : Bool) (x y z : A) → cond t x y ≡ z → ((t ≡ true) × (x ≡ z)) ⊎ ((t ≡ false) × (y ≡ z))
either_of true x y z e = inl (refl, e)
either_of false x y z e = inr (refl, e)

in_ram_is : (size address width : ℕ) → in_ram size address width ≡ true → InRam size address width
in_ram_is size address width e =
    let ends = and_parts (leb RAM_START address) (leb (address + width) (RAM_START + size)) e in
    record { from = leb-true RAM_START address ends.0; to = leb-true (address + width) (RAM_START + size) ends.1 }

-- ---- what is loaded

abbrev LoadsFit : ℕ → List Load → Type 0
LoadsFit size loads = AllByRecursion (λ load. SegmentFits size load.segment) loads

load_fits : (file : List ℕ) (size at index : ℕ) (here : List Load) → load_at file size at index ≡ Ok here → LoadsFit size here
unfolding load_at
load_fits file size at index here e =
    let wanted = field_at file (at + 20) 4 in
    let given = field_at file (at + 16) 4 in
    let offset = field_at file (at + 4) 4 in
    let address = field_at file (at + 12) 4 in
    let load : Load = record { index = index; segment = segment_at file at } in
    let last : Result (List Load) Fault = cond (not (in_ram size address wanted)) (Err (SegmentOutside index)) (Ok (load ∷ [])) in
    let second : Result (List Load) Fault = cond (ltb (length file) (offset + given)) (Err (Short (offset + given))) last in
    let first : Result (List Load) Fault = cond (ltb wanted given) (Err (SegmentShape index)) second in
    elim (either_of (not (eqb (field_at file at 4) 1) || eqb wanted 0) (Ok []) first (Ok here) e) [
      | inl t ↦ subst (LoadsFit size) (ok_is [] here t.1) tt
      | inr t ↦ let shape = passed_ok (ltb wanted given) (SegmentShape index) second here t.1 in
          let short = passed_ok (ltb (length file) (offset + given)) (Short (offset + given)) last here shape.1 in
          let outside = passed_ok (not (in_ram size address wanted)) (SegmentOutside index) (Ok (load ∷ [])) here short.1 in
          let within = in_ram_is size address wanted (not-false (in_ram size address wanted) outside.0) in
          let enough : given ≤ wanted = ltb-false wanted given shape.0 in
          let few : length (take given (drop offset file)) ≤ wanted = omega (arith, length-take given (drop offset file)) in
          subst (LoadsFit size) (ok_is (load ∷ []) here outside.1) (record { within = within; given = few }, tt)
    ]

fit_both : (size : ℕ) (here more : List Load) → LoadsFit size here → LoadsFit size more → LoadsFit size (here ++ more)
fit_both size [] more one other = other
fit_both size (load ∷ here) more one other = (one.0, fit_both size here more one.1 other)

loads_fit : (count : ℕ) (file : List ℕ) (size start index : ℕ) (loads : List Load) → loads_at count file size start index ≡ Ok loads → LoadsFit size loads
unfolding loads_at
loads_fit zero file size start index loads e = subst (LoadsFit size) (ok_is [] loads e) tt
loads_fit (suc count) file size start index loads e =
    let here = bind_ok (load_at file size (start + 32 * index) index) (λ here. with_front here (loads_at count file size start (index + 1))) loads e in
    let more = bind_ok (loads_at count file size start (index + 1)) (λ more. Ok (here.0 ++ more)) loads here.2 in
    subst (LoadsFit size) (ok_is (here.0 ++ more.0) loads more.2)
    (fit_both size here.0 more.0 (load_fits file size (start + 32 * index) index here.0 here.1) (loads_fit count file size start (index + 1) more.0 more.1))

abbrev segments_of : List Load → List Segment
segments_of loads = map (λ (load : Load). load.segment) loads

segments_fit : (size : ℕ) (loads : List Load) → LoadsFit size loads → AllByRecursion (SegmentFits size) (segments_of loads)
segments_fit size [] fits = tt
segments_fit size (load ∷ loads) fits = (fits.0, segments_fit size loads fits.1)

-- ---- apart

none_shared : (segment : Segment) (before : List Load) → first_shared segment before ≡ None → AllByRecursion (λ other. share other segment ≡ false) (segments_of before)
none_shared segment [] e = tt
none_shared segment (load ∷ before) e =
    elim (either_of (share load.segment segment) (Some load.index) (first_shared segment before) None e) [
      | inl t ↦ absurd (let some : Some load.index ≡ None = t.1 in cc)
      | inr t ↦ (t.0, none_shared segment before t.1)
    ]

no_clash : (o : Option ℕ) (second : ℕ) (later : Result (Unit {0}) Fault) → clash o second later ≡ Ok tt → (o ≡ None) × (later ≡ Ok tt)
no_clash None second later e = (refl, e)
no_clash (Some first) second later e = absurd cc

apart_found : (before loads : List Load) → overlap_after before loads ≡ Ok tt → ApartAfter (segments_of before) (segments_of loads)
unfolding overlap_after
apart_found before [] e = tt
apart_found before (load ∷ loads) e =
    let alone = no_clash (first_shared load.segment before) load.index (overlap_after (before ++ load ∷ []) loads) e in
    let later = apart_found (before ++ load ∷ []) loads alone.1 in
    (none_shared load.segment before alone.0, subst (λ (b : List Segment). ApartAfter b (segments_of loads)) (map-append (λ (l : Load). l.segment) before (load ∷ [])) later)

-- ---- images

loadable : (size : ℕ) (segments : List Segment) → AllByRecursion (SegmentFits size) segments → IsLoadable size segments
loadable size [] fits = tt
loadable size (segment ∷ segments) fits =
    (record { from = fits.0.within.from; to = omega (arith, fits.0.within.to, fits.0.given) }, loadable size segments fits.1)

image_fits : (size : ℕ) (file : List ℕ) (loads : List Load) (image : Image) → LoadsFit size loads → ApartAfter [] (segments_of loads) → image_at file size loads ≡ Ok image → ImageFits size image
unfolding image_at
image_fits size file loads image fits apart e =
    let entry = field_at file 24 4 in
    let made : Image = record { entry = entry; segments = segments_of loads } in
    let some = passed_ok (eqb (length loads) 0) NoSegment (cond (not (in_ram size entry 1 && eqb (entry % 4) 0)) (Err EntryOutside) (Ok made)) image e in
    let starts = passed_ok (not (in_ram size entry 1 && eqb (entry % 4) 0)) EntryOutside (Ok made) image some.1 in
    let parts = and_parts (in_ram size entry 1) (eqb (entry % 4) 0) (not-false (in_ram size entry 1 && eqb (entry % 4) 0) starts.0) in
    let segments = segments_fit size loads fits in
    subst (ImageFits size) (ok_is made image starts.1)
    (record { segments = segments; apart = apart; loadable = loadable size (segments_of loads) segments; entry = in_ram_is size entry 1 parts.0; aligned = eqb-true (entry % 4) 0 parts.1 })

elf_fits : (size : ℕ) (file : List ℕ) (image : Image) → elf_in size file ≡ Ok image → ImageFits size image
unfolding elf_in
elf_fits size file image e =
    let long = passed_ok (ltb (length file) 52) (Short 52) (kind_in file >>= λ kind. table_in file >>= λ table. loads_at table.count file size table.start 0 >>= λ loads. overlap_after [] loads >>= λ apart. image_at file size loads) image e in
    let kind = bind_ok (kind_in file) (λ kind. table_in file >>= λ table. loads_at table.count file size table.start 0 >>= λ loads. overlap_after [] loads >>= λ apart. image_at file size loads) image long.1 in
    let table = bind_ok (table_in file) (λ table. loads_at table.count file size table.start 0 >>= λ loads. overlap_after [] loads >>= λ apart. image_at file size loads) image kind.2 in
    let loads = bind_ok (loads_at table.0.count file size table.0.start 0) (λ loads. overlap_after [] loads >>= λ apart. image_at file size loads) image table.2 in
    let apart = bind_ok (overlap_after [] loads.0) (λ apart. image_at file size loads.0) image loads.2 in
    image_fits size file loads.0 image (loads_fit table.0.count file size table.0.start 0 loads.0 loads.1) (apart_found [] loads.0 apart.1) apart.2

flat_fits : (size : ℕ) (file : List ℕ) → 0 < size → length file ≤ size → ImageFits size (flat_image file)
flat_fits size file some few =
    let within : InRam size RAM_START (length file) = record { from = omega arith; to = omega arith } in
    record { segments = (record { within = within; given = omega arith }, tt); apart = (tt, tt); loadable = (within, tt); entry = record { from = omega arith; to = omega arith }; aligned = refl }

pub read_fits : (ram_kib : ℕ) (file : List ℕ) (image : Image) → 0 < ram_kib → image_in ram_kib file ≡ Ok image → ImageFits (1024 * ram_kib) image
unfolding image_in
read_fits ram_kib file image some e =
    let size = 1024 * ram_kib in
    let flat : Result Image Fault = cond (ltb size (length file)) (Err (SegmentOutside 0)) (Ok (flat_image file)) in
    elim (either_of (is_elf file) (elf_in size file) flat (Ok image) e) [
      | inl t ↦ elf_fits size file image t.1
      | inr t ↦ let few = passed_ok (ltb size (length file)) (SegmentOutside 0) (Ok (flat_image file)) image t.1 in
          subst (ImageFits size) (ok_is (flat_image file) image few.1) (flat_fits size file (omega arith) (ltb-false size (length file) few.0))
    ]
