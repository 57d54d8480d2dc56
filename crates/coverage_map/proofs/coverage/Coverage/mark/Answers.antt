use Rattle.std.proofs.Common.{◌≡◌, ◌+◌, ◌*◌, ◌<◌, true, length, sym, ap, ◌∙◌, arith}
use Rattle.std.proofs.lemmas.List.{length-set}
use Rattle.memory_map.specs.declared.TheConstants.{RAM_START}
use Rattle.analysis_model.specs.Cover.{is_within}
use Rattle.analysis_model.specs.Made.{ranges_made_of}
use Rattle.coverage_map.specs.Coverage.{Covered, area_numbers}
use Rattle.coverage_map.proofs.KnownLaws.{known_more}
use Rattle.coverage_map.proofs.coverage.Coverage.mark.Goals as goal

pub invariant_of-self : goal.invariant_of-self
invariant_of-self c =
    let inside = c.self.inside in
    let place = c.place_of-place.result in
    let at : RAM_START + 4 * place ≡ c.args.pc = omega (arith, c.place_of-place.ensures, c.requires.aligned, c.requires.within.from) in
    let size = ap (λ (s : Covered). s.ram_kib) c.self.view_is in
    let room : place < length inside.marks.items = omega (arith, c.place_of-place.ensures, c.requires.within.from, c.requires.within.to, size, c.self.invariant.1) in
    let within =
    ap (is_within (ranges_made_of (area_numbers inside.code.items))) at ∙ ap (λ code. is_within (ranges_made_of (area_numbers code)) c.args.pc) (sym c.deref.ensures.value)
    ∙ sym c.is_code.ensures
    ∙ c.if-is_code.true in
    (c.self.invariant.0, length-set inside.marks.items place true ∙ c.self.invariant.1, length-set inside.known.items place true ∙ c.self.invariant.2, known_more inside.known.items inside.marks.items inside.code.items place room c.self.invariant.3 within)
