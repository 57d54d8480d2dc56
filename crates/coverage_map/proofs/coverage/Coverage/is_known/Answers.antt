use Rattle.std.proofs.Common.{◌≡◌, ◌-◌, ◌/◌, ◌<◌, false, true, length, get_or, subst, sym, ap, ◌∙◌, arith}
use Rattle.std.proofs.lemmas.List.{get_or_default}
use Rattle.memory_map.specs.declared.TheConstants.{RAM_START}
use Rattle.coverage_map.specs.Coverage.{Covered, AreKnown}
use Rattle.coverage_map.proofs.KnownLaws.{known_is_code}
use Rattle.coverage_map.proofs.coverage.Coverage.is_known.Goals as goal

pub returns-clause-code : goal.returns-clause-code
returns-clause-code c known =
    let words = c.self.inside.known.items in
    let place = c.place_of.result in
    let size = ap (λ (s : Covered). s.ram_kib) c.self.view_is in
    let room : place < length words = omega (arith, c.place_of.ensures, c.requires.within.from, c.requires.within.to, size, c.self.invariant.2) in
    let there : get_or words ((c.args.pc - RAM_START) / 4) false ≡ true = ap (λ n. get_or words n false) (sym c.place_of.ensures) ∙ get_or_default words place false c.index.result.now room ∙ sym c.index.ensures ∙ known in
    let all = subst (λ (s : Covered). AreKnown words s.marks s.code) c.self.view_is c.self.invariant.3 in
    known_is_code c.args.self.now words c.args.pc c.requires all there
