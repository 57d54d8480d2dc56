use Rattle.std.proofs.Common.{◌≡◌, ◌∷◌, ◌∙◌, drop, ap, arith, rules, sym}
use Rattle.std.proofs.lemmas.List.{drop-drop}
use Rattle.list_laws.proofs.PlaceLaws.{dropped-at}
use Rattle.analysis_model.specs.Cover.{CodeRange, runs}
use Rattle.coverage_map.specs.Coverage.{marked}
use Rattle.coverage_map.specs.Places.{marked_from_place}
use Rattle.coverage_map.proofs.PlaceLaws.{range_is_there}
use Rattle.coverage_map.proofs.ranges.find_range.Goals as goal

pub range_end-requires : goal.range_end-requires
range_end-requires c = c.loop-passed.invariant.found (range_is_there c.args.marks.now _ c.loop-passed.passed _ c.loop-passed.invariant.rest (omega (arith, c.requires.there)))

pub loop-passed-preserved : goal.loop-passed-preserved
loop-passed-preserved c = record {
  to = search rules;
  found = search rules;
  rest = sym (drop-drop 1 c.loop-passed.passed (runs (marked c.args.marks.now))) ∙ ap (drop 1) (c.loop-passed.invariant.rest ∙ c.range_end.ensures.range) ∙ ap runs c.next_marked-place-in-loop-passed.ensures.same;
}

pub range_end-requires-2 : goal.range_end-requires-2
range_end-requires-2 c = c.loop-passed.invariant.found (range_is_there c.args.marks.now _ c.loop-passed.passed _ c.loop-passed.invariant.rest (omega (arith, c.requires.there)))

pub returns : goal.returns
returns c =
    let all = runs (marked c.args.marks.now) in
    let behind = runs (marked_from_place c.args.marks.now c.range_end-2.result) in
    let range : CodeRange = record { from = c.address_of.result; to = c.address_of-2.result } in
    let done : c.loop-passed.passed ≡ c.args.index = omega arith in
    let front : drop c.args.index all ≡ range ∷ behind = rw (← done, c.address_of.ensures, c.address_of-2.ensures) (c.loop-passed.invariant.rest ∙ c.range_end-2.ensures.range) in
    dropped-at c.args.index all range behind front
