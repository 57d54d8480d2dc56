use Rattle.std.proofs.Common.{Result, Err, sym, ◌∙◌, ap}
use Rattle.format_model.specs.ImageFile.{Fault, Overlap, Load}
use Rattle.format_model.proofs.ImageSteps.{apart_on, apart_stops, apart_end}
use Rattle.elf_image.proofs.elf.apart.Goals as goal

pub returns-in-Some : goal.returns-in-Some
returns-in-Some c =
    let clash : Load → Result (Unit {0}) Fault = λ load. Err (Overlap c.in-Some.first load.index) in
    apart_stops c.args.loads.now c.loop-i.i c.index-loads-i.result c.in-Some.first _ c.loop-i-test.true c.index-loads-i.is (sym c.in-Some.ensures) c.loop-i.invariant ∙ ap clash (sym c.load.view_is)

pub loop-i-preserved : goal.loop-i-preserved
loop-i-preserved c =
    apart_on c.args.loads.now c.loop-i.i c.index-loads-i.result _ c.loop-i-test.true c.index-loads-i.is (sym c.in-None.ensures) c.loop-i.invariant

pub returns : goal.returns
returns c = apart_end c.args.loads.now c.loop-i.i _ c.loop-i-test.false c.loop-i.invariant
