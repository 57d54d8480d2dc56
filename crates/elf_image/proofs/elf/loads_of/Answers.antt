use Rattle.std.proofs.lemmas.Result.{err_from_is_err_and}
use Rattle.format_model.proofs.ImageSteps.{loads_on, loads_stop, loads_end}
use Rattle.elf_image.proofs.Refusals.{refused_by}
use Rattle.elf_image.proofs.elf.loads_of.Goals as goal

pub returns-in_err-add_load : goal.returns-in_err-add_load
returns-in_err-add_load c =
    let p = err_from_is_err_and c.from_residual.result c.from_residual.ensures.1 in
    rw (p.1, p.2)
    (refused_by c.in_err-add_load.field-0.0 _ _ (λ k stops. loads_stop c.loop-index.loads.items c.args.file.now c.args.size c.args.table.start c.args.table.count c.loop-index.index _ k c.loop-index-test.true stops c.loop-index.invariant)
    c.in_err-add_load.ensures)

pub loop-index-preserved : goal.loop-index-preserved
loop-index-preserved c =
    loads_on c.loop-index.loads.items _ c.args.file.now c.args.size c.args.table.start c.args.table.count c.loop-index.index _ c.loop-index-test.true c.in_ok-add_load.ensures c.loop-index.invariant

pub returns : goal.returns
returns c = loads_end c.loop-index.loads.items c.args.file.now c.args.size c.args.table.start c.args.table.count c.loop-index.index _ c.loop-index-test.false c.loop-index.invariant
