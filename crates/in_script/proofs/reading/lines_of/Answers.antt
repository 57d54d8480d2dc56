use Rattle.std.proofs.Common.{◌≡◌, ◌+◌, length, sym, ap, arith}
use Rattle.std.proofs.lemmas.Bool.{eqb-true}
use Rattle.format_model.specs.Script.{texts_of}
use Rattle.format_model.proofs.ScriptSteps.{line_read, line_refused, lines_end}
use Rattle.in_script.proofs.Refusals.{refused_at}
use Rattle.in_script.proofs.reading.lines_of.Goals as goal

pub returns-in-Err : goal.returns-in-Err
returns-in-Err c =
    rw c.at.ensures
    (refused_at c.in-Err.broken (c.loop-rest.number + 1) _ _ (λ k refused. line_refused c.loop-rest.draft (c.loop-rest.number + 1) (texts_of c.loop-rest.rest.now) c.first_line.result.0.now (texts_of c.first_line.result.1.now) k _ c.first_line.ensures refused c.loop-rest.invariant.so_far)
    c.in-Err.ensures)

pub loop-rest-preserved : goal.loop-rest-preserved
loop-rest-preserved c =
    let one : length (texts_of c.loop-rest.rest.now) ≡ length (texts_of c.first_line.result.1.now) + 1 = omega (arith, ap length c.first_line.ensures) in
    record {
      numbered = omega (arith, one, c.loop-rest.invariant.numbered);
      so_far = rw c.in-Ok-add.ensures (line_read c.loop-rest.draft (c.loop-rest.number + 1) (texts_of c.loop-rest.rest.now) c.first_line.result.0.now (texts_of c.first_line.result.1.now) _ _ c.first_line.ensures c.in-Ok.ensures c.loop-rest.invariant.so_far);
    }

pub returns : goal.returns
returns c = lines_end c.loop-rest.draft (c.loop-rest.number + 1) c.loop-rest.rest.now _ (eqb-true _ _ (sym c.loop-rest-test.ensures)) c.loop-rest.invariant.so_far
