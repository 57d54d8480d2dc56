use Rattle.std.proofs.Common.{refl, sym}
use Rattle.std.proofs.lemmas.Bool.{eqb-true, eqb-false}
use Rattle.std.proofs.lemmas.Result.{err_from_is_err_and}
use Rattle.std.proofs.lemmas.List.{take_rest}
use Rattle.format_model.proofs.ScriptSteps.{pair_read, pair_refused, pairs_end, half_pair}
use Rattle.in_script.proofs.Refusals.{refused_by}
use Rattle.in_script.proofs.hex.pairs_at.Goals as goal

pub returns-in_err-byte : goal.returns-in_err-byte
returns-in_err-byte c =
    let p = err_from_is_err_and c.from_residual-in_err-byte.result c.from_residual-in_err-byte.ensures.1 in
    rw (p.1, p.2)
    (refused_by c.in_err-byte.field-0.0 _ _ (λ k refused. pair_refused c.loop-rest.bytes.items c.loop-rest.rest.now _ _ _ k c.in-len2-up.len_at_least refl refl refused c.loop-rest.invariant)
    c.in_err-byte.ensures)

pub loop-rest-preserved : goal.loop-rest-preserved
loop-rest-preserved c = rw (take_rest, c.in_ok-push.ensures.items) (pair_read _ c.loop-rest.rest.now _ _ c.in_ok-byte.byte _ c.in-len2-up.len_at_least refl refl c.in_ok-byte.ensures c.loop-rest.invariant)

pub returns-then-is_empty : goal.returns-then-is_empty
returns-then-is_empty c = pairs_end c.loop-rest.bytes.items c.loop-rest.rest.now _ (eqb-true _ _ (sym c.if-is_empty.ensures)) c.loop-rest.invariant

pub returns-else-is_empty : goal.returns-else-is_empty
returns-else-is_empty c = half_pair c.loop-rest.bytes.items c.loop-rest.rest.now _ c.in_default.len_below (eqb-false _ _ (sym c.if-is_empty.ensures)) c.loop-rest.invariant
