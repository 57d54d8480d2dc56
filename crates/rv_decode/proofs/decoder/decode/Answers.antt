use Rattle.std.proofs.Common.{sym, subst, ◌≡◌}
use Rattle.std.specs.Prelude.{IfSome}
use Rattle.rv_decode.specs.Valid.{IsValid}
use Rattle.rv_decode.specs.Words.{encoded}
use Rattle.rv_decode.proofs.ApartLaws.{one_row}
use Rattle.rv_decode.proofs.RowLaws.{valid_reading, back_reading}
use Rattle.rv_decode.proofs.decoder.decode.Goals as goal

pub returns-clause-once : goal.returns-clause-once
returns-clause-once c = one_row c.args.word

pub returns-clause-valid : goal.returns-clause-valid
returns-clause-valid c = subst (λ o. IfSome o IsValid) (sym c.by_opcode.ensures) (valid_reading c.args.word c.ranges.word.fits)

pub returns-clause-back : goal.returns-clause-back
returns-clause-back c = subst (λ o. IfSome o (λ i. encoded i ≡ c.args.word)) (sym c.by_opcode.ensures) (back_reading c.args.word c.ranges.word.fits)
