use Rattle.std.proofs.Common.{sym, ◌∙◌, ap, arith}
use Rattle.run_events.specs.Record.{is_next_dma}
use Rattle.run_events.proofs.SequenceLaws.{first_dma}
use Rattle.run_events.proofs.sequence.words_with.Goals as goal

pub returns-then-is_dma : goal.returns-then-is_dma
returns-then-is_dma c = λ before ordered is words admitted. first_dma c.args.r.now before ordered admitted (grind (arith, c.is_dma.ensures, c.if-is_dma.true)) (ap (λ l. is_next_dma l c.args.r.now) (sym is) ∙ sym c.is_next_dma.ensures ∙ c.if-is_next_dma.false)
