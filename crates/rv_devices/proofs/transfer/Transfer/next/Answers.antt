use Rattle.std.proofs.Common.{sym, ap, ◌∙◌, slice_get, drop, arith, subst}
use Rattle.rv_devices.specs.Sends.{Sends}
use Rattle.rv_devices.proofs.SendLaws.{none_left, first_left, sends_next}
use Rattle.rv_devices.proofs.transfer.Transfer.next.Goals as goal

pub returns-then-at-clause-next : goal.returns-then-at-clause-next
returns-then-at-clause-next c = λ words sends. sym (ap (λ l. slice_get l 0) (none_left words c.args.self.now (omega arith) sends))

pub returns-then-at-clause-sends : goal.returns-then-at-clause-sends
returns-then-at-clause-sends c = λ words sends. let e = none_left words c.args.self.now (omega arith) sends in subst (λ l. Sends l c.args.self.now) (e ∙ sym (ap (drop 1) e)) sends

pub returns-clause-next : goal.returns-clause-next
returns-clause-next c = λ words sends. rw c.word_at-word.ensures (first_left words c.args.self.now (omega arith) sends)

pub returns-clause-sends : goal.returns-clause-sends
returns-clause-sends c = λ words sends. sends_next words c.args.self.now (omega arith) sends
