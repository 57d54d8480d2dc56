use Rattle.std.proofs.Common.{◌≡◌, None, false, true, not, sym, ap, ◌∙◌}
use Rattle.run_events.specs.Announcement.{announced_by}
use Rattle.taint_marks.proofs.CalmLaws.{calm_word}
use Rattle.taint_marks.proofs.taint.Taint.is_calm.Goals.{then-not-may_announce, else-not-may_announce}
use Rattle.taint_marks.proofs.taint.Taint.is_calm.Goals as goal

pub returns-then-names_no_mark : goal.returns-then-names_no_mark
returns-then-names_no_mark c none =
    elim c.if-not-may_announce.branch [
      | then-not-may_announce w ↦
          let quiet : announced_by c.in-Exec.word c.in-Exec.told ≡ None = c.may_announce.ensures.none w.if-not-may_announce.true c.in-Exec.told in
          let registers = w.names_no_mark.ensures (sym w.value-is ∙ c.if-names_no_mark.true) in
          rw c.in-Exec.is (calm_word c.args.self.now c.in-Exec.word c.in-Exec.access registers (c.touches_no_mark.ensures none) c.in-Exec.step c.in-Exec.pc c.in-Exec.next c.in-Exec.result c.in-Exec.told quiet)
      | else-not-may_announce w ↦ absurd (let clash : false ≡ true = ap not (sym w.if-not-may_announce.false) ∙ sym w.value-is ∙ c.if-names_no_mark.true in cc)
    ]
