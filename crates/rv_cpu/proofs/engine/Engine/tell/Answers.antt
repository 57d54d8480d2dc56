-- The event is that of the step.
use Rattle.std.proofs.Common.{◌+◌, ap}
use Rattle.run_events.specs.declared.event.Event.TheVariants.{Exec}
use Rattle.run_events.specs.declared.access.Access.TheVariants as access
use Rattle.hart_model.specs.Operations.{sum}
use Rattle.hart_model.specs.State.{State}
use Rattle.rv_cpu.specs.Batch.{from}
use Rattle.rv_cpu.specs.Midway.{at}
use Rattle.rv_cpu.specs.Told.{told_midway}
use Rattle.rv_cpu.specs.declared.done.Done.{Done}
use Rattle.rv_cpu.proofs.engine.Engine.tell.Goals as goal
use Rattle.rv_cpu.proofs.engine.Engine.tell.Goals.{in-Quiet, in-Accessed}

pub show-requires : goal.show-requires
show-requires g c =
    let s = c.args.self.now in
    elim c.match-done.branch [
      | in-Quiet w ↦
          rw (w.result-is, ap (λ (u : State). u.pc) c.self-2.view_is)
          (c.requires.fits (Exec (s.step + c.args.behind) s.pc c.args.word w.in-Quiet.next w.in-Quiet.result access.Quiet c.args.told) (from s w.in-Quiet.next)
          (ap (λ (d : Done). told_midway c.args.behind c.args.told c.args.word (at 4 d s)) w.in-Quiet.is))
      | in-Accessed w ↦
          rw (w.result-is, ap (λ (u : State). u.pc) c.self-2.view_is)
          (c.requires.fits (Exec (s.step + c.args.behind) s.pc c.args.word (sum s.pc 4) w.in-Accessed.result w.in-Accessed.access c.args.told) (from s (sum s.pc 4))
          (ap (λ (d : Done). told_midway c.args.behind c.args.told c.args.word (at 4 d s)) w.in-Accessed.is))
    ]
