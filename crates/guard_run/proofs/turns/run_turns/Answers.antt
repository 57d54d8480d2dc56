use Rattle.std.proofs.Common.{subst, take}
use Rattle.std.proofs.lemmas.Result.{on_err_weaker, on_ok_weaker}
use Rattle.after_edge.specs.Sink.{Adds, Writes}
use Rattle.guard_run.specs.Jobs.{course_of}
use Rattle.guard_run.proofs.CourseLaws.{course_let_out, course_released}
use Rattle.guard_run.proofs.OpeningLaws.{still_replicas}
use Rattle.guard_run.proofs.turns.run_turns.Goals as goal

pub returns-clause-ok : goal.returns-clause-ok
returns-clause-ok g c = on_ok_weaker c.run_turns.result (λ ends job opened.
    let ended = ends (course_of job opened.places) opened.opened in
    record {
      ended = record {
        places = opened.places;
        replicas = still_replicas job opened.places c.args.parts.now.run.followers.items c.run_turns.new.parts.followers.items opened.replicas c.run_turns.ensures.made;
        ended = ended.ended;
      };
      put = subst (Writes g.O.Sink.told c.args.out.now c.run_turns.new.out) (course_released job opened.places opened.replicas.runnable.marked opened.replicas.required) ended.put;
    }) c.run_turns.ensures.ok

pub returns-clause-err : goal.returns-clause-err
returns-clause-err g c = on_err_weaker c.run_turns.result (λ stops job opened.
    let stopped = stops (course_of job opened.places) opened.opened in
    record {
      count = stopped.count;
      put = stopped.put;
      stopped = record {
        places = opened.places;
        replicas = still_replicas job opened.places c.args.parts.now.run.followers.items c.run_turns.new.parts.followers.items opened.replicas c.run_turns.ensures.made;
        failed = stopped.failed;
        stopped = stopped.stopped;
      };
      added = subst (λ l. Adds g.O.Sink.told.holds c.args.out.now c.run_turns.new.out (take stopped.put l)) (course_let_out job opened.places opened.replicas.required stopped.count) stopped.added;
      rose = stopped.rose;
    }) c.run_turns.ensures.err
