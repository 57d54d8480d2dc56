use Rattle.std.proofs.Common.{arith, inl, inr}
use Rattle.after_edge.proofs.SinkLaws.{Adds-then, Writes-then, WritesPart-more, WritesPart-then}
use Rattle.std.specs.Prelude.{take}
use Rattle.guard_run.specs.Openings.{released_in}
use Rattle.job_model.specs.Job.{released_bytes}
use Rattle.job_model.specs.Text.{report}
use Rattle.after_cli.proofs.ReleaseLaws.{released_front}
use Rattle.after_cli.proofs.running.run_opened.Goals as goal

pub returns-in-Err : goal.returns-in-Err
returns-in-Err g c = λ job opened.
    let stopped = c.in-Err.ensures.err job opened in
    record {
      written = WritesPart-more g.O.Sink.told c.args.out.now c.run_turns-ran.new.out (released_bytes job) (report job) (record {
        part = take stopped.put (released_in job stopped.count);
        is_prefix = released_front job stopped.count stopped.put opened.replicas.runnable.marked;
        added = stopped.added;
        rose = stopped.rose;
      });
      cut = inl (record {
        count = stopped.count;
        put = stopped.put;
        went = record { opened = c.args.parts; over = c.run_turns-ran.new.parts; before = opened; taken = c.in-Err.ensures.stops; stopped = stopped.stopped };
        added = stopped.added;
        closing_is = c.finish-closing.ensures.cut job stopped.count stopped.put stopped.stopped;
      });
    }

pub tell-requires : goal.tell-requires
tell-requires g c =
    let run = c.requires.opened in
    record {
      of = run.of;
      whole = c.finish-closing.ensures.whole run.of (c.in-Ok.ensures.ok run.of run.opened).ended;
      all = omega (arith, c.requires.count, run.opened.replicas.count);
    }

pub returns-in-Ok-tell : goal.returns-in-Ok-tell
returns-in-Ok-tell g c = λ job opened.
    let ended = c.in-Ok.ensures.ok job opened in
    let whole = c.finish-closing.ensures.whole job ended.ended in
    record {
      between = c.run_turns-ran.new.out;
      went = record { opened = c.args.parts; over = c.run_turns-ran.new.parts; before = opened; taken = c.in-Ok.ensures.turns; ended = ended.ended };
      told = c.in-Ok-tell.ensures.ok job whole;
      written = Writes-then g.O.Sink.told c.args.out.now c.run_turns-ran.new.out c.tell.new.out (released_bytes job) (report job) ended.put (c.in-Ok-tell.ensures.ok job whole);
      status_is = c.in-Ok-tell.ensures.status job whole;
      closing_is = whole;
    }

pub returns-in-Err-tell : goal.returns-in-Err-tell
returns-in-Err-tell g c = λ job opened.
    let ended = c.in-Ok.ensures.ok job opened in
    let whole = c.finish-closing.ensures.whole job ended.ended in
    let told = c.in-Err-tell.ensures.err job whole in
    record {
      written = WritesPart-then g.O.Sink.told c.args.out.now c.run_turns-ran.new.out c.tell.new.out (released_bytes job) (report job) ended.put told;
      cut = inr (record {
        between = c.run_turns-ran.new.out;
        went = record { opened = c.args.parts; over = c.run_turns-ran.new.parts; before = opened; taken = c.in-Ok.ensures.turns; ended = ended.ended };
        part = told.part;
        is_prefix = told.is_prefix;
        told = told.added;
        added = Adds-then g.O.Sink.told.holds c.args.out.now c.run_turns-ran.new.out c.tell.new.out (released_bytes job) told.part ended.put.added told.added;
        closing_is = whole;
      });
    }
