use Rattle.std.proofs.Common.{◌∙◌, arith}
use Rattle.turn_run.proofs.StopLaws.{besides-then, read_more}
use Rattle.turn_run.proofs.parts.Parts.read_all.Goals as goal

pub loop-reader-preserved : goal.loop-reader-preserved
loop-reader-preserved g c = record {
  read = λ of core follows. (
      let now = c.loop-reader.invariant.read of core follows in
      read_more g.F.Follower.following of core c.loop-reader.reader c.loop-reader.self c.read_up.new.self now (c.read_up.ensures.read of now.on.next now.on.follows));
  besides = besides-then c.args.self.now c.loop-reader.self c.read_up.new.self c.loop-reader.invariant.besides c.read_up.ensures.besides;
  made = c.read_up.ensures.made ∙ c.loop-reader.invariant.made;
}

pub returns-clause-read : goal.returns-clause-read
returns-clause-read g c = λ of core follows.
    let now = c.loop-reader.invariant.read of core follows in
    record { on = now.on; all = λ reader there. now.all reader (omega (arith, there, c.loop-reader-test.false, c.len-reader-end.ensures, c.args.self.now.followers.ok.0, follows.count)) }
