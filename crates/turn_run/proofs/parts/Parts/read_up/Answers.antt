use Rattle.std.proofs.Common.{◌∙◌}
use Rattle.turn_run.proofs.StopLaws.{besides-then, read_end, read_on}
use Rattle.turn_run.proofs.parts.Parts.read_up.Goals as goal

pub taking-preserved : goal.taking-preserved
taking-preserved g c = record {
  read = λ of core follows. (
      let now = c.taking.invariant.read of core follows in
      read_on g.F.Follower.following of core c.taking.self c.read.new.self c.args.reader now (c.in-Took.ensures.reads of now.next now.follows));
  besides = besides-then c.args.self.now c.taking.self c.read.new.self c.taking.invariant.besides c.read.ensures.besides;
  made = c.read.ensures.made ∙ c.taking.invariant.made;
}

pub returns-in-Empty : goal.returns-in-Empty
returns-in-Empty g c = record {
  read = λ of core follows. (
      let now = c.taking.invariant.read of core follows in
      read_end g.F.Follower.following of core c.taking.self c.read.new.self c.args.reader now (c.in-Empty.ensures.reads of now.next now.follows).1 c.in-Empty.ensures.lessens);
  besides = besides-then c.args.self.now c.taking.self c.read.new.self c.taking.invariant.besides c.read.ensures.besides;
  made = c.read.ensures.made ∙ c.taking.invariant.made;
}

pub returns-in-Closed : goal.returns-in-Closed
returns-in-Closed g c = record {
  read = λ of core follows. (
      let now = c.taking.invariant.read of core follows in
      read_end g.F.Follower.following of core c.taking.self c.read.new.self c.args.reader now (c.in-Closed.ensures.reads of now.next now.follows).1 c.in-Closed.ensures.lessens);
  besides = besides-then c.args.self.now c.taking.self c.read.new.self c.taking.invariant.besides c.read.ensures.besides;
  made = c.read.ensures.made ∙ c.taking.invariant.made;
}
