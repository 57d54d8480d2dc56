use Rattle.std.proofs.Common.{map, string_bytes}
use Rattle.after_cli.proofs.AnswerLaws.{ends_of}
use Rattle.after_cli.proofs.ExactLaws.{exact_of}
use Rattle.after_cli.proofs.top.aftersight_plain.Goals as goal

pub returns-clause-ends : goal.returns-clause-ends
returns-clause-ends g c = ends_of _ c.answer_words-answer.result c.end_answer.result c.answer_words-answer.ensures.means c.end_answer.ensures

pub returns-clause-exact : goal.returns-clause-exact
returns-clause-exact g c = λ told tells files_stay out_stays.
    exact_of (record {
      words = map string_bytes c.args.words.now;
      content = g.F.Files.content c.args.files.now;
      faults = g.F.Files.faults c.args.files.now;
      faults_after = g.F.Files.faults c.answer_words-answer.new.files;
      out = g.O.Sink.told;
      old = c.args.out.now;
      new = c.answer_words-answer.new.out;
      err = g.E.Sink.told;
      err_old = c.args.err.now;
      err_new = c.end_answer.new.err;
    }) c.end_answer.result told tells files_stay out_stays (returns-clause-ends g c)
