use Rattle.std.proofs.Common.{arith}
use Rattle.command_words.proofs.DraftLaws.{put_values, put_count}
use Rattle.command_words.proofs.draft.Draft.put.Goals as goal

pub returns-clause-values : goal.returns-clause-values
returns-clause-values c = λ other. rw c.place.ensures (put_values c.args.self.now.values c.args.setting other c.args.given c.args.self.now.whole)

pub returns-clause-spent : goal.returns-clause-spent
returns-clause-spent c = rw c.place.ensures (omega (arith, put_count c.args.self.now.values c.args.setting c.args.given c.args.self.now.whole c.requires))
