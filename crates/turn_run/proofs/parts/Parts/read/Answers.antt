use Rattle.std.proofs.Common.{length, refl, take}
use Rattle.std.specs.Prelude.{slice_index}
use Rattle.std.proofs.lemmas.Option.{slice_get_read}
use Rattle.turn_run.specs.Course.{log_of}
use Rattle.turn_run.proofs.ReadLaws.{is_reader}
use Rattle.turn_run.proofs.MakeLaws.{same_after}
use Rattle.turn_run.proofs.ReadTurnLaws.{lessens_of, reads_of}
use Rattle.turn_run.proofs.parts.Parts.read.Goals as goal

pub read_next-requires : goal.read_next-requires
read_next-requires g c =
    let run = c.requires.followed in
    let at = slice_get_read c.args.self.now.followers.items (length c.args.self.now.followers.items) c.args.reader c.index_mut-follower.result.now refl c.requires.there c.index_mut-follower.ensures.value in
    record { items = take (slice_index run.core.taken c.args.reader) (log_of run.of); reads = is_reader g.F.Follower.following run.of run.core c.args.self.now.hub c.args.self.now.followers.items run.follows c.args.reader c.index_mut-follower.result.now at }

pub returns-clause-reads : goal.returns-clause-reads
returns-clause-reads g c = λ of core fs.
    let at = slice_get_read c.args.self.now.followers.items (length c.args.self.now.followers.items) c.args.reader c.index_mut-follower.result.now refl c.requires.there c.index_mut-follower.ensures.value in
    reads_of g.F.Follower.following of core c.args.self.now fs c.args.reader c.index_mut-follower.result.now c.read_next.new.follower at c.read_next.new.hub _ c.read_next.result
    (c.read_next.ensures.turned (take (slice_index core.taken c.args.reader) (log_of of)) (is_reader g.F.Follower.following of core c.args.self.now.hub c.args.self.now.followers.items fs c.args.reader c.index_mut-follower.result.now at)) refl refl

pub returns-clause-lessens : goal.returns-clause-lessens
returns-clause-lessens g c =
    let run = c.requires.followed in
    let at = slice_get_read c.args.self.now.followers.items (length c.args.self.now.followers.items) c.args.reader c.index_mut-follower.result.now refl c.requires.there c.index_mut-follower.ensures.value in
    let reads = is_reader g.F.Follower.following run.of run.core c.args.self.now.hub c.args.self.now.followers.items run.follows c.args.reader c.index_mut-follower.result.now at in
    lessens_of g.F.Follower.following c.args.self.now _ c.args.reader reads.there c.index_mut-follower.result.now c.read_next.new.follower at refl c.read_next.result _ (c.read_next.ensures.turned (take (slice_index run.core.taken c.args.reader) (log_of run.of)) reads)

pub returns-clause-made : goal.returns-clause-made
returns-clause-made g c =
    let at = slice_get_read c.args.self.now.followers.items (length c.args.self.now.followers.items) c.args.reader c.index_mut-follower.result.now refl c.requires.there c.index_mut-follower.ensures.value in
    same_after g.F.Follower.following.make c.args.self.now.followers.items c.args.reader c.index_mut-follower.result.now c.read_next.new.follower at c.read_next.ensures.made
