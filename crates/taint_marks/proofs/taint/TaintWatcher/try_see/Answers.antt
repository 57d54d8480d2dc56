use Rattle.std.proofs.Common.{◌++◌, ◌∷◌, [], subst}
use Rattle.taint_marks.specs.Marks.{Stands}
use Rattle.taint_marks.proofs.StandsLaws.{Stands-more}
use Rattle.taint_marks.proofs.taint.TaintWatcher.try_see.Goals as goal

pub returns-clause-seen : goal.returns-clause-seen
returns-clause-seen c h calm stands =
    subst (λ m. Stands m (h ++ c.args.event.now ∷ [])) (c.is_calm.ensures calm) (Stands-more c.args.self.now c.args.event.now h c.requires stands)
