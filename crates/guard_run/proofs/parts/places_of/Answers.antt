use Rattle.std.proofs.Common.{◌≡◌, Some}
use Rattle.std.specs.Prelude.{slice_get}
use Rattle.guard_run.proofs.ZipLaws.{zip_more}
use Rattle.guard_run.proofs.parts.places_of.Goals as goal

pub loop-index-preserved : goal.loop-index-preserved
loop-index-preserved c =
    zip_more (λ kind place. slice_get c.args.kinds.now place ≡ Some kind) c.args.some.now c.loop-index.places.items c.push.new.self.items c.loop-index.index c.get.result c.place_of.result c.loop-index.invariant c.get.ensures.found c.place_of.ensures
    c.in_ok-push.ensures.items
