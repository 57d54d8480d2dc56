use Rattle.std.proofs.Common.{◌≡◌, None, subst}
use Rattle.list_laws.specs.Least.{least_from}
use Rattle.analysis_model.specs.Heap.{is_forbidden}
use Rattle.redzones.specs.Zones.{Zones, use_in}
use Rattle.redzones.proofs.UseLaws.{forbidden_none}
use Rattle.redzones.proofs.zones.Redzones.is_clear.Goals as goal

pub returns : goal.returns
returns c clear width few =
    let P : Zones → Type 0 = λ z. least_from (λ a. is_forbidden (use_in z.shade a)) c.args.address width ≡ None in
    subst P c.self.view_is (forbidden_none c.self.inside.shadow c.args.address width few (c.has_four_clear.ensures.clear clear))
