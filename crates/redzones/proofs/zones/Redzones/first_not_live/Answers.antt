use Rattle.std.proofs.Common.{◌≡◌, not, subst}
use Rattle.analysis_model.specs.Heap.{is_live}
use Rattle.analysis_model.specs.InRam.{least_in_ram}
use Rattle.redzones.specs.Zones.{Zones, use_in}
use Rattle.redzones.proofs.UseLaws.{dead_found}
use Rattle.redzones.proofs.zones.Redzones.first_not_live.Goals as goal

pub returns : goal.returns
returns c =
    let P : Zones → Type 0 = λ z. c.first_of.result ≡ least_in_ram z.ram_kib (λ a. not (is_live (use_in z.shade a))) c.args.from c.args.to in
    subst P c.self.view_is (dead_found c.self.inside.shadow c.self.inside.ram_kib c.args.from c.args.to c.first_of.result c.self.invariant c.first_of.ensures.bytes c.first_of.ensures.least c.first_of.ensures.none)
