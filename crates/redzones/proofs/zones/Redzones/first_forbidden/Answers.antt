use Rattle.std.proofs.Common.{◌≡◌, ◌+◌, subst, arith, rules}
use Rattle.list_laws.specs.Least.{least_from}
use Rattle.analysis_model.specs.Heap.{is_forbidden}
use Rattle.redzones.specs.Zones.{Zones, use_in}
use Rattle.redzones.proofs.UseLaws.{forbidden_found}
use Rattle.redzones.proofs.zones.Redzones.first_forbidden.Goals as goal

pub returns : goal.returns
returns c =
    let P : Zones → Type 0 = λ z. c.first_of.result ≡ least_from (λ a. is_forbidden (use_in z.shade a)) c.args.from c.args.len in
    subst P c.self.view_is (forbidden_found c.self.inside.shadow c.args.from c.args.len (c.args.from + c.args.len) c.first_of.result (omega arith) c.first_of.ensures.bytes (search rules) (search rules))
