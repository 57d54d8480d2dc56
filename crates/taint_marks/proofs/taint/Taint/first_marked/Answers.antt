use Rattle.std.proofs.Common.{◌≡◌, subst}
use Rattle.analysis_model.specs.InRam.{least_in_ram}
use Rattle.analysis_model.specs.Taint.{Byte, is_marked}
use Rattle.taint_marks.specs.Marks.{Marks, mark_now}
use Rattle.taint_marks.proofs.MarkLaws.{marked_found}
use Rattle.taint_marks.proofs.taint.Taint.first_marked.Goals as goal

pub returns : goal.returns
returns c =
    let P : Marks → Type 0 = λ m. c.first_of.result ≡ least_in_ram m.ram_kib (λ a. is_marked (mark_now m (Byte a))) c.args.from c.args.to in
    subst P c.self.view_is
    (marked_found c.self.inside.shadow c.self.inside.ram_kib c.args.from c.args.to c.first_of.result c.self.invariant.1 c.first_of.ensures.bytes c.first_of.ensures.least c.first_of.ensures.none)
