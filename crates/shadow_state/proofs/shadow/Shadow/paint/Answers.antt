use Rattle.std.proofs.Common.{◌≡◌, ◌∙◌, ap, length, rules}
use Rattle.std.proofs.lemmas.List.{with_items_is}
use Rattle.memory_map.specs.declared.TheConstants.{RAM_START}
use Rattle.shadow_state.specs.Shade.{Shade, painted_from}
use Rattle.shadow_state.proofs.PaintLaws.{IsPainted-more}
use Rattle.shadow_state.proofs.shadow.Shadow.paint.Goals as goal

pub returns-clause-last : goal.returns-clause-last
returns-clause-last c =
    let kept : length c.paint_bytes.new.bytes ≡ c.self.inside.bytes.len = search rules in
    let before = c.deref_mut.ensures.value ∙ ap (λ (s : Shade). s.bytes) c.self.view_is in
    let after = with_items_is c.self.inside.bytes c.paint_bytes.new.bytes kept ∙ c.paint_bytes.ensures ∙ ap (painted_from RAM_START c.args.from c.args.to c.args.value) before in
    IsPainted-more c.args.self.now _ c.args.from c.args.to c.args.value (ap (λ bytes. record { bytes = bytes }) after)
