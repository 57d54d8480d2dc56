-- The end of a run, as a machine gives it.
use Rattle.std.proofs.Common.{◌≡◌, ◌∷◌, List, sym, ap, subst, ◌∙◌}
use Rattle.run_events.specs.declared.item.Item.{Item}
use Rattle.run_events.specs.declared.record.EndCause.{EndCause}
use Rattle.any_machine.specs.Recorder.{end_item}
use Rattle.any_machine.specs.Recording.{GivesItem}
use Rattle.rv_machine.specs.ToCome.{Awaits, recording}
use Rattle.rv_machine.specs.declared.machine.Machine.{Machine}
use Rattle.rv_machine.specs.declared.phase.Phase.TheVariants.{Over}
use Rattle.rv_machine.proofs.TurnLaws.{Follows}

module _ (before after : Machine) (items : List Item) (cause : EndCause) (item : Item) where
  pub given_end : item ≡ end_item before.cpu.step cause → after.phase ≡ Over → after.board ≡ before.board → after.cpu ≡ before.cpu
      → Follows (end_item before.cpu.step cause) items (λ rest. Awaits Over after.left after.lines before.cpu before.board rest) → GivesItem recording item items after
  given_end is over board cpu f = record {
    rest = f.rest;
    first = f.are ∙ ap (λ i. i ∷ f.rest) (sym is);
    to_come =
        subst (λ p. Awaits p after.left after.lines after.cpu after.board f.rest) (sym over)
        (subst (λ b. Awaits Over after.left after.lines after.cpu b f.rest) (sym board) (subst (λ s. Awaits Over after.left after.lines s before.board f.rest) (sym cpu) f.after));
  }
