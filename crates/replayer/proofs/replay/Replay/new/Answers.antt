use Rattle.std.proofs.Common.{[], ap, ◌∙◌, subst}
use Rattle.hart_model.specs.Machine.{hart}
use Rattle.hart_model.specs.State.{State, reset_state}
use Rattle.any_replay.specs.Replays as any
use Rattle.replayer.specs.Guest.{steps_of, ram_bytes}
use Rattle.replayer.proofs.replay.Replay.new.Goals as goal

pub returns-clause-replays : goal.returns-clause-replays
returns-clause-replays c =
    subst (λ (s : State). any.Replays hart steps_of ram_bytes s [] c.new-2.result)
    (c.new.ensures ∙ ap (λ ram. reset_state ram c.image.inside.entry) c.in_ok-ram.ensures.start ∙ ap (reset_state _) (ap (λ i. i.entry) c.image.view_is))
    c.new-2.ensures.replays
