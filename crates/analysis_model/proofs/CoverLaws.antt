-- Coverage's findings, event by event.
use Rattle.std.proofs.Common.{◌≡◌, List, [], ◌∷◌, Option, refl, ap}
use Rattle.std.specs.List.{cons_option, filter_map}
use Rattle.std.specs.Option.{option_map}
use Rattle.run_events.specs.declared.event.Event.{Event}
use Rattle.run_events.specs.declared.finding.Finding.{Finding}
use Rattle.run_events.specs.declared.finding.Kind.TheVariants as kind
use Rattle.analysis_model.specs.Complaints.{Guest, complaint, findings}
use Rattle.analysis_model.specs.Cover.{CodeRange, cover}
use Rattle.analysis_model.specs.Look.{finding_of, found_at, told_after}

-- the finding of an event
abbrev pub outside : List CodeRange → Event → Option Finding
outside code event = option_map (finding_of event) (cover code event)

told-outside : (guest : Guest) (before events : List Event) → told_after (found_at (complaint kind.Cover guest)) before events ≡ filter_map (outside guest.code) events
told-outside guest before [] = refl
told-outside guest before (event ∷ events) =
    ap (cons_option (outside guest.code event)) (told-outside guest (event ∷ before) events)

-- they need nothing before an event, and nothing of the guest but its code
pub findings-cover : (guest : Guest) (events : List Event) → findings kind.Cover guest events ≡ filter_map (outside guest.code) events
findings-cover guest events = told-outside guest [] events
