-- Contexts: which task of the guest runs.
use Rattle.std.specs.Prelude.{ℕ, nat_le, List, [], ◌∷◌, Option, None, Some, unwrap_or, if◌then◌else◌}
use Rattle.run_events.specs.declared.announcement.Announcement.{Announcement}
use Rattle.run_events.specs.declared.announcement.Announcement.TheVariants.{Enter}
use Rattle.run_events.specs.declared.event.Event.{Event}
use Rattle.run_events.specs.Announcement.{announced}

-- the context that an announcement enters; there are those from 0 to 63
abbrev pub entered : Option Announcement → Option ℕ
entered (Some (Enter context)) = if nat_le context 63 then Some context else None
entered _ = None

-- the context after these events, the newest first: the last one entered, and 0 at first
abbrev pub context_after : List Event → ℕ
context_after [] = 0
context_after (last ∷ before) = unwrap_or (entered (announced last)) (context_after before)
