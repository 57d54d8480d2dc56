-- What a replica says of the steps that it has done.
use Rattle.std.specs.Prelude.{ℕ, List, Option, is_some, unwrap_or}
use Rattle.run_events.specs.declared.event.Event.{Event}
use Rattle.run_events.specs.declared.finding.Kind.{Kind}
use Rattle.run_events.specs.declared.record.Record.{Record}
use Rattle.gate_core.specs.declared.verdict.Verdict.{Verdict}
use Rattle.any_machine.specs.Replay.{executed, shown}
use Rattle.analysis_model.specs.Complaints.{findings}
use Rattle.analysis_model.specs.Findings.{first_step}
use Rattle.analysis_model.specs.Made.{guest_of}
use Rattle.hart_model.specs.Machine.{hart}
use Rattle.machine_model.specs.Image.{Image}
use Rattle.board_model.specs.Guest.{started}

-- it approves the steps below its first finding and refuses the rest, or approves all that it has done
abbrev pub verdict_from : Option ℕ → ℕ → Verdict
verdict_from first reach = record { approved = unwrap_or first reach; refused = is_some first }

-- what a list of records, whatever it is, shows of a guest
abbrev pub shown_of : Image → ℕ → List Record → List Event
shown_of image ram_kib items = shown hart (started image ram_kib) items

-- how many steps of it the list executes
abbrev pub reach_of : Image → ℕ → List Record → ℕ
reach_of image ram_kib items = executed hart (started image ram_kib) items

-- what an analysis of this kind says of them
abbrev pub verdict_on : Image → ℕ → Kind → List Record → Verdict
verdict_on image ram_kib kind items =
    verdict_from (first_step (findings kind (guest_of image ram_kib) (shown_of image ram_kib items))) (reach_of image ram_kib items)
