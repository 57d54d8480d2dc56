-- What is let out of a prefix of a job's records is a prefix of what the job lets out.
use Rattle.std.proofs.Common.{ℕ, List, take, sym, ap, subst, ◌∙◌}
use Rattle.std.specs.Prelude.{nat_lt}
use Rattle.std.proofs.lemmas.List.Elements.{filter-append, filter_map-append}
use Rattle.list_laws.specs.Prefix.{IsPrefix}
use Rattle.list_laws.proofs.PrefixLaws.{IsPrefix-map, IsPrefix-trans, take_IsPrefix}
use Rattle.run_events.specs.declared.item.Item.{Item}
use Rattle.any_machine.specs.Log.{before_step, byte_of, bytes_of, items, output, SentByte}
use Rattle.guard_run.specs.Openings.{released_in}
use Rattle.job_model.specs.Job.{Job, events, finished, released_bytes, stop}
use Rattle.job_model.proofs.RunLaws.{job_output}
use Rattle.machine_model.specs.Board.{AreMarked}

-- a prefix of some items has a prefix of their bytes, of which less goes out
front_bytes : (front whole : List Item) → IsPrefix front whole → IsPrefix (bytes_of front) (bytes_of whole)
front_bytes front whole is = record { rest = bytes_of is.rest; joined = sym (filter_map-append byte_of front is.rest) ∙ ap bytes_of is.joined }

front_before : (step : ℕ) (front whole : List SentByte) → IsPrefix front whole → IsPrefix (before_step step front) (before_step step whole)
front_before step front whole is = record { rest = before_step step is.rest; joined = sym (filter-append (λ byte. nat_lt byte.step step) front is.rest) ∙ ap (before_step step) is.joined }

pub released_front : (job : Job) (count put : ℕ) → AreMarked job.script.entries → IsPrefix (take put (released_in job count)) (released_bytes job)
released_front job count put marked =
    let items_front = take_IsPrefix count (items (finished job)) in
    let bytes_front = front_bytes (take count (items (finished job))) (items (finished job)) items_front in
    let output_front = subst (IsPrefix (bytes_of (take count (items (finished job))))) (job_output job marked) bytes_front in
    let less = front_before (stop job) (bytes_of (take count (items (finished job)))) (output (events job)) output_front in
    IsPrefix-trans (take_IsPrefix put (released_in job count)) (IsPrefix-map (λ (byte : SentByte). byte.byte) less)
