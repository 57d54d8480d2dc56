-- A replica says nothing before its first record, and takes back no approval.
use Rattle.std.proofs.Common.{ap, ◌∙◌}
use Rattle.std.specs.Prelude.{◌≤◌, None, List, [], ◌∷◌, ◌++◌}
use Rattle.run_events.specs.declared.record.Record.{Record}
use Rattle.job_model.proofs.SayingLaws.{approval_rises, found_none, reach_none}
use Rattle.turn_run.specs.Following.{SaysNothing}
use Rattle.guard_run.specs.declared.replica.Replica.{Replica}
use Rattle.guard_run.specs.Replicas.{replicas_follow}
use Rattle.guard_run.specs.Verdicts.{reach_of, verdict_from}

pub replica_starts : (replica : Replica) → SaysNothing (replicas_follow.verdict replica [])
replica_starts replica =
    ap (λ first. verdict_from first (reach_of replica.image replica.ram_kib [])) (found_none replica.image replica.ram_kib replica.kind)
    ∙ ap (verdict_from None) (reach_none replica.image replica.ram_kib)

pub replica_rises : (replica : Replica) (items : List Record) (item : Record) → (replicas_follow.verdict replica items).approved ≤ (replicas_follow.verdict replica (items ++ item ∷ [])).approved
replica_rises replica items item = approval_rises replica.image replica.ram_kib replica.kind items item
