-- What a replica is made of, and what it has made of the records that it was given.
use Rattle.std.specs.Prelude.{◌≡◌, ℕ, List, [], reverse}
use Rattle.std.specs.List.{AllZip}
use Rattle.run_events.specs.declared.finding.Kind.{Kind}
use Rattle.run_events.specs.declared.record.Record.{Record}
use Rattle.machine_model.specs.Image.{Image}
use Rattle.analysis_model.specs.Made.{make_of}
use Rattle.board_model.specs.Guest.{started}
use Rattle.analysis_set.specs.declared.any_analysis.AnyAnalysis.{AnyAnalysis}
use Rattle.analysis_set.specs.Analysis.{HasSeen, kib_of, made_of}
use Rattle.replayer.specs.Replays.{Replays}
use Rattle.turn_run.specs.Following.{Following}
use Rattle.guard_run.specs.declared.replica.Replica.{Replica}
use Rattle.guard_run.specs.Verdicts.{shown_of, verdict_on}

-- the guest that it replays, and its kind of analysis
pub record Make : Type 0 where
  pub image : Image
  pub ram_kib : ℕ
  pub kind : Kind

-- what a replica was made of, and its analysis
abbrev pub make_now : Replica → Make
make_now replica = record { image = replica.image; ram_kib = replica.ram_kib; kind = replica.kind }

abbrev pub analysis_of : Replica → AnyAnalysis
analysis_of replica = replica.analysis

-- It was given these records, whatever they are: its replay is at the end of them, and its analysis, which is of its kind
-- and for its guest, stands for what they show.
pub record HasTaken (replica : Replica) (items : List Record) : Type 0 where
  pub replays : Replays (started replica.image replica.ram_kib) (reverse items) replica.replay
  pub seen : HasSeen replica.analysis (shown_of replica.image replica.ram_kib items)
  pub made : made_of replica.analysis ≡ make_of replica.kind replica.image
  pub size : kib_of replica.analysis ≡ replica.ram_kib

-- as a follower of a log it says what its analysis says of the records
abbrev pub replicas_follow : Following Replica
replicas_follow = record {
  has_taken = HasTaken;
  verdict = λ replica items. verdict_on replica.image replica.ram_kib replica.kind items;
  Make = Make;
  make = make_now;
}

-- it was made of these, and was given no record
pub record IsFresh (image : Image) (ram_kib : ℕ) (kind : Kind) (replica : Replica) : Type 0 where
  pub made : make_now replica ≡ record { image = image; ram_kib = ram_kib; kind = kind }
  pub taken : HasTaken replica []

-- of each of some kinds one
abbrev pub AreFresh : Image → ℕ → List Kind → List Replica → Type 0
AreFresh image ram_kib kinds replicas = AllZip (IsFresh image ram_kib) kinds replicas
