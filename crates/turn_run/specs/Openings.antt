-- What a run is made of, and what it is before its first turn.
use Rattle.std.specs.Prelude.{◌≡◌, ℕ, List, length, slice_get, Some}
use Rattle.gate_core.specs.Core.{opening}
use Rattle.any_machine.specs.Recording.{Recording}
use Rattle.turn_run.specs.declared.parts.Parts.{Parts}
use Rattle.turn_run.specs.Following.{Following}
use Rattle.turn_run.specs.Course.{Course, IsCourse, plan_of}
use Rattle.turn_run.specs.Replicas.{IsFollower}
use Rattle.turn_run.specs.Runs.{IsAt}

-- the followers of a run
abbrev pub followers_of : {M F : Type 0} → Parts M F → List F
followers_of parts = parts.followers.items

module _ {M F : Type 0} (r : Recording M) (f : Following F) where
  -- The course is that of a run of these: its records are to come of the recorder, and each follower, which has taken none,
  -- says of every prefix of them what its limit says.
  pub record IsCourseOf (c : Course) (recorder : M) (followers : List F) (readers : List ℕ) (places : ℕ) : Type 0 where
    pub course : IsCourse c
    pub to_come : r.to_come recorder c.items
    pub cap : c.cap ≡ places
    pub required : readers ≡ c.required
    pub count : length followers ≡ length c.limits
    pub each : (reader : ℕ) (follower : F) → slice_get followers reader ≡ Some follower → IsFollower f c reader 0 follower

  -- before the first turn
  abbrev pub IsOpened : Course → Parts M F → Type 0
  IsOpened c parts = IsAt r f c (opening (plan_of c)) parts

  -- it is the run of some course
  pub record IsOpenedRun (parts : Parts M F) : Type 0 where
    pub of : Course
    pub opened : IsOpened of parts
