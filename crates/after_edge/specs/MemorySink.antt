-- What a sink in memory takes of a piece, and when it fails.
use Rattle.std.specs.Prelude.{◌≡◌, ℕ, ◌-◌, ◌==◌, List, [], ◌++◌, length, take, min, Bool, ◌||◌, if◌then◌else◌, Option, unwrap_or, is_some, option_map, nat_lt}
use Rattle.std.specs.List.{find}
use Rattle.after_edge.specs.Fault.{raised}
use Rattle.after_edge.specs.Sink.{Telling}

-- the bytes, the most bytes that it takes, and the puts that are to fail, each after so many bytes
pub record SinkState : Type 0 where
  pub bytes : List ℕ
  pub capacity : ℕ
  pub plan : List (ℕ × ℕ)
  pub puts : ℕ
  pub faults : ℕ

-- exactly these bytes were added
abbrev pub HoldsBytes : SinkState → List ℕ → Type 0
HoldsBytes s list = s.bytes ≡ list

-- it tells its bytes
abbrev pub in_memory : Telling SinkState
in_memory = record { holds = HoldsBytes; faults = λ s. s.faults }

-- before the first put
abbrev pub empty_sink : ℕ → List (ℕ × ℕ) → SinkState
empty_sink most pairs = record { bytes = []; capacity = most; plan = pairs; puts = 0; faults = 0 }

-- after how many bytes the plan has the put of this number fail, by its first pair
abbrev pub planned_limit : List (ℕ × ℕ) → ℕ → Option ℕ
planned_limit pairs number = option_map (λ pair. pair.1) (find (λ pair. pair.0 == number) pairs)

-- after how many bytes the next put is to fail
abbrev pub next_limit : SinkState → Option ℕ
next_limit s = planned_limit s.plan (raised s.puts)

-- how many bytes more it takes
abbrev pub sink_room : SinkState → ℕ
sink_room s = s.capacity - length s.bytes

-- the next put fails exactly where the plan names it or the piece passes the room
abbrev pub put_fails : SinkState → List ℕ → Bool
put_fails s piece = is_some (next_limit s) || nat_lt (sink_room s) (length piece)

-- what is added of a piece: the prefix that the plan and the room allow
abbrev pub part_taken : Option ℕ → ℕ → List ℕ → List ℕ
part_taken limit room piece = take (min (unwrap_or limit (length piece)) room) piece

-- after a put of this piece
abbrev pub sink_after : SinkState → List ℕ → SinkState
sink_after s piece = record {
  bytes = s.bytes ++ part_taken (next_limit s) (sink_room s) piece;
  capacity = s.capacity;
  plan = s.plan;
  puts = raised s.puts;
  faults = (if put_fails s piece then raised s.faults else s.faults);
}
