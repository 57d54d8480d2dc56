-- The host's streams and files, which tell how often they have failed and nothing else.
use Rattle.std.specs.Prelude.{ℕ}
use Rattle.after_edge.specs.Sink.{HoldsAny, Telling}
use Rattle.after_edge.specs.declared.std_sink.StdSink.{StdSink}
use Rattle.after_edge.specs.declared.std_files.StdFiles.{StdFiles}

-- the writer that a sink puts to, and how often its puts have failed
abbrev pub writer_of : {W : Type 0} → StdSink W → W
writer_of sink = sink.writer

abbrev pub puts_failed : {W : Type 0} → StdSink W → ℕ
puts_failed sink = sink.faults

-- what a sink tells of itself
abbrev pub host_sink : {W : Type 0} → Telling (StdSink W)
host_sink = record { holds = HoldsAny; faults = puts_failed }

-- how often the calls of files have failed
abbrev pub calls_failed : {R D F : Type 0} → StdFiles R D F → ℕ
calls_failed files = files.faults
