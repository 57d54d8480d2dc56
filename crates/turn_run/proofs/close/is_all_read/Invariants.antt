use Rattle.std.proofs.Common.{◌≡◌, ◌<◌, ℕ}
use Rattle.std.specs.Prelude.{slice_index}
use Rattle.turn_run.proofs.close.is_all_read.Given as goal

abbrev pub invariant-loop-reader : goal.invariant-loop-reader
invariant-loop-reader l = (reader : ℕ) → reader < l.reader → slice_index l.hub.taken reader ≡ l.hub.appended
