-- What a sequence stands for: the records that it admitted.
use Rattle.std.specs.Prelude.{◌≡◌, true, List}
use Rattle.run_events.specs.declared.record.Record.{Record}
use Rattle.run_events.specs.declared.sequence.Sequence.{Sequence}
use Rattle.run_events.specs.Record.{is_ordered_back, newest, newest_dmas}

-- a sequence stands after these records, of which the last is given first
pub record InOrder (before : List Record) (sequence : Sequence) : Type 0 where
  pub ordered : is_ordered_back before ≡ true
  pub last : sequence.last ≡ newest before
  pub words : sequence.words ≡ newest_dmas before
