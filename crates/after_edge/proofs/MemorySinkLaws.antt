-- What a put to a sink in memory adds.
use Rattle.std.proofs.Common.{◌≡◌, ℕ, List, ◌++◌, take, ◌∙◌, ap, subst, sym}
use Rattle.list_laws.specs.Prefix.{IsPrefix}
use Rattle.list_laws.proofs.PrefixLaws.{take_IsPrefix}
use Rattle.after_edge.specs.Fault.{Rose}
use Rattle.after_edge.specs.Sink.{WritesPart}
use Rattle.after_edge.specs.MemorySink.{SinkState, in_memory}

-- the first bytes of a piece are a part of it
pub take-WritesPart : (old new : SinkState) (before part piece : List ℕ) (count : ℕ) → before ≡ old.bytes → new.bytes ≡ before ++ part → part ≡ take count piece → Rose old.faults new.faults → WritesPart in_memory old new piece
take-WritesPart old new before part piece count same after is rose = record {
  part = part;
  is_prefix = subst (λ l. IsPrefix l piece) (sym is) (take_IsPrefix count piece);
  added = λ held holds. after ∙ ap (λ l. l ++ part) (same ∙ holds);
  rose = rose;
}
