use Rattle.std.proofs.Common.{ap, arith}
use Rattle.after_edge.specs.MemorySink.{SinkState}
use Rattle.after_edge.proofs.MemorySinkLaws.{take-WritesPart}
use Rattle.after_edge.proofs.memory_sink.MemorySinkSink.put.Goals as goal

pub returns-clause-err : goal.returns-clause-err
returns-clause-err c = take-WritesPart _ _ _ _ _ _ (ap (λ (s : SinkState). s.bytes) c.self.view_is) c.append_reserved.ensures.items c.part_of.ensures.part (grind (arith, c.self.view_is))
