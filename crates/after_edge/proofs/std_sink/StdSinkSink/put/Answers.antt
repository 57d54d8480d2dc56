use Rattle.std.proofs.Common.{[], arith}
use Rattle.list_laws.proofs.PrefixLaws.{empty_IsPrefix}
use Rattle.after_edge.proofs.std_sink.StdSinkSink.put.Goals as goal

pub returns-in-Err-clause-err : goal.returns-in-Err-clause-err
returns-in-Err-clause-err g c = record { part = []; is_prefix = empty_IsPrefix _; added = λ held holds. tt; rose = omega arith }
