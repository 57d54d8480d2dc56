use Rattle.std.proofs.Common.{is_some, sym, ap}
use Rattle.after_edge.specs.MemoryFiles.{with_no_bytes}
use Rattle.after_edge.proofs.MemoryFilesLaws.{entry_of-found, entry_of-missed, changed-found, changed-missed}
use Rattle.after_edge.proofs.entries.begin_at.Goals as goal

pub returns-in-Some-clause-after : goal.returns-in-Some-clause-after
returns-in-Some-clause-after c = changed-found c.args.name.now c.args.entries.now.items c.deref.result.now c.deref.ensures.value with_no_bytes _ _ _ c.in-Some.ensures c.index_mut-entry.ensures.value c.begin.ensures

pub returns-in-Some-clause-found : goal.returns-in-Some-clause-found
returns-in-Some-clause-found c = sym (ap (λ e. is_some e) (entry_of-found c.args.name.now c.args.entries.now.items c.deref.result.now c.deref.ensures.value _ _ c.in-Some.ensures c.index_mut-entry.ensures.value))

pub returns-in-None-clause-after : goal.returns-in-None-clause-after
returns-in-None-clause-after c = changed-missed c.args.name.now c.args.entries.now.items c.deref.result.now c.deref.ensures.value with_no_bytes c.in-None.ensures

pub returns-in-None-clause-found : goal.returns-in-None-clause-found
returns-in-None-clause-found c = sym (ap (λ e. is_some e) (entry_of-missed c.args.name.now c.args.entries.now.items c.deref.result.now c.deref.ensures.value c.in-None.ensures))
