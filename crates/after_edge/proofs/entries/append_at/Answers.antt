use Rattle.std.proofs.Common.{not, sym, ◌∙◌, ap}
use Rattle.after_edge.specs.MemoryFiles.{with_piece, has_no_place}
use Rattle.after_edge.proofs.MemoryFilesLaws.{entry_of-found, entry_of-missed, changed-found, changed-missed}
use Rattle.after_edge.proofs.entries.append_at.Goals as goal

pub returns-in-Some-clause-after : goal.returns-in-Some-clause-after
returns-in-Some-clause-after c = changed-found c.args.name.now c.args.entries.now.items c.deref.result.now c.deref.ensures.value (with_piece c.args.piece.now) _ _ _ c.in-Some.ensures c.index_mut-entry.ensures.value c.append.ensures.after

pub returns-in-Some-clause-whole : goal.returns-in-Some-clause-whole
returns-in-Some-clause-whole c =
    let found = entry_of-found c.args.name.now c.args.entries.now.items c.deref.result.now c.deref.ensures.value c.in-Some.index c.index_mut-entry.result.now c.in-Some.ensures c.index_mut-entry.ensures.value in
    c.append.ensures.whole ∙ sym (ap (λ e. not (has_no_place c.args.piece.now e)) found)

pub returns-in-None-clause-after : goal.returns-in-None-clause-after
returns-in-None-clause-after c = changed-missed c.args.name.now c.args.entries.now.items c.deref.result.now c.deref.ensures.value (with_piece c.args.piece.now) c.in-None.ensures

pub returns-in-None-clause-whole : goal.returns-in-None-clause-whole
returns-in-None-clause-whole c = sym (ap (λ e. not (has_no_place c.args.piece.now e)) (entry_of-missed c.args.name.now c.args.entries.now.items c.deref.result.now c.deref.ensures.value c.in-None.ensures))
