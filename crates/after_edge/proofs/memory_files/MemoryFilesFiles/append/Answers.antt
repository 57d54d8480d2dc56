use Rattle.std.proofs.Common.{sym, ◌∙◌, ap}
use Rattle.after_edge.specs.MemoryFiles.{FilesState}
use Rattle.after_edge.proofs.MemoryFilesLaws.{append-ok, append-err}
use Rattle.after_edge.proofs.memory_files.MemoryFilesFiles.append.Goals as goal

pub returns-then-append_at-clause-ok : goal.returns-then-append_at-clause-ok
returns-then-append_at-clause-ok c =
    let same = ap (λ (s : FilesState). s.entries) c.self.view_is in
    append-ok c.args.name.now _ _ _ same c.args.piece.now c.append_at.ensures.after (sym c.append_at.ensures.whole ∙ c.if-append_at.true)

pub returns-clause-err : goal.returns-clause-err
returns-clause-err c =
    let same = ap (λ (s : FilesState). s.entries) c.self.view_is in
    append-err c.args.name.now _ _ _ same c.args.piece.now c.append_at.ensures.after
