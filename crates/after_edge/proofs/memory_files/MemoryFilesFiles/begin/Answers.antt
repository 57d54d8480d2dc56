use Rattle.std.proofs.Common.{sym, ◌∙◌, ap}
use Rattle.after_edge.specs.MemoryFiles.{FilesState}
use Rattle.after_edge.proofs.MemoryFilesLaws.{begin-ok, begin-err}
use Rattle.after_edge.proofs.memory_files.MemoryFilesFiles.begin.Goals as goal

pub returns-then-begin_at-clause-ok : goal.returns-then-begin_at-clause-ok
returns-then-begin_at-clause-ok c =
    let same = ap (λ (s : FilesState). s.entries) c.self.view_is in
    begin-ok c.args.name.now _ _ _ same c.begin_at.ensures.after (sym c.begin_at.ensures.found ∙ c.if-begin_at.true)

pub returns-clause-err : goal.returns-clause-err
returns-clause-err c =
    let same = ap (λ (s : FilesState). s.entries) c.self.view_is in
    begin-err c.args.name.now _ _ _ same c.begin_at.ensures.after (sym c.begin_at.ensures.found ∙ c.if-begin_at.false)
