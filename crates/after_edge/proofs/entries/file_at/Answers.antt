use Rattle.std.proofs.Common.{refl, sym, ◌∙◌, ap}
use Rattle.std.specs.Option.{option_and_then}
use Rattle.after_edge.specs.MemoryFiles.{Kept}
use Rattle.after_edge.proofs.MemoryFilesLaws.{entry_of-found, entry_of-missed}
use Rattle.after_edge.proofs.entries.file_at.Goals as goal

pub returns-in-Some : goal.returns-in-Some
returns-in-Some c =
    let found = entry_of-found c.args.name.now c.args.entries.now c.args.entries.now refl c.in-Some.index c.index-entries-index.result c.in-Some.ensures c.index-entries-index.is in
    c.file.ensures ∙ sym (ap (λ e. option_and_then (λ (kept : Kept). kept.file) e) found)

pub returns-in-None : goal.returns-in-None
returns-in-None c = sym (ap (λ e. option_and_then (λ (kept : Kept). kept.file) e) (entry_of-missed c.args.name.now c.args.entries.now c.args.entries.now refl c.in-None.ensures))
