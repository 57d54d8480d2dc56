use Rattle.std.proofs.Common.{◌∙◌, ap, length}
use Rattle.std.proofs.lemmas.Result.{on_ok_weaker}
use Rattle.after_edge.specs.MemoryFiles.{with_bytes, with_no_file}
use Rattle.after_edge.proofs.MemoryFilesLaws.{changed_or_added-found, changed_or_added-missed, room-found, room-missed}
use Rattle.after_edge.proofs.entries.set_at.Goals as goal

pub returns-in-Some-clause-ok : goal.returns-in-Some-clause-ok
returns-in-Some-clause-ok c =
    let found = changed_or_added-found c.args.name.now c.args.entries.now.items c.deref.result.now c.deref.ensures.value (with_bytes c.args.bytes.now) (with_bytes c.args.bytes.now (with_no_file c.args.name.now 0)) in
    on_ok_weaker c.fill.result (λ after. found c.in-Some.index c.index_mut-entry.result.now c.fill.new.self c.in-Some.ensures c.index_mut-entry.ensures.value after) c.fill.ensures.ok

pub returns-in_ok-fill-in-None-clause-ok : goal.returns-in_ok-fill-in-None-clause-ok
returns-in_ok-fill-in-None-clause-ok c =
    let missed = changed_or_added-missed c.args.name.now c.args.entries.now.items c.deref.result.now c.deref.ensures.value (with_bytes c.args.bytes.now) (with_bytes c.args.bytes.now (with_no_file c.args.name.now 0)) in
    let fresh = c.in_ok-fill-in-None.ensures.ok ∙ ap (with_bytes c.args.bytes.now) c.in_ok-entry-in-None.ensures in
    on_ok_weaker c.add.result (λ after. missed c.fill-in-None.new.self c.add.new.entries.items c.in-None.ensures fresh after) c.add.ensures.ok

pub returns-in-Some-clause-within : goal.returns-in-Some-clause-within
returns-in-Some-clause-within c room =
    c.fill.ensures.within (room-found c.args.name.now c.args.entries.now.items c.deref.result.now c.deref.ensures.value (length c.args.bytes.now) c.in-Some.index c.index_mut-entry.result.now c.in-Some.ensures c.index_mut-entry.ensures.value room)

pub returns-in_err-entry-in-None-clause-within : goal.returns-in_err-entry-in-None-clause-within
returns-in_err-entry-in-None-clause-within c room = absurd (room-missed c.args.name.now c.args.entries.now.items c.deref.result.now c.deref.ensures.value (length c.args.bytes.now) c.in-None.ensures room)

pub returns-in_err-fill-in-None-clause-within : goal.returns-in_err-fill-in-None-clause-within
returns-in_err-fill-in-None-clause-within c room = absurd (room-missed c.args.name.now c.args.entries.now.items c.deref.result.now c.deref.ensures.value (length c.args.bytes.now) c.in-None.ensures room)

pub returns-in_ok-fill-in-None-clause-within : goal.returns-in_ok-fill-in-None-clause-within
returns-in_ok-fill-in-None-clause-within c room = absurd (room-missed c.args.name.now c.args.entries.now.items c.deref.result.now c.deref.ensures.value (length c.args.bytes.now) c.in-None.ensures room)
