use Rattle.std.proofs.lemmas.Result.{on_ok_weaker}
use Rattle.after_edge.specs.MemoryFiles.{with_room, with_no_file}
use Rattle.after_edge.proofs.MemoryFilesLaws.{changed_or_added-found, changed_or_added-missed, room-found, room-missed}
use Rattle.after_edge.proofs.entries.room_at.Goals as goal

pub returns-in-Some-clause-ok : goal.returns-in-Some-clause-ok
returns-in-Some-clause-ok c =
    let found = changed_or_added-found c.args.name.now c.args.entries.now.items c.deref.result.now c.deref.ensures.value (with_room c.args.bytes) (with_no_file c.args.name.now c.args.bytes) in
    on_ok_weaker c.reserve.result (λ after. found c.in-Some.index c.index_mut-entry.result.now c.reserve.new.self c.in-Some.ensures c.index_mut-entry.ensures.value after) c.reserve.ensures.ok

pub returns-in_ok-new-in-None-clause-ok : goal.returns-in_ok-new-in-None-clause-ok
returns-in_ok-new-in-None-clause-ok c =
    let missed = changed_or_added-missed c.args.name.now c.args.entries.now.items c.deref.result.now c.deref.ensures.value (with_room c.args.bytes) (with_no_file c.args.name.now c.args.bytes) in
    on_ok_weaker c.add.result (λ after. missed c.in_ok-new-in-None.field-0 c.add.new.entries.items c.in-None.ensures c.in_ok-new-in-None.ensures after) c.add.ensures.ok

pub returns-in-Some-clause-within : goal.returns-in-Some-clause-within
returns-in-Some-clause-within c room =
    c.reserve.ensures.within (room-found c.args.name.now c.args.entries.now.items c.deref.result.now c.deref.ensures.value c.args.bytes c.in-Some.index c.index_mut-entry.result.now c.in-Some.ensures c.index_mut-entry.ensures.value room)

pub returns-in_err-new-in-None-clause-within : goal.returns-in_err-new-in-None-clause-within
returns-in_err-new-in-None-clause-within c room = absurd (room-missed c.args.name.now c.args.entries.now.items c.deref.result.now c.deref.ensures.value c.args.bytes c.in-None.ensures room)

pub returns-in_ok-new-in-None-clause-within : goal.returns-in_ok-new-in-None-clause-within
returns-in_ok-new-in-None-clause-within c room = absurd (room-missed c.args.name.now c.args.entries.now.items c.deref.result.now c.deref.ensures.value c.args.bytes c.in-None.ensures room)
