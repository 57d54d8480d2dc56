use Rattle.std.proofs.Common.{◌≡◌, ◌<◌, Some, slice_get, arith, length, rules}
use Rattle.machine_model.specs.Script.{Entry}
use Rattle.rv_devices.proofs.EntryLaws.{at_place, later_from}
use Rattle.rv_devices.proofs.schedule.Schedule.due.Goals as goal

pub returns-then-self-len-clause-later : goal.returns-then-self-len-clause-later
returns-then-self-len-clause-later c = λ rises.
    let s = c.args.self.now in
    let entry : Entry = c.index.result.now in
    let within : s.place < length s.entries.items = search rules in
    let at : slice_get s.entries.items s.place ≡ Some entry = at_place s.entries.items s.place entry within c.index.ensures in
    later_from c.from.result s.place s.entries.items rises (rw at (omega (arith, c.step_of.ensures, c.from.ensures)))
