use Rattle.std.proofs.Common.{◌≡◌, ◌+◌, ◌≤◌, ◌<◌, Some, None, slice_get, arith, length, rules, ◌∙◌, ap, sym, List}
use Rattle.std.proofs.lemmas.Option.{slice_get_past}
use Rattle.rv_devices.proofs.EntryLaws.{at_place, AreDue-next, ticks-next, latency-next}
use Rattle.machine_model.specs.Board.{last_or, latency_by}
use Rattle.machine_model.specs.Script.{Entry}
use Rattle.std.specs.Option.{option_to_list}
use Rattle.rv_devices.proofs.schedule.Schedule.pass_due.Goals as goal

pub entries-preserved : goal.entries-preserved
entries-preserved c =
    let old : List Entry = c.args.self.now.entries.items in
    let place = c.entries.self.place in
    let entry : Entry = c.index-entry.result.now in
    let within : place < length c.entries.self.entries.items = search rules in
    let found : slice_get c.entries.self.entries.items place ≡ Some entry = at_place c.entries.self.entries.items place entry within c.index-entry.ensures in
    let at : slice_get old place ≡ Some entry = rw (← c.entries.invariant.same) found in
    let below : entry.at < c.args.step + 1 = omega (arith, c.step_of.ensures) in
    record {
      same = c.entries.invariant.same;
      source = c.entries.invariant.source;
      taken = c.entries.invariant.taken;
      forward = omega arith;
      due = λ due. AreDue-next (c.args.step + 1) place old entry (c.entries.invariant.due due) at below;
      ticks = omega (arith, ticks-next place old entry at, c.ticks.ensures, c.from-passed.ensures, c.entries.invariant.ticks);
      latency = λ is. c.latency_after-self.ensures ∙ ap (λ n. last_or n (option_to_list (latency_by entry.what))) (c.entries.invariant.latency is) ∙ sym (latency-next place old entry at);
    }

pub returns-after-entries-clause-stops : goal.returns-after-entries-clause-stops
returns-after-entries-clause-stops c =
    let past : length c.entries.self.entries.items ≤ c.entries.self.place = search rules in
    let none : slice_get c.args.self.now.entries.items c.entries.self.place ≡ None = rw (← c.entries.invariant.same) (slice_get_past c.entries.self.entries.items c.entries.self.place past) in
    rw none tt

pub returns-then-step_of-step-clause-stops : goal.returns-then-step_of-step-clause-stops
returns-then-step_of-step-clause-stops c =
    let place = c.entries.self.place in
    let entry : Entry = c.index-entry.result.now in
    let within : place < length c.entries.self.entries.items = search rules in
    let found : slice_get c.entries.self.entries.items place ≡ Some entry = at_place c.entries.self.entries.items place entry within c.index-entry.ensures in
    let at : slice_get c.args.self.now.entries.items place ≡ Some entry = rw (← c.entries.invariant.same) found in
    rw at (omega (arith, c.step_of.ensures))
