use Rattle.std.proofs.Common.{◌≡◌, ◌+◌, ◌%◌, ◌^◌, drop, arith, ◌∙◌, ap, sym, subst}
use Rattle.machine_model.specs.Board.{RisesFrom}
use Rattle.rv_devices.specs.Entries.{AreLater, ticks_before}
use Rattle.rv_devices.specs.Follows.{Follows}
use Rattle.rv_devices.specs.Serves.{completes_before}
use Rattle.rv_devices.proofs.EntryLaws.{AreLater-less}
use Rattle.rv_devices.proofs.StandLaws.{NotBefore-less, NotBefore-own}
use Rattle.rv_devices.proofs.board.Board.advance.Goals as goal

pub returns-clause-stands : goal.returns-clause-stands
returns-clause-stands c = λ script state stands.
    let old = c.args.self.now in
    let step = c.args.step in
    let schedule = c.advance-ticks.new.self in
    let before = ticks_before old.schedule.place script.entries in
    let after = ticks_before schedule.place script.entries in
    let ticks : (c.advance-ticks.result + before) % 2 ^ 64 ≡ after % 2 ^ 64 = rw stands.follows.entries_are at c.advance-ticks.ensures.ticks in
    let follows : Follows script.entries (step + 1) state.taken schedule = c.advance-ticks.ensures.follows script.entries state.taken stands.playable.rises stands.follows in
    let rises : RisesFrom 0 schedule.entries.items = subst (RisesFrom 0) (sym follows.entries_are) stands.playable.rises in
    let far : AreLater c.due.result (drop schedule.place script.entries) = rw follows.entries_are at (c.due.ensures.later rises) in
    record {
      playable = stands.playable;
      begun_is = ap (λ n. n + 1) c.from.ensures;
      numbered = omega arith;
      follows = follows;
      times = c.pulse.ensures.times script.clock (step + 1) before after state.offset ticks (c.advance.ensures.times script.clock before state.offset stands.playable.clock stands.times);
      compare_is = c.pulse.ensures.compare ∙ c.advance.ensures.compare ∙ stands.compare_is;
      serial_is = stands.serial_is;
      serves = c.advance-2.ensures script state stands.serves;
      is_quiet = record {
        entries_later = AreLater-less c.min-self.result c.due.result (drop schedule.place script.entries) (omega (arith, c.min-self.ensures)) far;
        disk = NotBefore-less c.min-self.result (completes_before c.advance-2.new.self.activity) c.advance-2.new.self.activity (omega (arith, c.min-self.ensures, c.due-2.ensures)) (NotBefore-own c.advance-2.new.self.activity);
      };
    }
