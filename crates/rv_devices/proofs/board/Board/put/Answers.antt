use Rattle.std.proofs.Common.{◌≡◌, ◌+◌, ◌∙◌, ap, sym, subst, arith}
use Rattle.memory_map.specs.Halves.{with_high, with_low}
use Rattle.machine_model.specs.Board as model
use Rattle.rv_devices.specs.Stands.{Stands}
use Rattle.rv_devices.proofs.StandLaws.{mtime_is, time_set}
use Rattle.rv_devices.proofs.board.Board.put.Goals as goal

pub returns-in-TimeLow-clause-stands : goal.returns-in-TimeLow-clause-stands
returns-in-TimeLow-clause-stands c = λ script step words state s.
    let board = c.args.self.now in
    let value = c.with_low-self-in-TimeLow.result in
    let is : value ≡ with_low (model.mtime script step state) c.args.value = c.with_low-self-in-TimeLow.ensures ∙ ap (λ n. with_low n c.args.value) (sym (mtime_is script step words state board s)) in
    rw c.in-TimeLow.is (subst (λ n. Stands script (step + 1) words (record state { offset = model.offset_for script step n }) (record board { timer = record board.timer { count = value } })) is (time_set script step words state board value s (omega arith)))

pub returns-in-TimeHigh-clause-stands : goal.returns-in-TimeHigh-clause-stands
returns-in-TimeHigh-clause-stands c = λ script step words state s.
    let board = c.args.self.now in
    let value = c.with_high-self-in-TimeHigh.result in
    let is : value ≡ with_high (model.mtime script step state) c.args.value = c.with_high-self-in-TimeHigh.ensures ∙ ap (λ n. with_high n c.args.value) (sym (mtime_is script step words state board s)) in
    rw c.in-TimeHigh.is (subst (λ n. Stands script (step + 1) words (record state { offset = model.offset_for script step n }) (record board { timer = record board.timer { count = value } })) is (time_set script step words state board value s (omega arith)))

pub returns-in-DiskCommand-clause-stands : goal.returns-in-DiskCommand-clause-stands
returns-in-DiskCommand-clause-stands c = λ script step words state s. rw c.in-DiskCommand.is (c.command.ensures.stands script step words state s)

pub returns-in-DiskStatus-clause-stands : goal.returns-in-DiskStatus-clause-stands
returns-in-DiskStatus-clause-stands c = λ script step words state s.
    rw c.in-DiskStatus.is
    (record {
      playable = s.playable;
      begun_is = s.begun_is;
      numbered = s.numbered;
      follows = s.follows;
      times = s.times;
      compare_is = s.compare_is;
      serial_is = s.serial_is;
      serves = c.acknowledge.ensures.serves script words state s.serves;
      is_quiet = record {
        entries_later = s.is_quiet.entries_later;
        disk = c.acknowledge.ensures.quiet c.args.self.now.quiet s.is_quiet.disk;
      };
    })
