use Rattle.std.proofs.Common.{◌≡◌, ap, subst, refl, arith, [], drop}
use Rattle.machine_model.specs.Script.{Script}
use Rattle.machine_model.specs.Board as model
use Rattle.rv_devices.specs.Follows.{Follows}
use Rattle.rv_devices.specs.Serves.{Serves}
use Rattle.rv_devices.specs.Times.{Times}
use Rattle.rv_devices.proofs.EntryLaws.{AreDue-none, AreLater-zero}
use Rattle.rv_devices.proofs.StandLaws.{NotBefore-zero}
use Rattle.rv_devices.proofs.board.Board.new.Goals as goal

pub returns-clause-stands : goal.returns-clause-stands
returns-clause-stands c =
    let script : Script = c.args.script in
    let view = c.script.view_is in
    let follows : Follows script.entries 0 0 c.new.result = subst (λ l. Follows l 0 0 c.new.result) (ap (λ (s : Script). s.entries) view) c.new.ensures in
    let first : c.new.result.place ≡ 0 = AreDue-none c.new.result.place script.entries follows.due in
    let times : Times script.clock 0 0 0 c.new-2.result = subst (λ n. Times n 0 0 0 c.new-2.result) (ap (λ (s : Script). s.clock) view) (c.new-2.ensures.times (let one = c.requires.script.clock in rw (ap (λ (s : Script). s.clock) view) one)) in
    let serves : Serves script [] (model.reset_board (model.padded c.args.disk.items)) c.new-3.result = subst (λ l. Serves script [] (model.reset_board l) c.new-3.result) c.in_ok-bytes.ensures (c.new-3.ensures.serves script (ap (λ (s : Script). s.sectors) view)) in
    record {
      playable = c.requires.script;
      begun_is = refl;
      numbered = omega arith;
      follows = follows;
      times = rw first times;
      compare_is = c.new-2.ensures.compare;
      serial_is = refl;
      serves = serves;
      is_quiet = record {
        entries_later = AreLater-zero (drop c.new.result.place script.entries);
        disk = NotBefore-zero c.new-3.result.activity;
      };
    }
