use Rattle.std.proofs.Common.{refl, arith}
use Rattle.rv_devices.proofs.EntryLaws.{AreLater-zero}
use Rattle.rv_devices.proofs.schedule.Schedule.new.Goals as goal

pub returns : goal.returns
returns c = record {
  entries_are = refl;
  due = tt;
  later = AreLater-zero c.args.entries.items;
  latency_is = refl;
  within = omega arith;
  left = refl;
  clear = λ below. absurd (omega (arith, below));
  fresh = λ _. refl;
}
