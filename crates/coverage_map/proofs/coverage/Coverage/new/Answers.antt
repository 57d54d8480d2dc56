use Rattle.std.proofs.Common.{◌≡◌, ◌∙◌, ◌*◌, false, replicate, ap, rules}
use Rattle.memory_map.specs.declared.TheConstants.{RAM_START}
use Rattle.coverage_map.specs.Coverage.{marked_from}
use Rattle.coverage_map.proofs.MarkLaws.{marked_from-none}
use Rattle.coverage_map.proofs.coverage.Coverage.new.Goals as goal

pub returns-clause-seen : goal.returns-clause-seen
returns-clause-seen c =
    let clear : c.in_ok-marks.marks.items ≡ replicate (256 * c.args.ram_kib) false = search rules in
    record {
      whole = search rules;
      executed = ap (marked_from RAM_START) clear ∙ marked_from-none RAM_START (256 * c.args.ram_kib);
      tallied = search rules;
    }
