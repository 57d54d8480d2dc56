use Rattle.std.proofs.Common.{true, length, ◌<◌, arith}
use Rattle.std.proofs.lemmas.Option.{slice_get_within}
use Rattle.coverage_map.proofs.PlaceLaws.{range_begins_at}
use Rattle.coverage_map.proofs.ranges.range_end.Goals as goal

pub loop-place-init : goal.loop-place-init
loop-place-init c =
    let there : c.args.start < length c.args.marks.now = slice_get_within c.args.marks.now c.args.start true c.requires in
    record { from = omega arith; to = omega arith; range = range_begins_at c.args.marks.now c.args.start c.requires }
