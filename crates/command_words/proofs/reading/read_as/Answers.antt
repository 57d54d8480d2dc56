use Rattle.std.proofs.Common.{None, ap, length, map, string_bytes, arith}
use Rattle.command_words.specs.Roles.{roles}
use Rattle.command_words.proofs.RoleLaws.{plain_few}
use Rattle.command_words.proofs.reading.read_as.Goals as goal

pub command_of-requires : goal.command_of-requires
command_of-requires c =
    let whole = c.in-Ok.ensures.ok in
    omega (arith, plain_few c.args.command (roles 2 None (map string_bytes c.args.words.now)) whole.good, ap length whole.holds.plain)
